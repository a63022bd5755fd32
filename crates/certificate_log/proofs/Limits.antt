-- A certificate has its form where it is of some kind and none of its words is above the greatest that it may be; so of a group.
use Prim.Native.Nat.{ℕ, zero, suc, ◌+◌, ◌-◌, ◌≤◌, ◌<◌}
use mathlib.Core.Path.{◌≡◌, refl, sym, ◌∙◌}
use mathlib.Core.Bool.{Bool, true, false, not, ◌&&◌, ◌||◌}
use mathlib.Core.List.{List}
use native.Mathlib.Omega.{arith}
use lib.ListN.{get_or}
use lib.Dec.{eqb}
use borrow.Author.Tests.{not-true, not-false}
use Rattle.protocol.specs.Memory.{certificate_at, kind_at}
use Rattle.protocol.specs.Form.{all_below, certificate_formed}
use Rattle.protocol.proofs.logic.Booleans.{tests, each, all-hold, at_below, all-below}
use Rattle.protocol.proofs.logic.Below.{next_group, refuted}
use Rattle.protocol.proofs.logic.Joined.{none_of, any_none}
use Rattle.certificate_log.specs.inner.Records.{certificate_ok, has_kind, excesses, exceeds, some_below, group_size, group_has_kinds, group_exceeds}

some_not : (k : ℕ) (test : ℕ → Bool) → some_below k test ≡ not (all_below k (λ i. not (test i)))
unfolding some_below all_below
some_not zero test = refl
some_not (suc k) test = rw (some_not k test) (go (all_below k (λ i. not (test i))) (test k))
  where
    go : (a t : Bool) → not a || t ≡ not (a && not t)
    go true true = refl
    go true false = refl
    go false t = refl

module _ (log : List ℕ) (replicas added : ℕ) (r : 1 ≤ replicas) (b : 1 ≤ added) where
  abbrev ok : ℕ → Bool
  ok = certificate_ok log replicas added

  abbrev over : ℕ → Bool
  over = exceeds log (replicas - 1) (added - 1)

  pub formed : (c : ℕ) → has_kind log (certificate_at c) ≡ true → over (certificate_at c) ≡ false → ok c ≡ true
  unfolding has_kind exceeds certificate_formed
  formed c kind none =
      let some = not-true (eqb (get_or log (certificate_at c + kind_at) 0) 0) kind in
      let below = none_of (excesses log (replicas - 1) (added - 1) (certificate_at c)) none in
      all-hold _ (omega tests)

  of_some_kind : (c : ℕ) → ok c ≡ true → has_kind log (certificate_at c) ≡ true
  unfolding has_kind certificate_formed
  of_some_kind c e =
      let h = each _ e in
      let some : eqb (get_or log (certificate_at c + kind_at) 0) 0 ≡ false = omega tests in
      rw some refl

  none_over : (c : ℕ) → ok c ≡ true → over (certificate_at c) ≡ false
  unfolding exceeds certificate_formed
  none_over c e = let h = each _ e in any_none (excesses log (replicas - 1) (added - 1) (certificate_at c)) (omega tests)

  pub kind_refutes : (c end : ℕ) → c < end → has_kind log (certificate_at c) ≡ false → false ≡ all_below end ok
  kind_refutes c end l = refuted ok end _ (λ all. of_some_kind c (all c l))

  pub limit_refutes : (c end : ℕ) → c < end → over (certificate_at c) ≡ true → false ≡ all_below end ok
  limit_refutes c end l e = refuted ok end (not (over (certificate_at c))) (λ all. rw (none_over c (all c l)) refl) (rw e refl)

  -- ---- of a group

  module _ (number : ℕ) where
    abbrev its_over : ℕ → Bool
    its_over j = over (certificate_at number + certificate_at j)

    its : (j : ℕ) → certificate_at number + certificate_at j ≡ certificate_at (number + j)
    its j = omega arith

    pub group_formed : all_below number ok ≡ true → group_has_kinds log (certificate_at number) ≡ true
        → group_exceeds log (replicas - 1) (added - 1) (certificate_at number) ≡ false → all_below (number + group_size) ok ≡ true
    unfolding group_has_kinds group_exceeds
    group_formed all kinds none =
        let within = not-false _ (sym (some_not group_size its_over) ∙ none) in
        next_group ok group_size number all
        (λ j l.
        formed (number + j) (rw (its j) at (at_below group_size _ kinds j l))
        (rw (its j) at (not-true (its_over j) (at_below group_size (λ j. not (its_over j)) within j l))))

    pub group_kinds_refute : (end : ℕ) → number + group_size ≤ end → group_has_kinds log (certificate_at number) ≡ false → false ≡ all_below end ok
    unfolding group_has_kinds
    group_kinds_refute end h =
        refuted ok end _ (λ all. all-below group_size _ (λ j l. rw (its j) (of_some_kind (number + j) (all (number + j) (omega arith)))))

    pub group_limits_refute : (end : ℕ) → number + group_size ≤ end
        → group_exceeds log (replicas - 1) (added - 1) (certificate_at number) ≡ true → false ≡ all_below end ok
    unfolding group_exceeds
    group_limits_refute end h e =
        refuted ok end _
        (λ all.
        all-below group_size (λ j. not (its_over j)) (λ j l. rw (its j, none_over (number + j) (all (number + j) (omega arith))) refl))
        (not-true _ (sym (some_not group_size its_over) ∙ e))
