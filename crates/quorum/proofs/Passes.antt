-- The passes over a list: what is left of the list, after what the pass has seen, gives the answer of the whole.
use Prim.Native.Nat.{ℕ, ◌+◌, ◌^◌, ◌≤◌, ◌<◌}
use mathlib.Core.Path.{◌≡◌, refl, sym, ap, ◌∙◌}
use mathlib.Core.Bool.{Bool, true, false, cond, not, ◌&&◌, ◌||◌, and_assoc, and-true, and-false}
use mathlib.Core.List.{List, [], ◌∷◌}
use native.Mathlib.Numerals.{add-one}
use lib.Bits.{bit_or}
use lib.ListN.{length, get_or, drop, drop_of_length-le}
use lib.Seq.{drop-cons}
use lib.Dec.{ltb, eqb}
use Rattle.std.specs.List.{list_all}
use Rattle.protocol.specs.Memory.{Certificate}
use Rattle.protocol.specs.Form.{all_hold}
use Rattle.protocol.specs.Quorum.{every, contains, distinct, signers, greatest_from, greatest, is_quorum}
use Rattle.protocol.proofs.logic.Booleans.{tests}
use Rattle.quorum.specs.inner.Signers.{holds}
use Rattle.quorum.specs.inner.Lists.{certificate_in, certificates_in, Greatest}
use Rattle.quorum.proofs.Bits.{holds_none, holds_with}

-- ---- a test of every item

pub every_is_all : (test : ℕ → Bool) (list : List ℕ) → list_all test list ≡ every test list
unfolding every
every_is_all test [] = refl
every_is_all test (x ∷ xs) = rw (every_is_all test xs) refl

every_true : (test : ℕ → Bool) (xs : List ℕ) → ((x : ℕ) → test x ≡ true) → every test xs ≡ true
unfolding every
every_true test [] h = refl
every_true test (x ∷ xs) h = rw (h x, every_true test xs h) refl

-- ---- different signers, by the bits of those seen

-- None of these is among those seen.
unseen : ℕ → List ℕ → Bool
unseen seen xs = every (λ x. not (holds seen x)) xs

unseen_with : (seen s : ℕ) (xs : List ℕ) → unseen (bit_or seen (2 ^ s)) xs ≡ (not (contains s xs) && unseen seen xs)
unfolding every contains unseen
unseen_with seen s [] = refl
unseen_with seen s (x ∷ xs) =
    rw (holds_with seen s x, unseen_with seen s xs) (swap (eqb s x) (holds seen x) (contains s xs) (unseen seen xs))
  where
    swap : (q h c u : Bool) → (not (q || h) && (not c && u)) ≡ (not (q || c) && (not h && u))
    swap true h c u = refl
    swap false true c u = sym (and-false (not c))
    swap false false c u = refl

-- The pass: each certificate is as the test asks, and its signer is not among those seen.
module _ (test : Certificate → Bool) where
  unfoldable pub passes : ℕ → List Certificate → Bool
  passes seen [] = true
  passes seen (c ∷ cs) = (test c && not (holds seen c.signer)) && passes (bit_or seen (2 ^ c.signer)) cs

  passes_is : (seen : ℕ) (cs : List Certificate)
      → passes seen cs ≡ (every test cs && (unseen seen (signers cs) && distinct (signers cs)))
  unfolding passes every distinct unseen
  passes_is seen [] = refl
  passes_is seen (c ∷ cs) =
      let s : ℕ = c.signer in
      rw (passes_is (bit_or seen (2 ^ s)) cs, unseen_with seen s (signers cs))
      (sort (test c) (not (holds seen s)) (every test cs) (unseen seen (signers cs)) (not (contains s (signers cs)))
      (distinct (signers cs)))
    where
      sort : (t n e u k d : Bool) → ((t && n) && (e && ((k && u) && d))) ≡ ((t && e) && ((n && u) && (k && d)))
      sort false n e u k d = refl
      sort true n false u k d = and-false n
      sort true false true u k d = refl
      sort true true true u false d = sym (and-false u)
      sort true true true u true d = refl

  pub passes_quorum : (cs : List Certificate) → passes 0 cs ≡ is_quorum test cs
  unfolding is_quorum all_hold unseen
  passes_quorum cs =
      passes_is 0 cs
      ∙ rw (every_true (λ x. not (holds 0 x)) (signers cs) (λ x. ap not (holds_none x)), and-true (distinct (signers cs))) refl

  pub passes_step : (log list : List ℕ) (i seen : ℕ) (ok : Bool) → i < length list
      → let c : Certificate = certificate_in log (get_or list i 0) in
      (((ok && test c) && not (holds seen c.signer))
      && passes (bit_or seen (2 ^ c.signer)) (certificates_in log (drop (i + 1) list)))
      ≡ (ok && passes seen (certificates_in log (drop i list)))
  unfolding passes
  passes_step log list i seen ok h = rw (add-one i, drop-cons list i 0) (simp and_assoc)

  pub passes_end : (log list : List ℕ) (i seen : ℕ) (ok : Bool) → length list ≤ i
      → (ok && passes seen (certificates_in log (drop i list))) ≡ ok
  unfolding passes
  passes_end log list i seen ok h = rw (drop_of_length-le list h, and-true ok) refl

-- ---- the greatest of-view

-- The best one before an index, with its of-view, and what is left of the list, give the answer of the whole.
pub record Best (log list : List ℕ) (i best view : ℕ) : Type 0 where
  pub within : best < length list
  pub view_is : view ≡ (certificate_in log (get_or list best 0)).of_view
  pub rest : greatest_from (certificate_in log (get_or list best 0)) (certificates_in log (drop i list)) ≡ greatest (certificates_in log list)

module _ (log list : List ℕ) where
  module _ (i best view : ℕ) (b : Best log list i best view) where
    step : i < length list → (t : Bool)
        → ltb (certificate_in log (get_or list best 0)).of_view (certificate_in log (get_or list i 0)).of_view ≡ t
        → let next : Certificate = cond t (certificate_in log (get_or list i 0)) (certificate_in log (get_or list best 0)) in
        greatest_from next (certificates_in log (drop (i + 1) list)) ≡ greatest (certificates_in log list)
    unfolding greatest_from
    step h t e = rw (← e, add-one i) (rw (drop-cons list i 0) at b.rest)

    pub best_taken : (v : ℕ) → i < length list → v ≡ (certificate_in log (get_or list i 0)).of_view → view < v
        → Best log list (i + 1) i v
    best_taken v h e l = let q = b.view_is in record { within = h; view_is = e; rest = step h true (omega tests) }

    pub best_kept : (v : ℕ) → i < length list → v ≡ (certificate_in log (get_or list i 0)).of_view → v ≤ view
        → Best log list (i + 1) best view
    best_kept v h e l =
        let q = b.view_is in
        record { within = b.within; view_is = q; rest = step h false (omega tests) }

    pub best_end : length list ≤ i → Greatest log list best
    unfolding greatest_from
    best_end h = record { within = b.within; is = rw (drop_of_length-le list h) at b.rest }
