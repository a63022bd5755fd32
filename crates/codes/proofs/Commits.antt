-- The ways that reading a word of the list's first certificate goes; and codes that are none.
use Prim.Native.Nat.{ℕ, zero, suc, ◌≤◌}
use mathlib.Core.Path.{◌≡◌, refl, sym}
use mathlib.Core.Bool.{true, false}
use mathlib.Core.List.{List, [], ◌∷◌}
use lib.ListN.{length, get_or, get_or-eq_default}
use Rattle.protocol.specs.Memory.{Memory, certificate_count_at, certificate_count, certificate_word}
use Rattle.protocol.specs.Quorum.{is_issued}
use Rattle.protocol.proofs.logic.Booleans.{tests}
use Rattle.codes.specs.Codes.{claimed_word, no_call, code_table, coded_call}

module _ (m : Memory) (k : ℕ) where
  pub no_list : (list : List ℕ) → length list ≡ 0 → 0 ≡ claimed_word m list k
  unfolding claimed_word
  no_list [] e = refl
  no_list (x ∷ xs) e = absurd (omega tests)

  pub not_issued : (list : List ℕ) → is_issued m (get_or list 0 0) ≡ false → 0 ≡ claimed_word m list k
  unfolding claimed_word
  not_issued [] e = refl
  not_issued (x ∷ xs) e = rw e refl

  pub claimed : (list : List ℕ) → (length list ≡ 0 → ⊥) → is_issued m (get_or list 0 0) ≡ true
      → certificate_word m (get_or list 0 0) k ≡ claimed_word m list k
  unfolding claimed_word
  claimed [] n e = absurd (n refl)
  claimed (x ∷ xs) n e = rw e refl

  -- A table without a count issues nothing.
  pub no_count : (list : List ℕ) → length m.table ≤ certificate_count_at → 0 ≡ claimed_word m list k
  no_count list l =
      let z : certificate_count m ≡ 0 = get_or-eq_default m.table 0 l in
      not_issued list (omega tests)

-- A code above one bound that is not the next number is above the next bound.
above : (k code : ℕ) → k ≤ code → (code ≡ k → ⊥) → suc k ≤ code
above k code l n = omega tests

-- None of the numbers below a count.
abbrev pub NoneBelow : ℕ → ℕ → Type 0
NoneBelow zero code = Unit {0}
NoneBelow (suc k) code = NoneBelow k code × (code ≡ k → ⊥)

none_below : (k code : ℕ) → NoneBelow k code → k ≤ code
none_below zero code h = omega tests
none_below (suc k) code h = above k code (none_below k code h.0) h.1

pub unknown_code : (m : Memory) (code replica number : ℕ) (list : List ℕ) → NoneBelow 13 code
    → no_call ≡ coded_call m code replica number list
unfolding code_table
unknown_code m code replica number list h =
    sym (get_or-eq_default (code_table m replica number list) no_call (none_below 13 code h))
