-- Tests of the numbers of a range, as an iterator over it goes: they are those below a count.
use Prim.Native.Nat.{ℕ, zero, suc, ◌+◌}
use mathlib.Core.Path.{◌≡◌, refl, ap, ◌∙◌}
use mathlib.Core.Bool.{Bool, true, ◌&&◌}
use native.Mathlib.Omega.{arith}
use Rattle.std.specs.List.{range_with_len, list_all, fold}
use Rattle.std.proofs.Math.Bool.{and_assoc, and-true}
use Rattle.protocol.specs.Form.{all_below}
use Rattle.protocol.proofs.logic.Below.{one_more}

module _ (test : ℕ → Bool) where
  -- From a number on, where those below it hold or not.
  all_on : (n k : ℕ) → all_below k test && list_all test (range_with_len k n) ≡ all_below (k + n) test
  all_on zero k = let z : k + zero ≡ k = omega arith in rw (z, and-true (all_below k test)) refl
  all_on (suc n) k =
      let e : k + 1 + n ≡ k + suc n = omega arith in
      rw (← e, ← all_on n (k + 1), ← one_more test k, and_assoc (all_below k test) (test k) (list_all test (range_with_len (k + 1) n))) refl

  folded_on : (n k : ℕ) → fold (λ so_far i. so_far && test i) (all_below k test) (range_with_len k n) ≡ all_below (k + n) test
  folded_on zero k = let z : k + zero ≡ k = omega arith in rw z refl
  folded_on (suc n) k =
      let e : k + 1 + n ≡ k + suc n = omega arith in
      ap (λ (t : Bool). fold (λ so_far i. so_far && test i) t (range_with_len (k + 1) n)) (one_more test k) ∙ rw e at (folded_on n (k + 1))

  pub all_of_range : (n : ℕ) → list_all test (range_with_len 0 n) ≡ all_below n test
  unfolding all_below
  all_of_range n = let z : 0 + n ≡ n = omega arith in rw z at (all_on n 0)

  pub all_folded : (n : ℕ) → fold (λ so_far i. so_far && test i) true (range_with_len 0 n) ≡ all_below n test
  unfolding all_below
  all_folded n = let z : 0 + n ≡ n = omega arith in rw z at (folded_on n 0)
