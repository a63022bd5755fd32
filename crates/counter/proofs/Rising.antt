-- The form of eight steps, from the order of their list, its first and its last.
use Prim.Native.Nat.{ℕ, suc, ◌<◌}
use mathlib.Core.Path.{◌≡◌, sym}
use mathlib.Core.Bool.{Bool, true, false, ◌&&◌}
use mathlib.Core.List.{List}
use native.Mathlib.Omega.{arith}
use native.Mathlib.Numerals.{add-one}
use lib.Dec.{leb}
use lib.ListN.{length, get_or}
use Rattle.std.specs.List.{IsAllAdjacentAnswer}
use Rattle.std.specs.Ordering.{nat_cmp, is_le, is_some_and}
use Rattle.std.proofs.Common.{Some}
use Rattle.std.proofs.lemmas.List.Sorted.{non_decreasing_from_is_sorted}
use Rattle.protocol.specs.Memory.{step_count, last_step}
use Rattle.protocol.specs.Form.{max_step, steps_formed}
use Rattle.protocol.proofs.logic.Booleans.{tests, by-test, and-true, true_and, each, all-hold, at_below, all-below}
use Rattle.protocol.proofs.logic.Joined.{same_test}

module _ (list : List ℕ) (eight : length list ≡ step_count) where
  abbrev step : ℕ → ℕ
  step k = get_or list k 0

  range : steps_formed step ≡ true → (k : ℕ) → k < step_count → (leb 1 (step k) ≡ true) × (leb (step k) max_step ≡ true)
  unfolding steps_formed
  range e k l = let both = each _ (at_below _ _ (each _ e).0 k l) in (both.0, both.1.0)

  pub sorted_formed : (sorted : Bool) → IsAllAdjacentAnswer (λ x y b. is_some_and is_le (Some (nat_cmp x y)) ≡ b) list sorted
      → ((sorted && leb 1 (step 0)) && leb (step last_step) max_step) ≡ steps_formed step
  unfolding steps_formed
  sorted_formed true h =
      let order = non_decreasing_from_is_sorted list true h in
      same_test _ _
      (λ e.
      let both = and-true (leb 1 (step 0)) (leb (step last_step) max_step) e in
      all-hold _ (
        all-below _ _
            (λ k l.
            let low = order 0 k 0 (omega arith) (omega arith) in
            let high = order k last_step 0 (omega arith) (omega arith) in
            all-hold _ (omega tests)),
        (all-below _ _ (λ k l. let o = order k (suc k) 0 (omega arith) (omega arith) in omega tests), tt),
      ))
      (λ e. let low = range e 0 (omega arith) in let high = range e last_step (omega arith) in true_and low.0 high.1)
  sorted_formed false h =
      let falls = non_decreasing_from_is_sorted list false h in
      by-test (steps_formed step)
      (λ e. let o = at_below _ _ (each _ e).1.0 falls.0 (omega arith) in let f = rw add-one at (falls.2 0) in absurd (omega tests)) sym
