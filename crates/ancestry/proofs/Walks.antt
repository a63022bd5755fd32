-- What a walk up the parents finds, one step at a time, for any parents that fall.
use Prim.Native.Nat.{ℕ, zero, suc, ◌≤◌, ◌<◌}
use mathlib.Core.Path.{◌≡◌, refl, sym}
use mathlib.Core.Bool.{true, false, or-false}
use native.Mathlib.Omega.{arith}
use lib.Dec.{eqb}
use Rattle.protocol.specs.Ancestry.{ancestor_within, Falls, is_ancestor_by}
use Rattle.protocol.proofs.logic.Booleans.{tests, by-test}

module _ (p : ℕ → ℕ) (count : ℕ) (falls : Falls p count) (a : ℕ) where
  -- A block that is not above a has a in its line only if it is a.
  pub walk_ends : (steps b : ℕ) → b < count → b ≤ a → ancestor_within p steps a b ≡ eqb a b
  unfolding ancestor_within
  walk_ends zero b l h = refl
  walk_ends (suc steps) b l h =
      by-test (eqb b 0) (λ e. rw e (or-false (eqb a b)))
      (λ e.
      let lower = falls b l (omega tests) in
      let other : eqb a (p b) ≡ false = omega tests in
      rw (e, walk_ends steps (p b) (omega arith) (omega arith), other) (or-false (eqb a b)))

  -- Steps that reach block 0 are enough: more change nothing, nor do other parents above the count.
  pub walk_same : (q : ℕ → ℕ) → ((b : ℕ) → b < count → p b ≡ q b) → (s t b : ℕ) → b < count → b ≤ s → b ≤ t
      → ancestor_within p s a b ≡ ancestor_within q t a b
  unfolding ancestor_within
  walk_same q same zero zero b l x y = refl
  walk_same q same zero (suc t) b l x y = let e : eqb b 0 ≡ true = omega tests in rw e (sym (or-false (eqb a b)))
  walk_same q same (suc s) zero b l x y = walk_ends (suc s) b l (omega arith)
  walk_same q same (suc s) (suc t) b l x y =
      by-test (eqb b 0) (λ e. rw e refl)
      (λ e.
      let lower = falls b l (omega tests) in
      rw (e, ← same b l, walk_same q same s t (p b) (omega arith) (omega arith) (omega arith)) refl)

  -- A block above a has a in its line if its parent has.
  pub walk_goes_on : (b : ℕ) → b < count → a < b → is_ancestor_by p a b ≡ is_ancestor_by p a (p b)
  unfolding ancestor_within
  walk_goes_on zero l h = absurd (omega arith)
  walk_goes_on (suc n) l h =
      let lower = falls (suc n) l (omega arith) in
      let other : eqb a (suc n) ≡ false = omega tests in
      let above : eqb (suc n) 0 ≡ false = omega tests in
      rw (other, above) (walk_same p (λ x y. refl) n (p (suc n)) (p (suc n)) (omega arith) (omega arith) (omega arith))
