-- Lines of parents: a block's ancestors, as the steps up to them; and what the tests and heights of specs/Ancestry.antt say of them.
use Prim.Native.Nat.{ℕ, zero, suc, ◌+◌, ◌≤◌, ◌<◌}
use mathlib.Core.Path.{◌≡◌, refl, ap}
use mathlib.Core.Bool.{true, false, or-true}
use native.Mathlib.Omega.{arith}
use lib.Dec.{eqb}
use Rattle.protocol.specs.Ancestry.{ancestor_within, Falls, is_ancestor_by, steps_to_root, height_by}
use Rattle.protocol.proofs.logic.Booleans.{tests, by-test, by_cond}

-- Block a is block b, or is in the line of b's parent, for b not 0.
pub data IsAncestor (parent_of : ℕ → ℕ) (a : ℕ) : ℕ → Type 0 where
  self : IsAncestor parent_of a a
  up : {b : ℕ} → (b ≡ 0 → ⊥) → IsAncestor parent_of a (parent_of b) → IsAncestor parent_of a b

-- ---- lines are the same where the parents are

pub ancestor_same : (p q : ℕ → ℕ) (count : ℕ) → Falls p count → ((b : ℕ) → b < count → p b ≡ q b) → {a b : ℕ} → b < count → IsAncestor p a b
    → IsAncestor q a b
ancestor_same p q count falls same l self = self
ancestor_same p q count falls same {a} {b} l (up n w) =
    let lower = falls b l n in
    let e = same b l in
    up n (rw (← e) (ancestor_same p q count falls same (omega arith) w))

-- ---- the test, and the height, by steps: more steps than the block's number change nothing

ancestor_found : (p : ℕ → ℕ) (count : ℕ) → Falls p count → {a b : ℕ} → (steps : ℕ) → b ≤ steps → b < count → IsAncestor p a b
    → ancestor_within p steps a b ≡ true
unfolding ancestor_within
ancestor_found p count falls zero le l self = omega tests
ancestor_found p count falls {a} (suc steps) le l self = let e : eqb a a ≡ true = omega tests in rw e refl
ancestor_found p count falls {a} {b} zero le l (up n w) = absurd (n (omega arith))
ancestor_found p count falls {a} {b} (suc steps) le l (up n w) =
    let lower = falls b l n in
    let found = ancestor_found p count falls steps (omega arith) (omega arith) w in
    let e : eqb b 0 ≡ false = omega tests in
    rw (e, found) (or-true (eqb a b))

pub is-ancestor : (p : ℕ → ℕ) (count : ℕ) → Falls p count → {a b : ℕ} → b < count → IsAncestor p a b → is_ancestor_by p a b ≡ true
is-ancestor p count falls {a} {b} l w = ancestor_found p count falls b (omega arith) l w

-- Heights with steps to spare.
steps_same : (p q : ℕ → ℕ) (count : ℕ) → Falls p count → ((b : ℕ) → b < count → p b ≡ q b) → (b s t : ℕ) → b < count → b ≤ s
    → b ≤ t → steps_to_root p s b ≡ steps_to_root q t b
unfolding steps_to_root
steps_same p q count falls same b zero zero l x y = refl
steps_same p q count falls same b zero (suc t) l x y = let e : eqb b 0 ≡ true = omega tests in rw e refl
steps_same p q count falls same b (suc s) zero l x y = let e : eqb b 0 ≡ true = omega tests in rw e refl
steps_same p q count falls same b (suc s) (suc t) l x y =
    by-test (eqb b 0) (λ e. rw e refl)
    (λ e.
    let lower = falls b l (omega tests) in
    rw (e, ← same b l, steps_same p q count falls same (p b) s t (omega arith) (omega arith) (omega arith)) refl)

pub height_same : (p q : ℕ → ℕ) (count : ℕ) → Falls p count → ((b : ℕ) → b < count → p b ≡ q b) → (b : ℕ) → b < count
    → height_by p b ≡ height_by q b
height_same p q count falls same b l = steps_same p q count falls same b b b l (omega arith) (omega arith)

pub height_up : (p : ℕ → ℕ) (count : ℕ) → Falls p count → (b : ℕ) → b < count → (b ≡ 0 → ⊥) → height_by p b ≡ height_by p (p b) + 1
unfolding steps_to_root
height_up p count falls zero l n = absurd (n refl)
height_up p count falls (suc b) l n =
    let lower = falls (suc b) l n in
    let e : eqb (suc b) 0 ≡ false = omega tests in
    let same = steps_same p p count falls (λ x y. refl) (p (suc b)) b (p (suc b)) (omega arith) (omega arith) (omega arith) in
    rw e (ap (λ (h : ℕ). h + 1) same)

-- An ancestor is not higher.
pub ancestor_height : (p : ℕ → ℕ) (count : ℕ) → Falls p count → {a b : ℕ} → b < count → IsAncestor p a b → height_by p a ≤ height_by p b
ancestor_height p count falls l self = omega arith
ancestor_height p count falls {a} {b} l (up n w) =
    let lower = falls b l n in
    let e = height_up p count falls b l n in
    let h = ancestor_height p count falls (omega arith) w in
    omega arith

-- A block's height is at most its number.
pub height_at_most : (p : ℕ → ℕ) (b : ℕ) → height_by p b ≤ b
unfolding steps_to_root
height_at_most p b = go b b
  where
    go : (steps b : ℕ) → steps_to_root p steps b ≤ steps
    go zero b = omega arith
    go (suc steps) b = let rest = go steps (p b) in by_cond (λ (h : ℕ). h ≤ suc steps) (eqb b 0) (λ e. omega arith) (λ e. omega arith)
