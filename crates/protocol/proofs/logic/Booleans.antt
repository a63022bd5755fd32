-- Tests, both ways: what a list of tests or a test below a count tells, and what shows it.
use Prim.Native.Nat.{ℕ, zero, suc, ◌<◌}
use mathlib.Core.Path.{◌≡◌, refl}
use mathlib.Core.Bool.{Bool, true, false, ◌&&◌, ◌||◌, cond}
use mathlib.Core.List.{List, [], ◌∷◌}
use native.Mathlib.Omega.{arith}
use native.Mathlib.Nat.{eq-or-lt_of_le, le_of_suc-le-suc, not-suc-le-zero}
use mathlib.Core.Logic.{⊎_elim}
use borrow.Author.Tests.{ltb-true, ltb-false, leb-true, leb-false, eqb-true, eqb-false, lt-ltb, le-ltb, le-leb, lt-leb, eq-eqb}
use borrow.Author.Tests.{ne_eqb}
use Rattle.protocol.specs.Form.{all_hold, all_below}

-- For `omega`: tests of numbers, as hypotheses and as goals.
pub ruleset tests = (arith, leb-true, ltb-true, eqb-true, leb-false, ltb-false, eqb-false, le-leb, lt-ltb, eq-eqb, lt-leb, le-ltb, ne_eqb)

pub by-test {ℓ} : {C : Type ℓ} (t : Bool) → (t ≡ true → C) → (t ≡ false → C) → C
by-test true hit miss = hit refl
by-test false hit miss = miss refl

pub by_cond {ℓ κ} : {A : Type ℓ} (P : A → Type κ) (t : Bool) {x y : A} → (t ≡ true → P x) → (t ≡ false → P y) → P (cond t x y)
by_cond P true hit miss = hit refl
by_cond P false hit miss = miss refl

pub and-true : (a b : Bool) → (a && b) ≡ true → (a ≡ true) × (b ≡ true)
and-true true b e = (refl, e)
and-true false b e = (e, cc)

pub or-false : (a b : Bool) → (a || b) ≡ false → (a ≡ false) × (b ≡ false)
or-false true b e = (e, cc)
or-false false b e = (refl, e)

pub true_and : {a b : Bool} → a ≡ true → b ≡ true → (a && b) ≡ true
true_and {a} {b} p q = rw (p, q) refl

-- All tests of a list, one by one.
abbrev pub Each : List Bool → Type 0
Each [] = Unit {0}
Each (t ∷ ts) = (t ≡ true) × Each ts

pub each : (ts : List Bool) → all_hold ts ≡ true → Each ts
unfolding all_hold
each [] e = tt
each (t ∷ ts) e = ((and-true t (all_hold ts) e).0, each ts (and-true t (all_hold ts) e).1)

pub all-hold : (ts : List Bool) → Each ts → all_hold ts ≡ true
unfolding all_hold
all-hold [] h = refl
all-hold (t ∷ ts) h = true_and h.0 (all-hold ts h.1)

-- A test below a count, at one number; and from all of them.
pub at_below : (k : ℕ) (test : ℕ → Bool) → all_below k test ≡ true → (i : ℕ) → i < k → test i ≡ true
unfolding all_below
at_below zero test e i h = absurd (not-suc-le-zero h)
at_below (suc k) test e i h =
    let both = and-true (all_below k test) (test k) e in
    ⊎_elim (λ q. rw q both.1) (λ l. at_below k test both.0 i l) (eq-or-lt_of_le (le_of_suc-le-suc h))

pub all-below : (k : ℕ) (test : ℕ → Bool) → ((i : ℕ) → i < k → test i ≡ true) → all_below k test ≡ true
unfolding all_below
all-below zero test h = refl
all-below (suc k) test h = true_and (all-below k test (λ i l. h i (omega arith))) (h k (omega arith))

-- Two tests that agree below a count.
pub same_below : (k : ℕ) (s t : ℕ → Bool) → ((i : ℕ) → i < k → s i ≡ t i) → all_below k s ≡ all_below k t
unfolding all_below
same_below zero s t h = refl
same_below (suc k) s t h = rw (same_below k s t (λ i l. h i (omega arith)), h k (omega arith)) refl
