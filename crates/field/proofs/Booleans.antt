-- Tests of numbers, for `omega`, and the two cases of a test.
use mathlib.Core.Path.{◌≡◌, refl}
use mathlib.Core.Bool.{Bool, true, false}
use native.Mathlib.Omega.{arith}
use borrow.Author.Tests.{ltb-true, ltb-false, leb-true, leb-false, eqb-true, eqb-false, lt-ltb, le-leb, lt-leb, eq-eqb}
use borrow.Author.Tests.{ne_eqb}

pub ruleset tests = (arith, leb-true, ltb-true, eqb-true, leb-false, ltb-false, eqb-false, le-leb, lt-ltb, eq-eqb, lt-leb, ne_eqb)

pub by-test {ℓ} : {C : Type ℓ} (t : Bool) → (t ≡ true → C) → (t ≡ false → C) → C
by-test true hit miss = hit refl
by-test false hit miss = miss refl
