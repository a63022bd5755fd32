-- What `need` tells: a need that holds, its test; one that fails, its number.
use Prim.Native.Nat.{ℕ}
use mathlib.Core.Path.{◌≡◌, refl}
use mathlib.Core.Bool.{Bool, true, false}
use native.Mathlib.Omega.{arith}
use Rattle.std.specs.Prelude.{Result, Ok, Err, cond}
use Rattle.protocol.specs.declared.Refusal.{Refusal}

pub needed : (t : Bool) (r : Refusal) {u : Unit {0}} → ◌≡◌ {A = Result (Unit {0}) Refusal} (Ok u) (cond t (Ok tt) (Err r)) → t ≡ true
needed true r e = refl
needed false r e = let clash : ◌≡◌ {A = ℕ} 0 1 = cc in absurd (omega arith)
