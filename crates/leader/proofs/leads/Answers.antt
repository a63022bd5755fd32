-- View 0 has no leader; from view 1 on there is a view before.
use Prim.Native.Nat.{ℕ, zero, suc, ◌-◌, ◌%◌, ◌≤◌}
use mathlib.Core.Path.{◌≡◌, refl, sym}
use native.Mathlib.Omega.{arith}
use lib.Dec.{eqb}
use Rattle.protocol.specs.Memory.{replica_count}
use Rattle.protocol.specs.Leader.{leads}
use Rattle.protocol.proofs.calls.Leaders.{unled}
use Rattle.leader.proofs.leads.Goals as goal

led : (f view i n : ℕ) → 1 ≤ view → n ≡ replica_count f → eqb i ((view - 1) % n) ≡ leads f view i
unfolding leads
led f zero i n first e = absurd (omega arith)
led f (suc before) i n first e = let one : suc before - 1 ≡ before = omega arith in rw (one, e) refl

pub returns-then-view-lt-FIRST_VIEW : goal.returns-then-view-lt-FIRST_VIEW
returns-then-view-lt-FIRST_VIEW c =
    let args = c.args in
    let none = c.if-view-lt-FIRST_VIEW.true in
    sym (unled args.f args.view args.replica (omega arith))

pub returns : goal.returns
returns c = led _ _ _ _ c.if-view-lt-FIRST_VIEW.false c.replica_count.ensures
