-- Row after row.
use mathlib.Core.Path.{refl}
use native.Mathlib.Omega.{arith}
use native.Mathlib.Numerals.{add-one}
use Rattle.opening.specs.inner.Fresh.{fresh_rows}
use Rattle.opening.proofs.fresh_rows.Goals as goal

pub loop-replica-init : goal.loop-replica-init
unfolding fresh_rows
loop-replica-init c = (omega arith, refl, refl)

pub loop-replica-preserved : goal.loop-replica-preserved
unfolding fresh_rows
loop-replica-preserved c =
    let inv = c.loop-replica.invariant in
    (omega arith, rw (add-one, ← inv.1) c.fresh_row.ensures, omega (arith, inv.2))
