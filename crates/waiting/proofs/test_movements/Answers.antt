use native.Mathlib.Omega.{arith}
use Rattle.waiting.proofs.Known.{known}
use Rattle.waiting.proofs.test_movements.Goals as goal

pub bounds-table-2 : goal.bounds-table-2
bounds-table-2 c = omega (arith, (known _ c.in_ok-replicas.ensures.refusal).sizes)
