use native.Mathlib.Omega.{arith}
use mathlib.Core.Path.{sym, ◌∙◌}
use Rattle.protocol.proofs.memory.Formed.{formed, sizes}
use Rattle.checks.proofs.Needed.{needed}
use Rattle.waiting.proofs.test_form.Goals as goal

pub bounds-table-0 : goal.bounds-table-0
bounds-table-0 c = omega (arith, sizes _ (formed _ (sym c.is_well_formed.ensures ∙ needed _ _ c.in_ok-need.ensures)))

pub replica_count-replicas-requires : goal.replica_count-replicas-requires
replica_count-replicas-requires c = omega (arith, sizes _ (formed _ (sym c.is_well_formed.ensures ∙ needed _ _ c.in_ok-need.ensures)))
