-- The words of a replica are read once the form and its number are tested.
use mathlib.Core.Path.{sym, ◌∙◌}
use native.Mathlib.Omega.{arith}
use Rattle.protocol.proofs.logic.Booleans.{tests}
use Rattle.protocol.proofs.memory.Formed.{formed, sizes}
use Rattle.checks.proofs.Needed.{needed}
use Rattle.checks.proofs.find_replica.Goals as goal

pub bounds-table-0 : goal.bounds-table-0
bounds-table-0 c =
    let z = sizes _ (formed _ (sym c.is_well_formed.ensures ∙ needed _ _ c.in_ok-need.ensures)) in
    omega (arith, z)

pub replica_count-requires : goal.replica_count-requires
replica_count-requires c =
    let z = sizes _ (formed _ (sym c.is_well_formed.ensures ∙ needed _ _ c.in_ok-need.ensures)) in
    z.faults_high

pub replica_in-requires : goal.replica_in-requires
replica_in-requires c =
    let z = sizes _ (formed _ (sym c.is_well_formed.ensures ∙ needed _ _ c.in_ok-need.ensures)) in
    omega (tests, z, needed _ _ c.in_ok-need-2.ensures, c.replica_count.ensures)
