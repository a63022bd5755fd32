-- Each refusal is that of the first need that fails; where all up to the movements hold, the balance is asked for.
use mathlib.Core.Path.{sym, ◌∙◌}
use native.Mathlib.Omega.{arith}
use Rattle.checks.proofs.Needed.{needed}
use Rattle.checks.proofs.Passing.{stops_at, need_stops_at, replica_known}
use Rattle.netting.proofs.Refusing.{refused_by, at_list, at_replica, at_block, nettable, answers_balance}
use Rattle.netting.proofs.net.Goals as goal

pub returns-in_err-need : goal.returns-in_err-need
returns-in_err-need c =
    refused_by _ _ _ _ _ _ _ _ c.from_residual.ensures
    (need_stops_at _ _ (at_list _ _ _ _ _ _) _ _ (rw c.is_movement_list.ensures at c.in_err-need.ensures))

pub returns-in_err-find_replica : goal.returns-in_err-find_replica
returns-in_err-find_replica c =
    let whole = sym c.is_movement_list.ensures ∙ needed _ _ c.in_ok-need.ensures in
    refused_by _ _ _ _ _ _ _ _ c.from_residual-in_err-find_replica.ensures
    (stops_at _ _ _ _ (at_replica _ _ _ _ _ _ whole) c.in_err-find_replica.ensures.refusal)

pub bounds-table-2 : goal.bounds-table-2
bounds-table-2 c =
    let known = replica_known _ _ c.in_ok-find_replica.ensures.refusal c.in_ok-find_replica.ensures.found in
    omega (arith, known.ready.sizes)

pub returns-in_err-need-2 : goal.returns-in_err-need-2
returns-in_err-need-2 c =
    let whole = sym c.is_movement_list.ensures ∙ needed _ _ c.in_ok-need.ensures in
    let known = replica_known _ _ c.in_ok-find_replica.ensures.refusal c.in_ok-find_replica.ensures.found in
    refused_by _ _ _ _ _ _ _ _ c.from_residual-in_err-need-2.ensures
    (need_stops_at _ _ (at_block _ _ _ _ _ _ whole known.ready) _ _ c.in_err-need-2.ensures)

pub replica_count-replicas-requires : goal.replica_count-replicas-requires
replica_count-replicas-requires c =
    let known = replica_known _ _ c.in_ok-find_replica.ensures.refusal c.in_ok-find_replica.ensures.found in
    omega (arith, known.ready.sizes)

pub balance_at-requires : goal.balance_at-requires
balance_at-requires c =
    let whole = sym c.is_movement_list.ensures ∙ needed _ _ c.in_ok-need.ensures in
    let known = replica_known _ _ c.in_ok-find_replica.ensures.refusal c.in_ok-find_replica.ensures.found in
    rw c.replica_count-replicas.ensures (nettable _ _ _ _ _ _ whole known.ready (needed _ _ c.in_ok-need-2.ensures))

pub returns : goal.returns
returns c =
    let whole = sym c.is_movement_list.ensures ∙ needed _ _ c.in_ok-need.ensures in
    let known = replica_known _ _ c.in_ok-find_replica.ensures.refusal c.in_ok-find_replica.ensures.found in
    answers_balance _ _ _ _ _ _ whole known.ready (needed _ _ c.in_ok-need-2.ensures) _
    (rw c.replica_count-replicas.ensures at c.balance_at.ensures)
