-- Refused, or the limit is written; what was found of the replica is what the rule speaks of.
use mathlib.Core.Path.{refl}
use native.Mathlib.Omega.{arith}
use Rattle.protocol.specs.Memory.{update}
use Rattle.protocol.specs.Calls.{reserve as reserve_rule}
use Rattle.checks.proofs.Ready.{row_within}
use Rattle.checks.proofs.Passing.{start, on, accepts, stops}
use Rattle.restart.proofs.Limits.{limit_fits}
use Rattle.restart.proofs.Found.{reserving}
use Rattle.restart.proofs.reserve.Goals as goal

pub returns-in_err-r : goal.returns-in_err-r
unfolding reserve_rule
returns-in_err-r c = stops _ _ _ _ (start _) c.in_err-r.ensures.refusal c.from_residual.ensures

pub counter_step-requires : goal.counter_step-requires
counter_step-requires c =
    let found = reserving c.in_ok-r.ensures in
    omega (arith, row_within _ _ found.ready)

pub overflow_add-limit : goal.overflow_add-limit
overflow_add-limit c =
    let found = reserving c.in_ok-r.ensures in
    rw found.read (record { fits = limit_fits _ _ _ found.ready (rw found.read at c.counter_step.ensures c.args.log.now c.args.blocks.now) })

pub returns-in_err-test_reserve : goal.returns-in_err-test_reserve
returns-in_err-test_reserve c =
    let found = reserving c.in_ok-r.ensures in
    let step = rw found.read at c.counter_step.ensures c.args.log.now c.args.blocks.now in
    stops _ _ _ _ found.at (rw (found.read, step) at c.in_err-test_reserve.ensures) c.from_residual-in_err-test_reserve.ensures

pub set_replica_word-requires : goal.set_replica_word-requires
set_replica_word-requires c =
    let found = reserving c.in_ok-r.ensures in
    omega (arith, row_within _ _ found.ready)

pub returns : goal.returns
unfolding reserve_rule update
returns c =
    let found = reserving c.in_ok-r.ensures in
    let step = rw found.read at c.counter_step.ensures c.args.log.now c.args.blocks.now in
    let tested = on _ _ refl found.at (rw (found.read, step) at c.in_ok-test_reserve.ensures) in
    accepts _ tested (rw (found.read, step) at c.accepted.ensures) (rw (c.set_replica_word.ensures, found.read, step))
