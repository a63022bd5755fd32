-- Refused; or the entry that is found leaves.
use mathlib.Core.Path.{refl}
use mathlib.Core.List.{[]}
use Rattle.protocol.specs.Memory.{memory}
use Rattle.entries.specs.Waiting.{lent, waiting_rule, withdraw_rule, waiting_step}
use Rattle.checks.proofs.Passing.{stops, on, accepts}
use Rattle.waiting.proofs.Calls.{to_withdraw, withdrawing}
use Rattle.waiting.proofs.Leaving.{leavable, left_departed}
use Rattle.waiting.proofs.withdraw.Goals as goal

pub returns-in_err-test_form : goal.returns-in_err-test_form
unfolding waiting_step
returns-in_err-test_form c = stops _ _ _ _ (to_withdraw _ _) c.in_err-test_form.ensures.refusal c.from_residual.ensures

pub find_slot-requires : goal.find_slot-requires
find_slot-requires c =
    let formed = withdrawing _ c.in_ok-test_form.ensures.refusal c.args.identity in
    (formed.known.size, formed.known.few)

pub returns-in_err-slot : goal.returns-in_err-slot
unfolding waiting_step
returns-in_err-slot c =
    let formed = withdrawing _ c.in_ok-test_form.ensures.refusal c.args.identity in
    stops _ _ _ [] formed.at c.in_err-slot.ensures.refusal c.from_residual-in_err-slot.ensures

pub leave-requires : goal.leave-requires
leave-requires c =
    let formed = withdrawing _ c.in_ok-test_form.ensures.refusal c.args.identity in
    leavable _ formed.known _ c.in_ok-slot.ensures.found.within

pub returns : goal.returns
unfolding waiting_step waiting_rule withdraw_rule
returns c =
    let a = c.args in
    let s = lent (memory a.table.now a.log.now a.blocks.now) a.waiting.now in
    let formed = withdrawing s c.in_ok-test_form.ensures.refusal a.identity in
    let found = on _ [] refl formed.at c.in_ok-slot.ensures.refusal in
    accepts _ found c.accepted.ensures (rw (c.leave.ensures, left_departed _ _ _ c.in_ok-slot.ensures.found) refl)
