-- Each call by its own contract.
use Rattle.protocol.specs.Runs.{rule_of, step}
use Rattle.ledger.proofs.invoke.Goals as goal

pub returns-in-Open : goal.returns-in-Open
unfolding step rule_of
returns-in-Open c = rw c.in-Open.is c.open_ledger.ensures

pub returns-in-Block : goal.returns-in-Block
unfolding step rule_of
returns-in-Block c = rw c.in-Block.is c.block.ensures

pub returns-in-Prepare : goal.returns-in-Prepare
unfolding step rule_of
returns-in-Prepare c = rw c.in-Prepare.is c.prepare.ensures

pub returns-in-Store : goal.returns-in-Store
unfolding step rule_of
returns-in-Store c = rw c.in-Store.is c.store.ensures

pub returns-in-View : goal.returns-in-View
unfolding step rule_of
returns-in-View c = rw c.in-View.is c.view.ensures

pub returns-in-Accumulate : goal.returns-in-Accumulate
unfolding step rule_of
returns-in-Accumulate c = rw c.in-Accumulate.is c.accumulate.ensures

pub returns-in-Decide : goal.returns-in-Decide
unfolding step rule_of
returns-in-Decide c = rw c.in-Decide.is c.decide.ensures

pub returns-in-Reboot : goal.returns-in-Reboot
unfolding step rule_of
returns-in-Reboot c = rw c.in-Reboot.is c.reboot.ensures

pub returns-in-Reserve : goal.returns-in-Reserve
unfolding step rule_of
returns-in-Reserve c = rw c.in-Reserve.is c.reserve.ensures

pub returns-in-Request : goal.returns-in-Request
unfolding step rule_of
returns-in-Request c = rw c.in-Request.is c.request.ensures

pub returns-in-Reply : goal.returns-in-Reply
unfolding step rule_of
returns-in-Reply c = rw c.in-Reply.is c.reply.ensures

pub returns-in-Recover : goal.returns-in-Recover
unfolding step rule_of
returns-in-Recover c = rw c.in-Recover.is c.recover.ensures
