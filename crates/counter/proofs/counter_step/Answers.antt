-- The step's number is the boot's, or the last.
use Rattle.protocol.specs.Counter.{counter_step}
use borrow.Author.Rules.{rules}
use Rattle.counter.proofs.counter_step.Goals as goal

pub returns : goal.returns
unfolding counter_step
returns c l b = search rules
