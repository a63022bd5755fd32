-- Each turn of the loop sends bytes or uses up a try.
use Rattle.std.proofs.Common.{◌+◌, ◌<◌, length}
use Rattle.yard.proofs.write_text.Given as goal

abbrev pub invariant-loop-rest : goal.invariant-loop-rest
invariant-loop-rest l = 0 < l.tries

abbrev pub decreases-loop-rest : goal.decreases-loop-rest
decreases-loop-rest l = length l.rest + l.tries
