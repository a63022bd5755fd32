-- A withdrawal has no value.
use Rattle.firmware.proofs.Waiting.{withdrawn_valueless}
use Rattle.firmware.proofs.yard_withdraw.Goals as goal

pub returns : goal.returns
returns c = rw c.number_in.ensures (withdrawn_valueless _ _ _ c.withdraw.ensures)
