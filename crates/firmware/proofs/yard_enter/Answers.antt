-- An enter has no value.
use Rattle.firmware.proofs.Waiting.{entered_valueless}
use Rattle.firmware.proofs.yard_enter.Goals as goal

pub returns : goal.returns
returns c = rw c.number_in.ensures (entered_valueless _ _ _ c.enter.ensures)
