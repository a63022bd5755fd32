-- An opening has one value.
use Rattle.firmware.proofs.Waiting.{opened_value}
use Rattle.firmware.proofs.yard_open_waiting.Goals as goal

pub returns : goal.returns
returns c = rw (c.number_in.ensures, c.values_in.ensures) (opened_value _ _ _ _ c.open_waiting-answer.ensures)
