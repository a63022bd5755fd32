-- The panel has one value.
use Rattle.firmware.proofs.Panel.{one_value}
use Rattle.firmware.proofs.yard_panel.Goals as goal

pub returns : goal.returns
returns c = rw (c.number_in.ensures, c.values_in.ensures) (one_value _ _ _ c.panel-answer.ensures)
