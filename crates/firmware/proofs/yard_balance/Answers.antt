-- The balance is read back from its bits.
use Rattle.firmware.proofs.Balance.{one_balance}
use Rattle.firmware.proofs.yard_balance.Goals as goal

pub returns : goal.returns
returns c = rw (c.number_in.ensures, c.unwrap_or.ensures) (one_balance _ _ _ _ _ c.net-net.ensures)
