-- A match has no value.
use Rattle.firmware.proofs.Waiting.{matched-valueless}
use Rattle.firmware.proofs.yard_match.Goals as goal

pub returns : goal.returns
returns c = rw c.number_in.ensures (matched-valueless _ _ _ _ _ _ c.match_entry.ensures)
