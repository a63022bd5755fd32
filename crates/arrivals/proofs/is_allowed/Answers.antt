use mathlib.Core.Path.{refl}
use Rattle.protocol.specs.Form.{all_hold}
use Rattle.entries.specs.Entries.{entry_allowed}
use Rattle.arrivals.proofs.is_allowed.Goals as goal

pub returns : goal.returns
unfolding entry_allowed all_hold
returns c = rw (c.is_allowed.ensures, c.transfer.ensures) refl
