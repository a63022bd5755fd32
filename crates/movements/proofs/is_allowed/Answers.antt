use mathlib.Core.Path.{refl}
use Rattle.std.proofs.Math.Bool.{and_assoc}
use Rattle.protocol.specs.Form.{all_hold}
use Rattle.movements.specs.Movements.{movement_allowed}
use Rattle.movements.proofs.is_allowed.Goals as goal

pub returns : goal.returns
unfolding movement_allowed all_hold
returns c = rw (c.is_allowed.ensures, c.transfer.ensures, and_assoc) refl
