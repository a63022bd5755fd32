use mathlib.Core.List.{[], ◌∷◌}
use Rattle.protocol.proofs.logic.Joined.{joined_all}
use Rattle.movements.specs.Movements.{is_movement_list}
use Rattle.movements.proofs.is_movement_list.Goals as goal

pub returns : goal.returns
unfolding is_movement_list
returns c = joined_all _ (_ ∷ [])
