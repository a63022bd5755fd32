use mathlib.Core.List.{[], ◌∷◌}
use Rattle.protocol.proofs.logic.Joined.{joined_all}
use Rattle.movements.proofs.Transfer.is_allowed.Goals as goal

pub returns : goal.returns
returns c = joined_all _ (_ ∷ _ ∷ _ ∷ _ ∷ [])
