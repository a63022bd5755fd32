use mathlib.Core.List.{[], ◌∷◌}
use Rattle.protocol.proofs.logic.Joined.{joined_all}
use Rattle.form.proofs.words_formed.Goals as goal

pub returns : goal.returns
returns c =
    rw (c.certificates_formed.ensures, c.replicas_formed.ensures, c.blocks_formed.ensures)
    (rw (c.steps_formed.ensures, c.replica_count-replicas.ensures) (joined_all _ (_ ∷ _ ∷ _ ∷ [])))
