use mathlib.Core.List.{[], ◌∷◌}
use Rattle.protocol.specs.Form.{lengths_fit}
use Rattle.protocol.proofs.logic.Joined.{joined_all}
use Rattle.form.proofs.lengths_fit.Goals as goal

pub returns : goal.returns
unfolding lengths_fit
returns c =
    rw (c.row_at.ensures, c.replica_count.ensures, c.certificate_at.ensures)
    (rw (c.block_at.ensures, c.block_at-2.ensures)
    (joined_all _ (_ ∷ _ ∷ _ ∷ _ ∷ _ ∷ [])))
