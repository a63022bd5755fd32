use mathlib.Core.List.{[], ◌∷◌}
use Rattle.protocol.specs.Form.{counts_fit}
use Rattle.protocol.proofs.logic.Joined.{joined_all}
use Rattle.form.proofs.counts_fit.Goals as goal

pub returns : goal.returns
unfolding counts_fit
returns c = rw (c.certificate_at.ensures, c.block_at.ensures) (joined_all _ (_ ∷ _ ∷ []))
