-- Filed, or refused for want of room; then the words of the replica.
use mathlib.Core.Path.{refl}
use Rattle.issuing.proofs.Filed.{full, issued}
use Rattle.issuing.proofs.issue.Goals as goal

pub returns-in_err-values : goal.returns-in_err-values
returns-in_err-values c b = full _ _ _ _ refl _ _ (c.in_err-values.ensures b) c.from_residual.ensures

pub returns : goal.returns
returns c b = issued _ _ _ _ refl _ (c.in_ok-values.ensures b) c.set_words.ensures
