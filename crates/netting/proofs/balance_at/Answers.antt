use mathlib.Core.Path.{refl}
use Rattle.netting.proofs.Answering.{talliable, breaks, nets_all}
use Rattle.netting.proofs.balance_at.Goals as goal

pub tally-requires : goal.tally-requires
tally-requires c = talliable _ _ _ _ _ _ c.requires _ c.mark_ancestors.ensures

pub returns-in_err-tally : goal.returns-in_err-tally
returns-in_err-tally c =
    breaks _ _ _ _ _ _ c.requires _ c.mark_ancestors.ensures _ _ c.in_err-tally.ensures.tallied refl _ _ c.in_err-tally.ensures.refusal
    c.from_residual.ensures

pub returns : goal.returns
returns c = nets_all _ _ _ _ _ _ c.requires _ c.mark_ancestors.ensures _ _ c.in_ok-tally.ensures.tallied refl
