-- The part that is lent comes back beside the rest.
use Rattle.script.proofs.Lending.{lent_call}
use Rattle.script.proofs.call_lent.Goals as goal

pub returns : goal.returns
returns c = lent_call _ _ _ _ _ _ c.lent_length-lent.ensures.0 c.call_by_code.ensures
