use Rattle.claims.proofs.Proved.{proved}
use Rattle.claims.proofs.claims.Goals as goal

pub returns : goal.returns
returns c = proved
