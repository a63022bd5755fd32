use native.Mathlib.Omega.{arith}
use Rattle.ancestry.proofs.Nearing.{one_nearer}
use Rattle.ancestry.proofs.step_toward.Goals as goal

pub returns : goal.returns
returns c =
    rw c.parent.ensures (one_nearer _ _ _ c.requires (omega (arith, c.if-b-a.false)))
