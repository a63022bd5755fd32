use mathlib.Core.Path.{refl}
use Rattle.protocol.specs.Form.{all_below}
use Rattle.protocol.proofs.logic.Below.{one_more, at_end}
use Rattle.certificates.specs.inner.Filing.{equal_from}
use Rattle.certificates.proofs.is_equal.Goals as goal

pub loop-i-init : goal.loop-i-init
unfolding all_below
loop-i-init c = refl

pub loop-i-preserved : goal.loop-i-preserved
loop-i-preserved c = rw c.loop-i.invariant (one_more _ c.loop-i.i)

pub returns : goal.returns
unfolding equal_from
returns c = at_end _ c.loop-i.auto.i-end c.loop-i-test.false c.loop-i.invariant
