use mathlib.Core.Path.{refl}
use Rattle.protocol.specs.Form.{all_below}
use Rattle.protocol.proofs.logic.Below.{one_more, at_end}
use Rattle.certificate_log.specs.inner.Records.{group_has_kinds}
use Rattle.certificate_log.proofs.group_has_kinds.Goals as goal

pub loop-i-init : goal.loop-i-init
unfolding all_below
loop-i-init c = refl

pub loop-i-preserved : goal.loop-i-preserved
loop-i-preserved c = rw (c.loop-i.invariant, c.has_kind-all.ensures) (one_more _ c.loop-i.i)

pub returns : goal.returns
unfolding group_has_kinds
returns c = at_end _ c.loop-i.auto.i-end c.loop-i-test.false c.loop-i.invariant
