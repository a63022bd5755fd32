use mathlib.Core.Path.{◌≡◌, refl}
use native.Mathlib.Numerals.{add-one}
use native.Mathlib.Omega.{arith}
use Rattle.certificate_log.specs.inner.Records.{some_below, group_exceeds, group_size}
use Rattle.certificate_log.proofs.group_exceeds.Goals as goal

pub loop-i-init : goal.loop-i-init
unfolding some_below
loop-i-init c = refl

pub loop-i-preserved : goal.loop-i-preserved
unfolding some_below
loop-i-preserved c = rw (c.loop-i.invariant, c.exceeds-any.ensures, add-one) refl

pub returns : goal.returns
unfolding group_exceeds
returns c = let e : c.loop-i.i ≡ group_size = omega arith in rw e at c.loop-i.invariant
