use mathlib.Core.Path.{refl, sym, ◌∙◌}
use native.Mathlib.Omega.{arith}
use Rattle.protocol.specs.Certificates.{first_below}
use Rattle.protocol.proofs.logic.Joined.{granted}
use Rattle.certificates.proofs.Equal.{of_other_view}
use Rattle.certificates.proofs.Search.{none_yet, none_of_four, found, none}
use Rattle.certificates.proofs.find.Goals as goal

pub loop-first-init : goal.loop-first-init
unfolding first_below
loop-first-init c = (omega arith, refl)

pub loop-first-preserved : goal.loop-first-preserved
loop-first-preserved c =
    let four = granted c.four_of_other_views.ensures c.if-four_of_other_views.true in
    (omega arith, none_of_four _ _ (of_other_view c.args.log.now c.args.words.now) _ c.loop-first.invariant.1 four)

pub loop-number-init : goal.loop-number-init
loop-number-init c = c.loop-first.invariant.1

pub returns-then-is_equal : goal.returns-then-is_equal
returns-then-is_equal c =
    sym (found _ _ _ c.loop-number.invariant (sym c.is_equal.ensures ∙ c.if-is_equal.true) c.loop-number-test.true)

pub loop-number-preserved : goal.loop-number-preserved
loop-number-preserved c = none_yet _ _ c.loop-number.invariant (sym c.is_equal.ensures ∙ c.if-is_equal.false)

pub returns : goal.returns
returns c = sym (none _ c.loop-number.number _ c.loop-number.invariant (omega arith) (omega arith))
