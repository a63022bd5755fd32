-- An empty list is allowed; eight steps are if they have their form; any other list is not.
use mathlib.Core.Path.{◌≡◌, sym, ◌∙◌}
use mathlib.Core.Bool.{false}
use lib.Dec.{eqb}
use lib.ListN.{length}
use borrow.Author.Tests.{eqb-true, eqb-false}
use Rattle.protocol.specs.Memory.{step_count}
use Rattle.protocol.proofs.logic.Booleans.{tests}
use Rattle.counter.proofs.Steps.{none_allowed, eight_allowed, others_refused}
use Rattle.counter.proofs.steps_allowed.Goals as goal

pub returns-then-is_empty : goal.returns-then-is_empty
returns-then-is_empty c = c.if-is_empty.true ∙ none_allowed _ (eqb-true _ _ (sym c.if-is_empty.ensures))

pub returns-then-list-eq-STEP_COUNT : goal.returns-then-list-eq-STEP_COUNT
returns-then-list-eq-STEP_COUNT c = c.steps_formed.ensures ∙ eight_allowed _ (omega tests)

pub returns-else-list-eq-STEP_COUNT : goal.returns-else-list-eq-STEP_COUNT
returns-else-list-eq-STEP_COUNT c =
    let other : eqb (length c.args.list.now) step_count ≡ false = omega tests in
    other ∙ others_refused _ (eqb-false _ _ (sym c.if-is_empty.ensures)) c.if-list-eq-STEP_COUNT.false
