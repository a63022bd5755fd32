use mathlib.Core.Path.{sym}
use borrow.Author.Tests.{eqb-true, eqb-false}
use Rattle.counter.proofs.Steps.{default_from, given_from}
use Rattle.counter.proofs.opening_steps.Goals as goal

pub returns-then-is_empty : goal.returns-then-is_empty
returns-then-is_empty c = sym (default_from _ (eqb-true _ _ (sym c.if-is_empty.ensures)))

pub returns-else-is_empty : goal.returns-else-is_empty
returns-else-is_empty c = sym (given_from _ (eqb-false _ _ (sym c.if-is_empty.ensures)))
