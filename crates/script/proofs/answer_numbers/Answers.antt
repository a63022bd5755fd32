-- The f in use changes where the answer is no refusal.
use mathlib.Core.Path.{sym, ◌∙◌}
use Rattle.script.proofs.Lending.{accepted, refused}
use Rattle.script.proofs.answer_numbers.Goals as goal

pub returns-then-is_ok : goal.returns-then-is_ok
returns-then-is_ok c = accepted _ _ c.fault_bound_for-f.ensures _ c.call_lent-answer.ensures (sym c.is_ok.ensures.value ∙ c.if-is_ok.true)

pub returns-else-is_ok : goal.returns-else-is_ok
returns-else-is_ok c = refused _ _ c.fault_bound_for-f.ensures _ c.call_lent-answer.ensures (sym c.is_ok.ensures.value ∙ c.if-is_ok.false)
