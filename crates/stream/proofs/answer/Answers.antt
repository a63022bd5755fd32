-- The line is answered, and its text put.
use native.Mathlib.Omega.{arith}
use Rattle.stream.proofs.Answers.{fits, line_answered}
use Rattle.stream.proofs.answer.Goals as goal

pub put_answer-requires-clause-line_le_max_number : goal.put_answer-requires-clause-line_le_max_number
put_answer-requires-clause-line_le_max_number c =
    (omega (arith, c.requires.lines), rw (c.number_in.ensures, c.values_in.ensures) (fits _ _ _ c.answer_line-answer.ensures))

pub returns-clause-by_index : goal.returns-clause-by_index
returns-clause-by_index c = λ places.
    line_answered c.args.p.now _ _ _ places _ _ _ _ c.answer_line-answer.ensures
    (rw (c.number_in.ensures, c.values_in.ensures) at c.put_answer.ensures)
