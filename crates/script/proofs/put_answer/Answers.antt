-- Each field stands after the last.
use native.Mathlib.Omega.{arith}
use Rattle.script.proofs.Printing.{answer_put}
use Rattle.script.proofs.put_answer.Goals as goal

pub returns : goal.returns
returns c =
    answer_put _ _ _ _ c.put_number-4.new.text c.args.at _ _ c.put_number.ensures c.put_number-2.ensures c.put_number-3.ensures
    c.put_number-4.ensures (omega arith)
