-- The numbers are read, or the line is refused.
use Rattle.std.proofs.Common.{sym, arith}
use lib.Seq.{length-take-le}
use Rattle.script.proofs.Answering.{count, line_refused, line_answered}
use Rattle.script.proofs.answer_line.Goals as goal

pub returns-in_default : goal.returns-in_default
returns-in_default c = line_refused _ _ c.in_default.ensures.value

pub slice_bounds-given-end : goal.slice_bounds-given-end
slice_bounds-given-end c = omega (arith, count _ c.in-Some.ensures.value)

pub slice_bounds-answer_numbers-end : goal.slice_bounds-answer_numbers-end
slice_bounds-answer_numbers-end c =
    let n = count _ c.in-Some.ensures.value in
    sym (length-take-le _ c.read_numbers.new.given (omega (arith, n)))

pub answer_numbers-requires : goal.answer_numbers-requires
answer_numbers-requires c =
    let n = count _ c.in-Some.ensures.value in
    let long = length-take-le c.in-Some.count c.read_numbers.new.given (omega (arith, n)) in
    (c.requires, omega (arith, n, long))

pub returns : goal.returns
returns c = line_answered _ _ _ c.in-Some.ensures.value c.in-Some.ensures.given_after c.answer_numbers.ensures
