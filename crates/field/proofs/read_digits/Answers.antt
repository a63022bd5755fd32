use Rattle.std.proofs.Common.{◌≡◌, sym, ◌∙◌, ap, arith, get_or}
use Rattle.field.specs.Field.{continued, unpadded, found}
use Rattle.field.proofs.Reading.{leading_zero, no_leading_zero, reads_digit, stops, reads_all, stays_small, at_most_nine, eight_at_most, found_small}
use Rattle.field.proofs.read_digits.Goals as goal
use Rattle.field.proofs.read_digits.Goals.{else-digits-eq-DIGIT_ZERO-via-then-digits-eq-DIGIT_ZERO+else-digits-ne1, else-digits-eq-DIGIT_ZERO-via-else-digits-eq-DIGIT_ZERO}

pub returns-then-digits-ne1 : goal.returns-then-digits-ne1
returns-then-digits-ne1 c =
    let e = leading_zero c.args.digits.now (omega arith) (omega arith) in rw e

pub loop-byte-init : goal.loop-byte-init
loop-byte-init c =
    let l = c.args.digits.now in
    let e : unpadded l ≡ continued 0 l = elim c.else-digits-eq-DIGIT_ZERO.branch [
      | else-digits-eq-DIGIT_ZERO-via-then-digits-eq-DIGIT_ZERO+else-digits-ne1 w ↦ no_leading_zero l (omega arith) (λ z. omega arith)
      | else-digits-eq-DIGIT_ZERO-via-else-digits-eq-DIGIT_ZERO w ↦ no_leading_zero l (omega arith) (λ z. absurd (omega arith))
    ] in
    (omega arith, sym e)

pub returns-then-not-is_ascii_digit : goal.returns-then-not-is_ascii_digit
returns-then-not-is_ascii_digit c =
    let l = c.loop-byte in
    let e = stops c.args.digits.now l.byte-index l.number (omega arith) (sym c.is_ascii_digit.ensures.value ∙ c.if-not-is_ascii_digit.true) in
    ap found (sym e ∙ l.invariant.1)

pub overflow_mul-number : goal.overflow_mul-number
overflow_mul-number c =
    let l = c.loop-byte in let small = stays_small l.byte-index l.number (omega arith) l.invariant.0 in omega arith

pub overflow_add-number : goal.overflow_add-number
overflow_add-number c =
    let l = c.loop-byte in
    let small = stays_small l.byte-index l.number (omega arith) l.invariant.0 in
    let high = at_most_nine (get_or c.args.digits.now l.byte-index 0) (sym c.is_ascii_digit.ensures.value ∙ c.if-not-is_ascii_digit.false) in
    omega arith

pub loop-byte-preserved : goal.loop-byte-preserved
loop-byte-preserved c =
    let l = c.loop-byte in
    let is = sym c.is_ascii_digit.ensures.value ∙ c.if-not-is_ascii_digit.false in
    let small = stays_small l.byte-index l.number (omega arith) l.invariant.0 in
    let high = at_most_nine (get_or c.args.digits.now l.byte-index 0) is in
    (omega arith, rw c.from.ensures (reads_digit c.args.digits.now l.byte-index l.number (omega arith) is ∙ l.invariant.1))

pub returns : goal.returns
returns c =
    let l = c.loop-byte in
    found_small l.number (eight_at_most l.byte-index l.number (omega arith) l.invariant.0)
    ∙ ap found (sym (reads_all c.args.digits.now l.byte-index l.number (omega arith)) ∙ l.invariant.1)
