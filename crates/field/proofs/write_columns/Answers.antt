use mathlib.Core.Path.{◌≡◌, refl, sym, ◌∙◌}
use native.Mathlib.Omega.{arith}
use lib.ListN.{length, length-set}
use lib.Seq.{take_all}
use Rattle.field.specs.Field.{columns}
use Rattle.field.proofs.Counts.{count_fits, digit_of_count}
use Rattle.field.proofs.Writing.{digit_written, blanks_left, one_digit, starts, all_stand}
use Rattle.field.proofs.write_columns.Goals as goal

pub overflow_cast-bytes : goal.overflow_cast-bytes
overflow_cast-bytes c =
    let small = digit_of_count c.args.number (sym c.digit_count-count.ensures ∙ c.if-count-eq1.true) in omega arith

pub overflow_add-bytes : goal.overflow_add-bytes
overflow_add-bytes c =
    let small = digit_of_count c.args.number (sym c.digit_count-count.ensures ∙ c.if-count-eq1.true) in omega arith

pub returns-then-count-eq1 : goal.returns-then-count-eq1
returns-then-count-eq1 c =
    let blanks = rw c.requires.eight at (c.fill.ensures.after (λ y e. e)) in
    one_digit _ (sym c.digit_count-count.ensures ∙ c.if-count-eq1.true) blanks

pub overflow_sub-at-start : goal.overflow_sub-at-start
overflow_sub-at-start c = omega (arith, c.digit_count-count.ensures, count_fits c.args.number c.requires.small)

pub loop-at-init : goal.loop-at-init
loop-at-init c =
    let e = c.digit_count-count.ensures in
    let u = count_fits c.args.number c.requires.small in
    let b = c.fill.new.self in
    let blanks = rw c.requires.eight at (c.fill.ensures.after (λ y e. e)) in
    let long : length b ≡ columns = rw blanks refl in (
      omega (arith, e, u),
      long,
      starts b _ _ long e (omega (arith, e, u)),
      take_all columns b (omega (arith, long)) ∙ blanks,
    )

pub loop-at-preserved : goal.loop-at-preserved
loop-at-preserved c =
    let l = c.loop-at in (
      omega arith,
      simp length-set l.invariant.1,
      digit_written l.bytes _ l.at l.rest c.loop-at-test.true (omega arith) ∙ l.invariant.2,
      blanks_left l.bytes l.at _ (omega arith) l.invariant.3,
    )

pub returns : goal.returns
returns c =
    let l = c.loop-at in
    all_stand l.bytes _ _ l.at l.rest (omega arith) (omega (arith, c.digit_count-count.ensures)) l.invariant.3 l.invariant.2
