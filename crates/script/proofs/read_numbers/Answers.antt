-- A line that fails a test has no numbers; a field that is none refuses its line; the last field ends the line.
use Rattle.std.proofs.Common.{ℕ, ◌≡◌, refl, ◌∙◌, drop, arith}
use lib.Seq.{length-take-le}
use Rattle.protocol.specs.Form.{all_below}
use Rattle.protocol.proofs.logic.Below.{next}
use Rattle.script.specs.Lines.{field_count, numbers}
use Rattle.script.proofs.Reading.{Readable, not_read, refused_at, number-at, further, one_more, all_read}
use Rattle.script.proofs.read_numbers.Goals as goal

pub returns-then-count-line-clause-value : goal.returns-then-count-line-clause-value
returns-then-count-line-clause-value c =
    (not_read c.args.line.now {A = ℕ} (λ (r : Readable c.args.line.now). grind (arith, c.then-count-line.either))).0

pub returns-then-count-line-clause-given_after : goal.returns-then-count-line-clause-given_after
returns-then-count-line-clause-given_after c =
    (not_read c.args.line.now (λ (r : Readable c.args.line.now). grind (arith, c.then-count-line.either))).1

pub loop-place-init : goal.loop-place-init
unfolding all_below numbers
loop-place-init c = (refl, refl, refl, refl)

pub returns-in_err-place-clause-value : goal.returns-in_err-place-clause-value
returns-in_err-place-clause-value c =
    let l = c.loop-place in
    let said = rw l.invariant.0 at c.in_err-place.ensures.steps.0 in
    let long = length-take-le (field_count c.args.line.now) c.args.given.now (omega arith) in
    c.from_residual.ensures ∙ (refused_at _ l.place-index l.invariant.1 {A = ℕ} (omega arith) said).0

pub returns-in_err-place-clause-given_after : goal.returns-in_err-place-clause-given_after
returns-in_err-place-clause-given_after c =
    let l = c.loop-place in
    let said = rw l.invariant.0 at c.in_err-place.ensures.steps.0 in
    let long = length-take-le (field_count c.args.line.now) c.args.given.now (omega arith) in
    (refused_at _ l.place-index l.invariant.1 (omega arith) said).1

pub loop-place-preserved : goal.loop-place-preserved
loop-place-preserved c =
    let l = c.loop-place in
    let steps = c.in_ok-place.ensures.steps in
    let said = rw l.invariant.0 at steps.0 in
    let is = number-at _ l.place-index l.invariant.1 said in
    let on = further _ {r = l.reader} l.place-index l.invariant.0 l.invariant.1 steps.0 steps.1 in (
      on.0,
      on.1,
      next _ l.place-index l.invariant.2 is.0,
      one_more _ l.place-items l.place-index _ (omega arith) is.1 l.invariant.3,
    )

pub returns : goal.returns
returns c =
    let l = c.loop-place in
    let line = c.args.line.now in
    let long = length-take-le (field_count line) c.args.given.now (omega arith) in
    let end : l.place-index ≡ field_count line = omega arith in
    let all = all_read line l.place-items (drop (field_count line) c.args.given.now) end (omega arith)
    (record { whole = omega arith; enough = omega arith; few = omega arith; all = rw end at l.invariant.2 }) l.invariant.3 in
    record { value = all.0; given_after = all.1 }
