-- The reader moves on by a field that lies within the line, or stays.
use Rattle.std.proofs.Common.{ℕ, ap, ◌∙◌, arith, rules}
use Rattle.reader.specs.declared.Reader.{Reader}
use Rattle.reader.proofs.Fields.{field_within, moves, stays}
use Rattle.reader.proofs.ReaderIterator.next.Goals as goal

pub returns-in_err-number-clause-steps : goal.returns-in_err-number-clause-steps
returns-in_err-number-clause-steps c =
    let r = c.args.self.now in (
      c.from_residual.ensures ∙ c.in_err-number.ensures,
      ap (λ (k : ℕ). let s : Reader = record { line = r.line; column = k } in s) (stays r.line.now r.column c.in_err-number.ensures),
    )

pub overflow_add-self : goal.overflow_add-self
overflow_add-self c =
    let r = c.args.self.now in
    let w = field_within r.line.now r.column c.in_ok-number.ensures in
    omega arith

pub returns-clause-steps : goal.returns-clause-steps
returns-clause-steps c =
    let r = c.args.self.now in
    let e = moves r.line.now r.column c.in_ok-number.ensures in
    (c.in_ok-number.ensures, rw e)

pub returns-clause-goes : goal.returns-clause-goes
returns-clause-goes c =
    let r = c.args.self.now in
    let w = field_within r.line.now r.column c.in_ok-number.ensures in
    search rules
