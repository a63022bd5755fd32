-- Fewer than eight columns are no field; else the part is read.
use Rattle.std.proofs.Common.{◌<◌, ◌+◌, ap, ◌∙◌, arith, length}
use lib.ListN.{length-drop}
use Rattle.field.specs.Field.{columns, found}
use Rattle.field.proofs.Reading.{too_short}
use Rattle.field.proofs.read_at.Goals as goal

pub returns-in_err-get : goal.returns-in_err-get
returns-in_err-get c =
    let a = c.args in
    let short : length a.bytes.now < a.at + columns = grind (arith, c.in_err-get.ensures) in
    c.from_residual.ensures ∙ ap found (too_short a.bytes.now a.at short)

pub returns-in_err-get-2 : goal.returns-in_err-get-2
returns-in_err-get-2 c =
    let a = c.args in
    let short : length a.bytes.now < a.at + columns = grind (arith, c.in_ok-get.ensures, c.in_err-get-2.ensures, length-drop a.at a.bytes.now) in
    c.from_residual-in_err-get-2.ensures ∙ ap found (too_short a.bytes.now a.at short)
