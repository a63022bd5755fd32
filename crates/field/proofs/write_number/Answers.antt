-- The refusals, and what the inner function leaves.
use mathlib.Core.Logic.{⊎_elim}
use native.Mathlib.Omega.{arith}
use Rattle.field.proofs.Writing.{wrong_length, too_great, is_written}
use Rattle.field.proofs.write_number.Goals as goal

pub returns-then-bytes-ne-COLUMNS : goal.returns-then-bytes-ne-COLUMNS
returns-then-bytes-ne-COLUMNS c =
    let a = c.args in
    ⊎_elim (λ other. wrong_length a.number a.bytes.now other) (λ great. too_great a.number a.bytes.now (omega arith))
    c.then-bytes-ne-COLUMNS.either

pub returns : goal.returns
returns c =
    let a = c.args in
    is_written a.number a.bytes.now _ (omega arith) (omega arith) c.write_columns.ensures
