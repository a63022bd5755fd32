use Rattle.std.proofs.Common.{◌≡◌, ℕ, sym, ◌∙◌, ap, arith, List, ◌-◌, length, take, drop}
use lib.ListN.{length-drop}
use lib.Seq.{take_all}
use Rattle.field.specs.Field.{unpadded, found}
use Rattle.field.proofs.Reading.{not_eight, eight_columns, past_blanks, after_last_blank, only_blanks}
use Rattle.field.proofs.read_number.Goals as goal

pub returns-then-bytes-ne-COLUMNS : goal.returns-then-bytes-ne-COLUMNS
returns-then-bytes-ne-COLUMNS c = ap found (not_eight c.args.bytes.now (omega arith))

pub returns-in_err-first : goal.returns-in_err-first
returns-in_err-first c =
    let l = c.args.bytes.now in
    c.from_residual.ensures ∙ ap found (sym (only_blanks l c.in_err-first.ensures) ∙ eight_columns l (omega arith))

pub returns : goal.returns
returns c =
    let l = c.args.bytes.now in
    let i = c.in_ok-first.first in
    let e = c.in_ok-first.ensures in
    let rest : take (length l - i) (drop i l) ≡ drop i l = take_all (length l - i) (drop i l) (omega (arith, length-drop i l)) in
    c.read_digits.ensures
    ∙ ap (λ (x : List ℕ). found (unpadded x)) rest
    ∙ ap found (sym (after_last_blank l i e.0 e.1) ∙ past_blanks l i (omega (arith, e.0)) e.2 ∙ eight_columns l (omega arith))
