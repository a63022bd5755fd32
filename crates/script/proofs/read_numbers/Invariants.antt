-- So far every field has a number, these stand at the front, and the next field starts at the column.
use Rattle.std.proofs.Common.{◌*◌, ◌≡◌, true, take}
use Rattle.protocol.specs.Form.{all_below}
use Rattle.field.specs.Field.{columns}
use Rattle.script.specs.Lines.{numbers, is_number}
use Rattle.script.proofs.read_numbers.Given as goal

abbrev pub invariant-loop-place : goal.invariant-loop-place
invariant-loop-place l =
    (l.reader.line.now ≡ l.line) × (l.reader.column ≡ columns * l.place-index) × (all_below l.place-index (is_number l.line) ≡ true)
    × (take l.place-index l.place-items ≡ numbers l.line l.place-index)
