-- A field of a script line: the column after it.
use Rattle.std.specs.Prelude.{ℕ, ◌+◌, cond, List, leb}
use Rattle.field.specs.Field.{columns, max_number, number_from}
use Rattle.reader.specs.declared.Reader.{Reader}

-- The column after the field that starts at a column; the same column where none starts there.
unfoldable pub column_after : List ℕ → ℕ → ℕ
column_after line column = cond (leb (number_from line column) max_number) (column + columns) column

-- "The line reader carries the bytes of its line and the column reached."
abbrev pub moved_on : Reader → Reader
moved_on r = record { line = r.line; column = column_after r.line.now r.column }
