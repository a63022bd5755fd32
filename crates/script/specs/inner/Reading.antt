-- What reading a line gives.
use Rattle.std.specs.Prelude.{cond, List, ℕ, Option, None, Some}
use Rattle.script.specs.Lines.{field_count, has_numbers}

-- How many numbers a line has, if it is a line of numbers.
unfoldable pub line_read : List ℕ → Option ℕ
line_read line = cond (has_numbers line) (Some (field_count line)) None
