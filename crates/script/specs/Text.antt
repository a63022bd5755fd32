-- The text of numbers: of a line, and of an answer.
use Rattle.std.specs.Prelude.{ℕ, ◌+◌, ◌*◌, ◌≤◌, List, [], ◌∷◌, ◌++◌}
use Rattle.protocol.specs.Outcome.{Answer}
use Rattle.field.specs.Field.{columns, max_number, field_of}

abbrev pub line_feed : ℕ
line_feed = 10

-- "A field is eight columns": the fields of numbers, one after the other.
unfoldable pub line_of : List ℕ → List ℕ
line_of [] = []
line_of (number ∷ numbers) = field_of number ++ line_of numbers

-- Lines of such fields, each with its line feed.
unfoldable pub text_of : List (List ℕ) → List ℕ
text_of [] = []
text_of (numbers ∷ rest) = line_of numbers ++ (line_feed ∷ text_of rest)

-- "Each line yields line number, answer and both values."
unfoldable pub answer_text : ℕ → Answer → List ℕ
answer_text line a = field_of line ++ field_of a.number ++ field_of a.first ++ field_of a.second ++ (line_feed ∷ [])

-- Four fields and the line feed.
abbrev pub answer_bytes : ℕ
answer_bytes = 4 * columns + 1

-- The numbers of an answer fit in eight columns.
pub record Printable (a : Answer) : Type 0 where
  pub number : a.number ≤ max_number
  pub first : a.first ≤ max_number
  pub second : a.second ≤ max_number
