-- The fields of a line and their numbers.
use Rattle.std.specs.Prelude.{ℕ, zero, suc, ◌*◌, ◌/◌, Bool, List, [], ◌∷◌, ◌++◌, leb, eqb, length}
use Rattle.protocol.specs.Form.{all_hold, all_below}
use Rattle.field.specs.Field.{columns, max_number, number_from}

-- "A line has 3 to 34 fields"
abbrev pub min_fields : ℕ
min_fields = 3

abbrev pub max_fields : ℕ
max_fields = 34

abbrev pub field_count : List ℕ → ℕ
field_count line = length line / columns

-- What is read from a field of a line: its number, or no_number. Fields are counted from 0.
abbrev pub number_at : List ℕ → ℕ → ℕ
number_at line i = number_from line (columns * i)

-- What is read from the first fields of a line.
unfoldable pub numbers : List ℕ → ℕ → List ℕ
numbers line zero = []
numbers line (suc k) = numbers line k ++ (number_at line k ∷ [])

abbrev pub is_number : List ℕ → ℕ → Bool
is_number line i = leb (number_at line i) max_number

-- The line is whole fields, 3 to 34 of them, and a number stands in each.
unfoldable pub has_numbers : List ℕ → Bool
has_numbers line =
    all_hold
    (eqb (columns * field_count line) (length line)
    ∷ leb min_fields (field_count line)
    ∷ leb (field_count line) max_fields
    ∷ all_below (field_count line) (is_number line)
    ∷ [])
