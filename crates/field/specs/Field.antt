-- "A field is eight columns, a decimal right-justified after blanks, no leading zeros."
use Rattle.std.specs.Prelude.{ℕ, ◌+◌, ◌-◌, ◌*◌, Bool, cond, ◌&&◌, List, [], ◌∷◌, ◌++◌, eqb, leb, ltb, length, take, drop, replicate}
use Rattle.std.specs.Prelude.{Option, None, Some, Result, Ok, Err}
use Rattle.field.specs.declared.Unwritable.{Unwritable}
use Rattle.field.specs.Digits.{digit_zero, is_digit, digit_count, digits}

abbrev pub columns : ℕ
columns = 8

abbrev pub blank : ℕ
blank = 32

-- The greatest number of eight digits.
abbrev pub max_number : ℕ
max_number = 99999999

-- What a read gives for bytes that are no field.
abbrev pub no_number : ℕ
no_number = 4294967295

abbrev pub accepted : ℕ
accepted = 0

-- What a write gives where nothing is written.
abbrev pub unwritable : ℕ
unwritable = 10

-- ---- writing

-- The bytes of a number: blanks, then its digits. Up to max_number they are eight.
unfoldable pub field_of : ℕ → List ℕ
field_of number = replicate (columns - digit_count number) blank ++ digits (digit_count number) number

pub record Written : Type 0 where
  pub answer : ℕ
  pub bytes : List ℕ

abbrev pub written : ℕ → List ℕ → Written
written answer bytes = record { answer = answer; bytes = bytes }

-- The answer to a write, as a number.
abbrev pub write_answer : Result (Unit {0}) Unwritable → ℕ
write_answer (Ok done) = accepted
write_answer (Err refusal) = unwritable

-- "Its write gives 0, or 10 with the bytes untouched where the length isn't eight or the number is above 99,999,999."
unfoldable pub write_field : ℕ → List ℕ → Written
write_field number bytes =
    cond (eqb (length bytes) columns && leb number max_number) (written accepted (field_of number)) (written unwritable bytes)

-- ---- reading

-- The number that digits make after the number so far; no_number where a byte is no digit.
unfoldable pub continued : ℕ → List ℕ → ℕ
continued number [] = number
continued number (byte ∷ rest) = cond (is_digit byte) (continued (10 * number + (byte - digit_zero)) rest) no_number

-- A zero with anything after it. A lone 0 is good.
abbrev pub is_leading_zero : ℕ → List ℕ → Bool
is_leading_zero byte rest = eqb byte digit_zero && ltb 0 (length rest)

-- The number that digits to the last column make, without a leading zero; else no_number.
unfoldable pub unpadded : List ℕ → ℕ
unpadded [] = no_number
unpadded (byte ∷ rest) = cond (is_leading_zero byte rest) no_number (continued 0 (byte ∷ rest))

-- The same after blanks. Blanks alone are no number.
unfoldable pub aligned : List ℕ → ℕ
aligned [] = no_number
aligned (byte ∷ rest) = cond (eqb byte blank) (aligned rest) (unpadded (byte ∷ rest))

-- "Its read gives the number, or 4,294,967,295 for bytes that are no such field."
unfoldable pub read_field : List ℕ → ℕ
read_field bytes = cond (eqb (length bytes) columns) (aligned bytes) no_number

-- What a read gives, as a value: the number, or none for no_number.
abbrev pub found : ℕ → Option ℕ
found number = cond (leb number max_number) (Some number) None

-- What is read from the eight columns of a line from a column on: a number, or no_number.
abbrev pub number_from : List ℕ → ℕ → ℕ
number_from line column = read_field (take columns (drop column line))
