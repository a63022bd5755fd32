-- A field that is read lies within the line, and the reader moves on just where it reads one.
use Rattle.std.proofs.Common.{ℕ, ◌+◌, ◌≤◌, ◌≡◌, List, length, None, Some, true, false}
use lib.Dec.{ltb, leb}
use Rattle.field.specs.Field.{columns, max_number, number_from, found}
use Rattle.field.proofs.Booleans.{tests, by-test}
use Rattle.field.proofs.Reading.{too_short, found_some, found_none}
use Rattle.reader.specs.inner.Reading.{column_after}

module _ (line : List ℕ) (column : ℕ) where
  pub field_within : {n : ℕ} → Some n ≡ found (number_from line column) → column + columns ≤ length line
  field_within e =
      let h = (found_some e).0 in
      by-test (ltb (length line) (column + columns))
      (λ t. let no = too_short line column (omega tests) in absurd (omega (tests, no))) (λ f. omega tests)

  pub moves : {n : ℕ} → Some n ≡ found (number_from line column) → column + columns ≡ column_after line column
  unfolding column_after
  moves e = let h = (found_some e).0 in let t : leb (number_from line column) max_number ≡ true = omega tests in rw t

  pub stays : None ≡ found (number_from line column) → column ≡ column_after line column
  unfolding column_after
  stays e = let h = found_none e in let t : leb (number_from line column) max_number ≡ false = omega tests in rw t
