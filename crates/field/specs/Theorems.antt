-- What holds of fields: reading undoes writing and writing undoes reading. Proved in proofs/.
use Rattle.std.specs.Prelude.{ℕ, ◌≤◌, ◌<◌, ◌^◌, ◌≡◌, List, ◌⊎◌, length}
use Rattle.field.specs.Digits.{digit_count}
use Rattle.field.specs.Field.{columns, max_number, no_number, accepted, field_of, written, write_field, read_field}

-- Document 02, #106: "The count is proved to be the least from 1 up whose power of ten is above the number."
pub record Least (number count : ℕ) : Type 0 where
  pub positive : 1 ≤ count
  pub above : number < 10 ^ count
  pub least : (k : ℕ) → 1 ≤ k → number < 10 ^ k → count ≤ k

unfoldable pub CountIsLeast : Type 0
CountIsLeast = (number : ℕ) → Least number (digit_count number)

-- What was written reads back as the number, for every number that has a field; and the field has eight bytes.
unfoldable pub WrittenReadsBack : Type 0
WrittenReadsBack =
    (number : ℕ) → number ≤ max_number → (length (field_of number) ≡ columns) × (read_field (field_of number) ≡ number)

-- What was read, where it is a field, writes back the same bytes.
unfoldable pub ReadWritesBack : Type 0
ReadWritesBack = (bytes : List ℕ) → read_field bytes ≤ max_number → write_field (read_field bytes) bytes ≡ written accepted bytes

-- A read gives at most 99,999,999, or 4,294,967,295.
unfoldable pub ReadIsBounded : Type 0
ReadIsBounded = (bytes : List ℕ) → (read_field bytes ≤ max_number) ⊎ (read_field bytes ≡ no_number)
