-- What the write's inner function is given.
use Rattle.std.specs.Prelude.{ℕ, ◌≤◌, ◌≡◌, List, length}
use Rattle.field.specs.Field.{columns, max_number}

pub record Writable (number : ℕ) (bytes : List ℕ) : Type 0 where
  pub eight : length bytes ≡ columns
  pub small : number ≤ max_number
