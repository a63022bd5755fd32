-- Bytes of a line that goes on in the next chunk.
use Rattle.std.specs.Prelude.{ℕ, ◌≤◌, ◌≡◌, List, length, take}
use Rattle.stream.specs.Stream.{held_places}

-- Places for a line, of which so many hold its beginning.
pub record Holdable (places : List ℕ) (held : ℕ) : Type 0 where
  pub enough : length places ≡ held_places
  pub fits : held ≤ held_places

-- So many places hold a line, or the beginning of one that is too long.
pub record Held (count : ℕ) (places line : List ℕ) : Type 0 where
  pub fits : count ≤ held_places
  pub bytes : take count places ≡ take held_places line
