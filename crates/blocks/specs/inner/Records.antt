-- Blocks by their words alone: a parent, a height, the test of one block, and what that test asks.
use Rattle.std.specs.Prelude.{ℕ, ◌+◌, ◌≤◌, ◌≡◌, Bool, true, List, [], length}
use Rattle.protocol.specs.Memory.{memory, block_at, parent, kept_height, max_blocks}
use Rattle.protocol.specs.Form.{all_below, block_formed}

abbrev pub parent_in : List ℕ → ℕ → ℕ
parent_in blocks = parent (memory [] [] blocks)

abbrev pub height_in : List ℕ → ℕ → ℕ
height_in blocks = kept_height (memory [] [] blocks)

abbrev pub block_ok : List ℕ → ℕ → Bool
block_ok blocks = block_formed (parent_in blocks) (height_in blocks)

-- So many blocks can be tested from block b on: their words are there, and those before b hold, so that their heights can be counted on.
pub record Testable (blocks : List ℕ) (b more : ℕ) : Type 0 where
  pub child : 1 ≤ b
  pub few : b + more ≤ max_blocks
  pub in_slice : block_at (b + more) ≤ length blocks
  pub before : all_below b (block_ok blocks) ≡ true
