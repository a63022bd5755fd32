-- Lines of parents and heights (document 01, "Memory", the blocks): by recursion up the parents.
use Rattle.std.specs.Prelude.{ℕ, zero, suc, ◌+◌, ◌<◌, ◌≡◌, Bool, cond, not, ◌&&◌, ◌||◌, eqb}
use Rattle.protocol.specs.Memory.{Memory, parent}

-- "A block is in another's line if it is that block or is in the line of that block's parent; block 0 has only itself in its line."
-- Whether block a is in the line of block b, at most so many steps up, where each block has the parent that the function gives. A block is
-- its own ancestor.
unfoldable pub ancestor_within : (ℕ → ℕ) → ℕ → ℕ → ℕ → Bool
ancestor_within parent_of zero a b = eqb a b
ancestor_within parent_of (suc steps) a b = eqb a b || (not (eqb b 0) && ancestor_within parent_of steps a (parent_of b))

-- Each parent is below its block, for the blocks below a count.
abbrev pub Falls : (ℕ → ℕ) → ℕ → Type 0
Falls parent_of count = (b : ℕ) → b < count → (b ≡ 0 → ⊥) → parent_of b < b

-- In well-formed memory the parents fall, so block b is at most b steps above block 0 and the steps never run out: the code that goes up a
-- line recurses on the block number itself.
abbrev pub is_ancestor_by : (ℕ → ℕ) → ℕ → ℕ → Bool
is_ancestor_by parent_of a b = ancestor_within parent_of b a b

-- "Height is the number of steps to block 0."
unfoldable pub steps_to_root : (ℕ → ℕ) → ℕ → ℕ → ℕ
steps_to_root parent_of zero b = 0
steps_to_root parent_of (suc steps) b = cond (eqb b 0) 0 (steps_to_root parent_of steps (parent_of b) + 1)

abbrev pub height_by : (ℕ → ℕ) → ℕ → ℕ
height_by parent_of b = steps_to_root parent_of b b

abbrev pub height : Memory → ℕ → ℕ
height m = height_by (parent m)
