-- The heights that are kept with the blocks (document 02, #105): each is the number of steps to block 0.
use Rattle.std.specs.Prelude.{ℕ, ◌<◌, ◌≡◌, true, List}
use Rattle.protocol.specs.Memory.{Memory, block_count, kept_height}
use Rattle.protocol.specs.Ancestry.{height, height_by}
use Rattle.protocol.specs.Form.{well_formed}
use Rattle.protocol.specs.Runs.{Invocation, run}
use Rattle.protocol.specs.History.{given_parent}
use Rattle.protocol.specs.Agreement.{OpensNone, Execution, events_of, end_of}

-- ---- "Block 0 has height 0 and any other one more than its parent; the form test checks this for each block": so in well-formed memory the
-- height kept with an added block is its height, by the parents in the words.

unfoldable pub HeightsKept : Type 0
HeightsKept = (m : Memory) → well_formed m ≡ true → (b : ℕ) → b < block_count m → kept_height m b ≡ height m b

-- ---- At the end of an execution it is the height by the parents given.

unfoldable pub HeightsMatchHistory : Type 0
HeightsMatchHistory =
    (x : Execution) (b : ℕ) → b < block_count (end_of x) → kept_height (end_of x) b ≡ height_by (given_parent (events_of x)) b

-- ---- Up to the next accepted opening it stays.

unfoldable pub HeightsStay : Type 0
HeightsStay =
    (x : Execution) (more : List Invocation) → OpensNone (end_of x) more → (b : ℕ) → b < block_count (end_of x)
    → kept_height (run (end_of x) more) b ≡ kept_height (end_of x) b
