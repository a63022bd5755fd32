-- Rows of the table of cases on the records of blocks (document 02, #105).
use Rattle.std.specs.Prelude.{ℕ, ◌+◌, List, [], ◌∷◌, ◌++◌, map, replicate, set}
use Rattle.protocol.specs.declared.Call.TheVariants.{Open, Block, Prepare, Store, View, Decide}
use Rattle.protocol.specs.declared.Justification.TheVariants.{Commits}
use Rattle.protocol.specs.Memory.{Memory, memory, block_count_at, block_at, parent_at, height_at}
use Rattle.protocol.specs.Outcome.{Answer, wrong_form, unknown_number, wrong_block, no_room, accepted, refused}
use Rattle.protocol.specs.Runs.{run, plain, ◌on◌}
use Rattle.protocol.specs.cases.Rows.{Case, ◌gives◌}
use Rattle.protocol.specs.cases.Starts.{zeros, committed, every_call_refused}

-- ---- records made by hand

-- A ledger for f = 1 that is opened over these blocks, and its memory once so many are said to be added.
abbrev pub opened_over : List ℕ → Memory
opened_over blocks = let m = zeros 1 4 1 in run (memory m.table m.log blocks) (plain (Open 1) ∷ [])

abbrev pub counting : ℕ → Memory → Memory
counting added m = memory (set m.table block_count_at added) m.log m.blocks

-- A ledger with these blocks, so many of them added.
abbrev pub with_blocks : ℕ → List ℕ → Memory
with_blocks added blocks = let m = opened_over (0 ∷ 0 ∷ []) in counting added (memory m.table m.log blocks)

-- Word by word: the parent and the height of blocks 0 to 5, then two free slots. Blocks 1, 2 and 4 are of one line, 3 and 5 of another.
abbrev pub two_lines : List ℕ
two_lines =
    0 ∷ 0
    ∷ 0 ∷ 1
    ∷ 1 ∷ 2
    ∷ 0 ∷ 1
    ∷ 2 ∷ 3
    ∷ 3 ∷ 2
    ∷ 9 ∷ 9
    ∷ 9 ∷ 9
    ∷ []

abbrev pub record_at : List ℕ → ℕ → ℕ → ℕ → List ℕ
record_at blocks b parent height = set (set blocks (block_at b + parent_at) parent) (block_at b + height_at) height

-- ---- new blocks

-- Each is one higher than its parent, or the next call returned 1.
abbrev pub blocks_on_two_lines : Case
blocks_on_two_lines =
    record {
      start = with_blocks 6 two_lines;
      rows =
          plain (View 0 1) gives accepted 0 0
          ∷ plain (Block 4) gives accepted 6 0
          ∷ plain (Block 3) gives accepted 7 0
          ∷ plain (Block 6) gives refused no_room
          ∷ plain (View 1 1) gives accepted 1 0
          ∷ [];
    }

abbrev pub blocks_on_new_ones : Case
blocks_on_new_ones =
    record {
      start = with_blocks 6 two_lines;
      rows =
          plain (Block 4) gives accepted 6 0
          ∷ plain (Block 6) gives accepted 7 0
          ∷ plain (View 0 1) gives accepted 0 0
          ∷ [];
    }

-- A parent that is not added: 3, and before 9.
abbrev pub parent_not_added : Case
parent_not_added =
    record {
      start = with_blocks 6 two_lines;
      rows =
          plain (Block 6) gives refused unknown_number
          ∷ plain (Block 4294967295) gives refused unknown_number
          ∷ plain (Block 5) gives accepted 6 0
          ∷ plain (Block 6) gives accepted 7 0
          ∷ plain (Block 8) gives refused unknown_number
          ∷ plain (Block 7) gives refused no_room
          ∷ plain (View 0 1) gives accepted 0 0
          ∷ [];
    }

-- The slot after a new block's is not written: it holds a block on block 3 that is added by hand afterwards.
abbrev pub next_slot_stands : Case
next_slot_stands =
    record {
      start = counting 8 (run (with_blocks 6 (record_at two_lines 7 3 2)) (plain (Block 4) ∷ []));
      rows = plain (View 0 1) gives accepted 0 0 ∷ [];
    }

-- "prepare and decide read the new record and answer as they did": the parent must be the justified block, not another of its height, nor
-- its parent, nor its child; and a decision names the block, not its height.
abbrev pub heights_are_no_parents : Case
heights_are_no_parents =
    record {
      start = committed;
      rows =
          plain (Block 0) gives accepted 2 0
          ∷ plain (Block 2) gives accepted 3 0
          ∷ plain (Block 1) gives accepted 4 0
          ∷ plain (Block 4) gives accepted 5 0
          ∷ Prepare 1 2 (Commits 1 1) on (4 ∷ 5 ∷ []) gives refused wrong_block
          ∷ Prepare 1 3 (Commits 1 1) on (4 ∷ 5 ∷ []) gives refused wrong_block
          ∷ Prepare 1 5 (Commits 1 1) on (4 ∷ 5 ∷ []) gives refused wrong_block
          ∷ Prepare 1 4 (Commits 1 1) on (4 ∷ 5 ∷ []) gives accepted 6 0
          ∷ plain (Store 0 6) gives accepted 7 0
          ∷ plain (Store 2 6) gives accepted 8 0
          ∷ Decide 0 on (7 ∷ 8 ∷ []) gives accepted 4 2
          ∷ [];
    }

-- ---- "opening writes both words of block 0", whatever they were
abbrev pub opened_over_old_blocks : Case
opened_over_old_blocks =
    record {
      start = opened_over (7 ∷ 7 ∷ 7 ∷ 7 ∷ []);
      rows =
          plain (View 0 1) gives accepted 0 0
          ∷ plain (Block 0) gives accepted 1 0
          ∷ plain (View 1 1) gives accepted 1 0
          ∷ plain (Block 1) gives refused no_room
          ∷ [];
    }

-- and no other words: slots 1 and 2 hold records that are added by hand afterwards.
abbrev pub other_slots_stand : Case
other_slots_stand = record { start = counting 3 (opened_over (7 ∷ 7 ∷ 0 ∷ 1 ∷ 1 ∷ 2 ∷ [])); rows = plain (View 0 1) gives accepted 0 0 ∷ [] }

-- ---- the form

-- "any other one more than its parent", whichever block of that height the parent is
abbrev pub other_parent_of_the_same_height : Case
other_parent_of_the_same_height =
    record {
      start = with_blocks 6 (record_at two_lines 5 1 2);
      rows =
          plain (View 0 1) gives accepted 0 0
          ∷ plain (Block 5) gives accepted 6 0
          ∷ plain (View 1 1) gives accepted 1 0
          ∷ [];
    }

-- "the form test checks this for each block": in every call but opening
abbrev pub every_call_tests_heights : Case
every_call_tests_heights =
    record {
      start = with_blocks 6 (record_at two_lines 5 3 4);
      rows = every_call_refused ++ (plain (Open 1) gives accepted 3 0 ∷ plain (Block 0) gives accepted 1 0 ∷ []);
    }

-- "a slice of even length, and the places stay 4,096", after an opening and at one
abbrev pub of_length : ℕ → Answer → Answer → Case
of_length words viewed opened =
    record { start = with_blocks 1 (replicate words 0); rows = plain (View 0 1) gives viewed ∷ plain (Open 1) gives opened ∷ [] }

abbrev pub one_slot : Case
one_slot = of_length 2 (accepted 0 0) (accepted 3 0)

abbrev pub most_slots : Case
most_slots = of_length 8192 (accepted 0 0) (accepted 3 0)

-- ---- what is refused with 1

abbrev pub of_broken_length : ℕ → Case
of_broken_length words = of_length words (refused wrong_form) (refused wrong_form)

abbrev pub broken : ℕ → List ℕ → Case
broken added blocks =
    record {
      start = with_blocks added blocks;
      rows =
          plain (View 0 1) gives refused wrong_form
          ∷ plain (Block 0) gives refused wrong_form
          ∷ [];
    }

-- The two lines with one height, or one parent, set by hand.
abbrev pub with_height : ℕ → ℕ → Case
with_height b value = broken 6 (set two_lines (block_at b + height_at) value)

abbrev pub with_parent : ℕ → ℕ → Case
with_parent b value = broken 6 (set two_lines (block_at b + parent_at) value)

-- All heights one too many, block 0's too, and block 0's alone; other heights of blocks 1 to 5, among them the parent's, one more than that
-- of the block before, one that is right but for its upper half, and the largest word; another parent of block 0; parents of another height;
-- parents that are not below their block, of heights that fit, block 2, which is added, and block 6, which is not; the last of seven blocks;
-- lengths.
abbrev pub broken_blocks : List Case
broken_blocks =
    broken 6 (0 ∷ 1 ∷ 0 ∷ 2 ∷ 1 ∷ 3 ∷ 0 ∷ 2 ∷ 2 ∷ 4 ∷ 3 ∷ 3 ∷ [])
    ∷ with_height 0 1
    ∷ broken 1 (0 ∷ 1 ∷ [])
    ∷ broken 2 (0 ∷ 0 ∷ 0 ∷ 0 ∷ [])
    ∷ broken 2 (0 ∷ 0 ∷ 0 ∷ 2 ∷ [])
    ∷ with_height 1 0
    ∷ with_height 1 2
    ∷ with_height 2 1
    ∷ with_height 3 3
    ∷ with_height 4 2
    ∷ with_height 4 4
    ∷ with_height 5 1
    ∷ with_height 5 4
    ∷ with_height 5 65538
    ∷ with_height 5 4294967295
    ∷ with_parent 0 1
    ∷ with_parent 2 0
    ∷ with_parent 3 1
    ∷ broken 6 (0 ∷ 0 ∷ 2 ∷ 2 ∷ 0 ∷ 1 ∷ 0 ∷ 1 ∷ 2 ∷ 2 ∷ 3 ∷ 2 ∷ [])
    ∷ broken 6 (record_at two_lines 5 6 10)
    ∷ broken 7 (record_at two_lines 6 5 4)
    ∷ map of_broken_length (0 ∷ 1 ∷ 3 ∷ 2047 ∷ 8191 ∷ 8193 ∷ 8194 ∷ [])

unfoldable pub height_cases : List Case
height_cases =
    blocks_on_two_lines
    ∷ blocks_on_new_ones
    ∷ parent_not_added
    ∷ next_slot_stands
    ∷ heights_are_no_parents
    ∷ opened_over_old_blocks
    ∷ other_slots_stand
    ∷ other_parent_of_the_same_height
    ∷ every_call_tests_heights
    ∷ one_slot
    ∷ most_slots
    ∷ broken_blocks
