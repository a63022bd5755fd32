-- Worked nettings, in one table: a list of movements, a chosen block, a firm, and the answer expected.
use Rattle.std.specs.Prelude.{ℕ, ◌+◌, ◌≡◌, List, [], ◌∷◌, ◌++◌, map, replicate, set, ℤ, pos, neg_ℤ}
use Rattle.protocol.specs.declared.Call.{Call}
use Rattle.protocol.specs.declared.Call.TheVariants.{Open, Block}
use Rattle.protocol.specs.Memory.{Memory, memory, table_length, block_at, height_at}
use Rattle.protocol.specs.Outcome.{AnswerOf, wrong_form, out_of_range, unknown_number, wrong_movement}
use Rattle.protocol.specs.Runs.{Invocation, run}
use Rattle.movements.specs.Movements.{movement_at}
use Rattle.netting.specs.Netting.{netting}

pub record Case : Type 0 where
  pub start : Memory
  pub movements : List ℕ
  pub chosen : ℕ
  pub firm : ℕ
  pub expected : AnswerOf ℤ

abbrev plain : Call → Invocation
plain call = record { call = call; list = [] }

-- Zeros, with slots for six blocks and f = 1, so three firms.
abbrev unopened : Memory
unopened = memory (replicate (table_length 1) 0) [] (replicate (block_at 6) 0)

-- Block 1 on block 0, blocks 2 and 3 on block 1, block 4 on block 2, block 5 on block 4.
abbrev pub forked : Memory
forked =
    run unopened (plain (Open 1) ∷ plain (Block 0) ∷ plain (Block 1) ∷ plain (Block 1) ∷ plain (Block 2) ∷ plain (Block 4) ∷ [])

-- Block, giver, taker, pallets.
abbrev moves : ℕ → ℕ → ℕ → ℕ → List ℕ
moves block giver taker pallets = block ∷ giver ∷ taker ∷ pallets ∷ []

-- A movement in each of blocks 1, 2 and 3, and one that no list may hold.
abbrev pub day : List ℕ
day = moves 1 0 1 5 ++ (moves 2 1 2 3 ++ moves 3 2 0 7)

abbrev broken : List ℕ
broken = moves 3 0 1 10001

abbrev row : Memory → List ℕ → ℕ → ℕ → ℕ → ℤ → Case
row start movements chosen firm number balance =
    record {
      start = start;
      movements = movements;
      chosen = chosen;
      firm = firm;
      expected = record { number = number; first = balance; second = 0 };
    }

abbrev nets : List ℕ → ℕ → ℕ → ℤ → Case
nets movements chosen firm balance = row forked movements chosen firm 0 balance

abbrev refuses : List ℕ → ℕ → ℕ → ℕ → Case
refuses movements chosen firm number = row forked movements chosen firm number (pos 0)

-- At block 0 nothing counts; at block 1 its own movement; at blocks 2 and 3 block 1's and their own, and not the other's; at block 5, which
-- has none, those of blocks 1 and 2. A movement that is lent twice counts twice.
unfoldable pub balances : List Case
balances =
    nets day 0 0 (pos 0)
    ∷ nets day 1 0 (neg_ℤ (pos 5))
    ∷ nets day 1 1 (pos 5)
    ∷ nets day 1 2 (pos 0)
    ∷ nets day 2 0 (neg_ℤ (pos 5))
    ∷ nets day 2 1 (pos 2)
    ∷ nets day 2 2 (pos 3)
    ∷ nets day 3 0 (pos 2)
    ∷ nets day 3 1 (pos 5)
    ∷ nets day 3 2 (neg_ℤ (pos 7))
    ∷ nets day 5 0 (neg_ℤ (pos 5))
    ∷ nets day 5 1 (pos 2)
    ∷ nets day 5 2 (pos 3)
    ∷ nets (day ++ day) 2 1 (pos 4)
    ∷ nets [] 5 2 (pos 0)
    ∷ []

-- Each limit of a movement, met and passed by one.
unfoldable pub limits : List Case
limits =
    nets (moves 3 0 1 1) 3 1 (pos 1)
    ∷ refuses (moves 3 0 1 0) 3 1 wrong_movement
    ∷ nets (moves 3 0 1 10000) 3 0 (neg_ℤ (pos 10000))
    ∷ refuses broken 3 0 wrong_movement
    ∷ refuses (moves 0 0 1 1) 3 1 wrong_movement
    ∷ nets (moves 5 0 1 1) 3 1 (pos 0)
    ∷ refuses (moves 6 0 1 1) 3 1 wrong_movement
    ∷ nets (moves 3 2 0 1) 3 2 (neg_ℤ (pos 1))
    ∷ refuses (moves 3 3 0 1) 3 2 wrong_movement
    ∷ refuses (moves 3 0 3 1) 3 2 wrong_movement
    ∷ refuses (moves 3 1 1 1) 3 2 wrong_movement
    ∷ []

-- A movement that does not count is tested too, wherever it stands. 1 before 2 before 3 before 11.
unfoldable pub refusals : List Case
refusals =
    refuses (day ++ broken) 2 0 wrong_movement
    ∷ refuses (broken ++ day) 2 0 wrong_movement
    ∷ refuses (day ++ (broken ++ day)) 2 0 wrong_movement
    ∷ refuses (day ++ broken) 6 0 unknown_number
    ∷ refuses (day ++ broken) 6 3 out_of_range
    ∷ refuses (day ++ (3 ∷ [])) 6 3 wrong_form
    ∷ refuses (day ++ (3 ∷ 0 ∷ [])) 2 0 wrong_form
    ∷ refuses (day ++ (3 ∷ 0 ∷ 1 ∷ [])) 2 0 wrong_form
    ∷ refuses day 2 3 out_of_range
    ∷ refuses day 6 2 unknown_number
    ∷ refuses (replicate (movement_at 2048) 0) 2 0 wrong_movement
    ∷ refuses (replicate (movement_at 2049) 0) 2 0 wrong_form
    ∷ row unopened day 6 3 wrong_form (pos 0)
    ∷ row (memory forked.table forked.log (set forked.blocks (block_at 5 + height_at) 3)) day 2 0 wrong_form (pos 0)
    ∷ []

-- Every row's netting gets the answer expected.
abbrev pub AsExpected : List Case → Type 0
AsExpected cases =
    map (λ (c : Case). (netting c.start c.movements c.chosen c.firm).answer) cases ≡ map (λ (c : Case). c.expected) cases

unfoldable pub NettingCasesHold : Type 0
NettingCasesHold = AsExpected balances × AsExpected limits × AsExpected refusals
