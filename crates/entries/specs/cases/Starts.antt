-- What the cases start from: a ledger with a forked line, and slices of entries written by hand.
use Rattle.std.specs.Prelude.{ℕ, zero, suc, List, [], ◌∷◌, ◌++◌, replicate}
use Rattle.std.proofs.lemmas.List.Edits.{sets}
use Rattle.protocol.specs.Memory.{Memory, memory}
use Rattle.entries.specs.Waiting.{lent}
use Rattle.entries.specs.cases.Rows.{Row, Case}

-- The words so many times, and the rest.
abbrev pub repeated : ℕ → List ℕ → List ℕ → List ℕ
repeated zero words rest = rest
repeated (suc n) words rest = words ++ repeated n words rest

-- f = 1, so replicas 0 to 2. Blocks 1, 2 and 4 are one line on block 0, block 3 is another; one slot is free. Replica 0 shows block 2,
-- replica 1 block 0, replica 2 block 4.
abbrev table : List ℕ
table =
    1 ∷ 0 ∷ 5
    ∷ 64 ∷ 64 ∷ 128 ∷ 128 ∷ 256 ∷ 256 ∷ 512 ∷ 1024
    ∷ 0 ∷ 0 ∷ 3 ∷ 64 ∷ 0 ∷ 0 ∷ 0 ∷ 2 ∷ 2
    ∷ 0 ∷ 0 ∷ 1 ∷ 64 ∷ 0 ∷ 0 ∷ 0 ∷ 0 ∷ 0
    ∷ 0 ∷ 0 ∷ 5 ∷ 64 ∷ 0 ∷ 0 ∷ 0 ∷ 4 ∷ 4
    ∷ []

abbrev blocks : List ℕ
blocks =
    0 ∷ 0
    ∷ 0 ∷ 1
    ∷ 1 ∷ 2
    ∷ 0 ∷ 1
    ∷ 2 ∷ 3
    ∷ 77 ∷ 77
    ∷ []

abbrev pub forked : Memory
forked = memory table [] blocks

-- The same with another height of block 4.
abbrev pub broken_ledger : Memory
broken_ledger = memory table [] (sets blocks 9 (9 ∷ []))

-- f = 30, so replicas 0 to 60, as an opening leaves them.
abbrev pub sixty_one : Memory
sixty_one =
    memory
    (30 ∷ 0 ∷ 1
    ∷ 64 ∷ 64 ∷ 128 ∷ 128 ∷ 256 ∷ 256 ∷ 512 ∷ 1024
    ∷ repeated 61 (0 ∷ 0 ∷ 1 ∷ 64 ∷ 0 ∷ 0 ∷ 0 ∷ 0 ∷ 0 ∷ []) []) [] (0 ∷ 0 ∷ [])

-- Nothing waits, and no place was used.
abbrev pub nothing : List ℕ
nothing = replicate 4219 0

-- Block, giver, taker, pallets.
abbrev pub moves : ℕ → ℕ → ℕ → ℕ → List ℕ
moves block giver taker pallets = block ∷ giver ∷ taker ∷ pallets ∷ []

-- The words of an entry: identity, giver, taker, pallets.
abbrev pub waits : ℕ → ℕ → ℕ → ℕ → List ℕ
waits identity giver taker pallets = identity ∷ giver ∷ taker ∷ pallets ∷ []

-- A slice by hand: a count, these words from the first entry on, 77 in every other word of takers and entries, and no place used.
abbrev pub by_hand : ℕ → List ℕ → List ℕ
by_hand count words = sets (count ∷ (replicate 2170 77 ++ replicate 2048 0)) 123 words

abbrev pub on : List ℕ → List Row → Case
on slice rows = record { start = lent forked slice; rows = rows }
