-- Who can decide in which view (document 02, #109), at each limit and one past it; and the numbers of a way on.
use Rattle.std.specs.Prelude.{ℕ, ◌≡◌, true, false, List, [], ◌∷◌, ◌++◌, map}
use Rattle.protocol.specs.declared.Call.TheVariants.{Open, Block, Prepare, Store, View, Accumulate, Decide, Reboot, Reserve}
use Rattle.protocol.specs.declared.Justification.TheVariants.{Acc}
use Rattle.protocol.specs.Memory.{Memory, memory}
use Rattle.protocol.specs.Outcome.{accepted, refused}
use Rattle.protocol.specs.Runs.{Invocation, plain, ◌on◌, run}
use Rattle.protocol.specs.Theorems.{table_word}
use Rattle.protocol.specs.WayOn.{decision_slots, decision_calls, leader_of, can_decide, is_accepted, counting}
use Rattle.protocol.specs.cases.Rows.{◌reads◌, overwritten}
use Rattle.protocol.specs.cases.Starts.{zeros}

-- ---- what a case says

-- Some replicas and a view, on a memory.
pub record Choice : Type 0 where
  pub start : Memory
  pub replicas : List ℕ
  pub view : ℕ

abbrev pub choice : Memory → List ℕ → ℕ → Choice
choice m replicas w = record { start = m; replicas = replicas; view = w }

unfoldable pub Can : Choice → Type 0
Can c = can_decide c.start c.replicas c.view ≡ true

unfoldable pub Cannot : Choice → Type 0
Cannot c = can_decide c.start c.replicas c.view ≡ false

unfoldable pub All : {A : Type 0} → (A → Type 0) → List A → Type 0
All P [] = Unit {0}
All P (x ∷ xs) = P x × All P xs

-- ---- the numbers: "2f+4 free places", "2f+6 named calls", "(v−1) mod n", and which answers are of accepted calls

abbrev pub NumbersAre : Type 0
NumbersAre =
    (map decision_slots (1 ∷ 2 ∷ 30 ∷ []) ≡ 6 ∷ 8 ∷ 64 ∷ [])
    × (map decision_calls (1 ∷ 2 ∷ 30 ∷ []) ≡ 8 ∷ 10 ∷ 66 ∷ [])
    × (map (leader_of 1) (1 ∷ 2 ∷ 3 ∷ 4 ∷ []) ≡ 0 ∷ 1 ∷ 2 ∷ 0 ∷ [])
    × (leader_of 30 62 ≡ 0)
    × (counting 5 3 ≡ 5 ∷ 6 ∷ 7 ∷ [])
    × (map is_accepted (accepted 7 1 ∷ refused 1 ∷ refused 9 ∷ []) ≡ true ∷ false ∷ false ∷ [])

-- ---- who can decide, and who cannot

-- An opening for f = 1 with so many slots; replica 1 leads view 2.
abbrev pub fresh : ℕ → ℕ → Memory
fresh certificates blocks = run (zeros 1 certificates blocks) (plain (Open 1) ∷ [])

abbrev pub roomy : List Invocation → Memory
roomy calls = run (fresh 12 3) calls

-- Six certificates and a block more: replicas 0 and 1 have stored block 1 in view 2, and replica 1 has decided it.
abbrev pub decided_once : ℕ → ℕ → Memory
decided_once certificates blocks =
    run (fresh certificates blocks)
    (plain (View 0 2)
    ∷ plain (View 1 2)
    ∷ Accumulate 1 on (0 ∷ 1 ∷ [])
    ∷ plain (Block 0)
    ∷ plain (Prepare 1 1 (Acc 2))
    ∷ plain (Store 0 3)
    ∷ plain (Store 1 3)
    ∷ Decide 1 on (4 ∷ 5 ∷ [])
    ∷ [])

-- By hand: every replica's lowest view, with the limit at the counter's end; a retired replica 0; a row more than f has, and longer.
abbrev at_the_end : ℕ → Memory
at_the_end low =
    overwritten (fresh 6 2)
    (table_word 13 reads (low ∷ 1000000 ∷ []) ∷ table_word 22 reads (low ∷ 1000000 ∷ []) ∷ table_word 31 reads (low ∷ 1000000 ∷ []) ∷ [])

abbrev retired_first : Memory
retired_first = overwritten (fresh 6 2) (table_word 11 reads (2 ∷ []) ∷ [])

abbrev four_rows : Memory
four_rows = let m = fresh 6 2 in memory (m.table ++ (0 ∷ 0 ∷ 1 ∷ 64 ∷ 0 ∷ 0 ∷ 0 ∷ 0 ∷ 0 ∷ [])) m.log m.blocks

abbrev fresh_of_five : ℕ → Memory
fresh_of_five certificates = run (zeros 2 certificates 2) (plain (Open 2) ∷ [])

abbrev pub able : List Choice
able =
    choice (fresh 6 2) (0 ∷ 1 ∷ []) 2  -- "2f+4 free places and the blocks one": just so many
    ∷ choice (fresh 6 2) (1 ∷ 0 ∷ []) 2  -- in any order
    ∷ choice (fresh 6 2) (1 ∷ 2 ∷ []) 3
    ∷ choice (fresh 6 2) (0 ∷ 1 ∷ []) 4
    ∷ choice (fresh 6 2) (0 ∷ 2 ∷ []) 63  -- just below the limits
    ∷ choice (roomy (plain (View 0 2) ∷ plain (View 1 2) ∷ [])) (0 ∷ 2 ∷ []) 3  -- just above the lowest views
    ∷ choice (roomy (plain (Reserve 0) ∷ plain (Reserve 1) ∷ [])) (0 ∷ 1 ∷ []) 64
    ∷ choice (at_the_end 999998) (0 ∷ 2 ∷ []) 999999
    ∷ choice (decided_once 12 3) (2 ∷ 1 ∷ []) 5
    ∷ choice (fresh_of_five 8) (0 ∷ 1 ∷ 2 ∷ []) 2
    ∷ []

abbrev pub unable : List Choice
unable =
    choice (fresh 5 2) (0 ∷ 1 ∷ []) 2  -- a slot fewer, of certificates and of blocks
    ∷ choice (fresh 6 1) (0 ∷ 1 ∷ []) 2
    ∷ choice (fresh_of_five 7) (0 ∷ 1 ∷ 2 ∷ []) 2
    ∷ choice (decided_once 11 3) (2 ∷ 1 ∷ []) 5
    ∷ choice (decided_once 12 2) (2 ∷ 1 ∷ []) 5
    ∷ choice (fresh 6 2) (0 ∷ 1 ∷ []) 1  -- a view that is not above their lowest views, or one of these
    ∷ choice (roomy (plain (View 0 2) ∷ [])) (0 ∷ 1 ∷ []) 2
    ∷ choice (roomy (plain (View 1 2) ∷ [])) (0 ∷ 1 ∷ []) 2
    ∷ choice (at_the_end 999999) (0 ∷ 2 ∷ []) 999999
    ∷ choice (fresh 6 2) (0 ∷ 1 ∷ []) 64  -- nor below their limits, or one of these
    ∷ choice (roomy (plain (Reserve 0) ∷ [])) (0 ∷ 1 ∷ []) 64
    ∷ choice (roomy (plain (Reserve 1) ∷ [])) (0 ∷ 1 ∷ []) 64
    ∷ choice (fresh 6 2) (0 ∷ 1 ∷ []) 3  -- led by another
    ∷ choice (fresh 6 2) (1 ∷ 2 ∷ []) 4
    ∷ choice (fresh 6 2) [] 2  -- not f+1, or one of them twice
    ∷ choice (fresh 6 2) (1 ∷ []) 2
    ∷ choice (fresh 6 2) (0 ∷ 1 ∷ 2 ∷ []) 2
    ∷ choice (fresh 6 2) (1 ∷ 1 ∷ []) 2
    ∷ choice (roomy (plain (Reboot 0) ∷ plain (Reserve 1) ∷ [])) (0 ∷ 1 ∷ []) 65  -- recovering, or retired
    ∷ choice retired_first (0 ∷ 1 ∷ []) 2
    ∷ choice four_rows (1 ∷ 3 ∷ []) 2  -- no replica of f
    ∷ []
