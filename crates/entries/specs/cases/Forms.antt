-- The form of the further slice: each test met, and passed by one. "A further slice of the ledger [..] holds all this; 1 covers its form."
use Rattle.std.specs.Prelude.{ℕ, List, [], ◌∷◌, ◌++◌, replicate}
use Rattle.protocol.specs.Outcome.{wrong_form, accepted, refused}
use Rattle.entries.specs.Waiting.{lent}
use Rattle.entries.specs.cases.Rows.{enters, withdraws, matches, asks, Row, ◌gives◌, ◌gives◌leaving◌, Case}
use Rattle.entries.specs.cases.Starts.{broken_ledger, moves, waits, by_hand, on}

-- The kept words are handed out as they are: 77, which no entry gives.
abbrev formed : List ℕ → Case
formed slice = on slice (asks 1 gives accepted 77 77 ∷ [])

abbrev broken : List ℕ → Case
broken slice = on slice (asks 1 gives refused wrong_form ∷ [])

abbrev one : ℕ → ℕ → ℕ → ℕ → List ℕ
one identity giver taker pallets = by_hand 1 (waits identity giver taker pallets)

-- 4,219 words, no fewer and no more.
unfoldable pub length_cases : List Case
length_cases = broken (0 ∷ replicate 4217 77) ∷ formed (by_hand 0 []) ∷ broken (0 ∷ replicate 4219 77) ∷ []

-- "An entry has an identity (a word other than 0), giver, taker and pallets under the rules for movements": each test by itself.
unfoldable pub entry_form_cases : List Case
entry_form_cases =
    broken (one 0 0 1 5)
    ∷ formed (one 1 0 1 5)
    ∷ formed (one 4294967295 0 1 5)
    ∷ formed (one 7 2 1 5)
    ∷ broken (one 7 3 1 5)
    ∷ formed (one 7 0 2 5)
    ∷ broken (one 7 0 3 5)
    ∷ broken (one 7 1 1 5)
    ∷ broken (one 7 0 1 0)
    ∷ formed (one 7 0 1 1)
    ∷ formed (one 7 0 1 10000)
    ∷ broken (one 7 0 1 10001)
    ∷ []

abbrev good : List ℕ
good = waits 7 0 1 5

abbrev bad : List ℕ
bad = waits 0 0 1 5

-- Every entry below the count is tested, and none from it on. An identity that waits twice breaks no form.
unfoldable pub which_entries_cases : List Case
which_entries_cases =
    formed (by_hand 3 (good ++ (good ++ good)))
    ∷ broken (by_hand 3 (bad ++ (good ++ good)))
    ∷ broken (by_hand 3 (good ++ (bad ++ good)))
    ∷ broken (by_hand 3 (good ++ (good ++ bad)))
    ∷ formed (by_hand 3 (good ++ (good ++ (good ++ bad))))
    ∷ formed (by_hand 0 bad)
    ∷ []

-- Each call tests it, the ledger's form too, before everything else: first with nothing else wrong, then with something.
abbrev refusals : List Row
refusals =
    enters 7 0 1 5 gives refused wrong_form
    ∷ withdraws 8 gives refused wrong_form
    ∷ matches (moves 2 0 1 5) 0 8 0 gives refused wrong_form
    ∷ asks 1 gives refused wrong_form
    ∷ enters 0 0 1 5 gives refused wrong_form
    ∷ withdraws 9 gives refused wrong_form
    ∷ matches (moves 2 0 1 5) 3 8 0 gives refused wrong_form
    ∷ asks 3 gives refused wrong_form leaving []
    ∷ []

abbrev pub broken_slice : Case
broken_slice = on (by_hand 2 (waits 8 0 1 5 ++ bad)) refusals

abbrev pub broken_three : Case
broken_three = record { start = lent broken_ledger (by_hand 1 (waits 8 0 1 5)); rows = refusals }

unfoldable pub every_call_cases : List Case
every_call_cases = broken_slice ∷ broken_three ∷ []
