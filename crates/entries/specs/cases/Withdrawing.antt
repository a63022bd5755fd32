-- Entries that are withdrawn: "13 for an identity [..] not waiting when it should leave".
use Rattle.std.specs.Prelude.{List, [], ◌∷◌, ◌++◌}
use Rattle.protocol.specs.Outcome.{wrong_identity, accepted, refused}
use Rattle.entries.specs.Waiting.{Lent, lent}
use Rattle.entries.specs.Arrivals.{ledger_after}
use Rattle.entries.specs.cases.Rows.{enters, withdraws, asks, Row, ◌gives◌, ◌gives◌leaving◌, Case}
use Rattle.entries.specs.cases.Starts.{forked, nothing, waits, by_hand, on}

-- Firm 1 takes 5 and 3, firm 2 takes 4 between them.
abbrev three : Lent
three = ledger_after (lent forked nothing) (enters 7 0 1 5 ∷ enters 8 0 2 4 ∷ enters 9 2 1 3 ∷ [])

abbrev on_three : List Row → Case
on_three rows = record { start = three; rows = rows }

abbrev pub not_waiting : Case
not_waiting =
    on_three
    (withdraws 0 gives refused wrong_identity
    ∷ withdraws 6 gives refused wrong_identity
    ∷ withdraws 10 gives refused wrong_identity leaving []
    ∷ asks 1 gives accepted 8 7
    ∷ asks 2 gives accepted 4 8
    ∷ [])

-- The words past the count are no entry.
abbrev pub not_past_the_count : Case
not_past_the_count = on (by_hand 1 (waits 7 0 1 5)) (withdraws 77 gives refused wrong_identity ∷ [])

abbrev pub first_leaves : Case
first_leaves =
    on_three
    (withdraws 7 gives accepted 0 0
    ∷ asks 1 gives accepted 3 9
    ∷ asks 2 gives accepted 4 8
    ∷ withdraws 7 gives refused wrong_identity
    ∷ [])

abbrev pub middle_leaves : Case
middle_leaves =
    on_three
    (withdraws 8 gives accepted 0 0
    ∷ asks 1 gives accepted 8 7
    ∷ asks 2 gives accepted 0 0
    ∷ withdraws 8 gives refused wrong_identity
    ∷ [])

-- The last of them leaves, and its words stay behind the count: it does not wait any more.
abbrev pub last_leaves : Case
last_leaves =
    on_three
    (withdraws 9 gives accepted 0 0
    ∷ asks 1 gives accepted 5 7
    ∷ asks 2 gives accepted 4 8
    ∷ withdraws 9 gives refused wrong_identity
    ∷ withdraws 7 gives accepted 0 0
    ∷ asks 1 gives accepted 0 0
    ∷ withdraws 8 gives accepted 0 0
    ∷ asks 2 gives accepted 0 0
    ∷ withdraws 8 gives refused wrong_identity
    ∷ [])

-- "An identity may come again after it has left, as a fresh arrival": the earliest is another then.
abbrev pub comes_again : Case
comes_again =
    on nothing
    (enters 7 0 1 5 gives accepted 0 0
    ∷ enters 8 0 1 4 gives accepted 0 0
    ∷ asks 1 gives accepted 9 7
    ∷ withdraws 7 gives accepted 0 0
    ∷ asks 1 gives accepted 4 8
    ∷ enters 7 0 1 5 gives accepted 0 0
    ∷ asks 1 gives accepted 9 8
    ∷ withdraws 8 gives accepted 0 0
    ∷ asks 1 gives accepted 5 7
    ∷ [])

-- By hand, as no list of calls leads there: of two entries of one identity the earlier leaves, and the words of its taker are written.
abbrev pub earlier_withdrawn : Case
earlier_withdrawn =
    on (by_hand 3 (waits 7 0 1 5 ++ (waits 8 0 1 4 ++ waits 7 0 2 3)))
    (withdraws 7 gives accepted 0 0
    ∷ asks 1 gives accepted 4 8
    ∷ asks 2 gives accepted 77 77
    ∷ withdraws 7 gives accepted 0 0
    ∷ asks 1 gives accepted 4 8
    ∷ asks 2 gives accepted 0 0
    ∷ withdraws 7 gives refused wrong_identity
    ∷ [])

unfoldable pub withdrawing_cases : List Case
withdrawing_cases =
    not_waiting
    ∷ not_past_the_count
    ∷ first_leaves
    ∷ middle_leaves
    ∷ last_leaves
    ∷ comes_again
    ∷ earlier_withdrawn
    ∷ []
