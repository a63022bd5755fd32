-- Entries that are entered: "Entering returns 11 for an identity of 0 or a breach of those rules"; "13 for an identity already waiting".
use Rattle.std.specs.Prelude.{List, [], ◌∷◌, ◌++◌}
use Rattle.protocol.specs.Outcome.{wrong_movement, wrong_identity, accepted, refused}
use Rattle.entries.specs.cases.Rows.{enters, asks, ◌gives◌, ◌gives◌leaving◌, Case}
use Rattle.entries.specs.cases.Starts.{nothing, waits, by_hand, on}

-- Each limit of an entry passed by one, and then met.
abbrev pub limits : Case
limits =
    on nothing
    (enters 0 0 1 5 gives refused wrong_movement
    ∷ enters 7 3 1 5 gives refused wrong_movement
    ∷ enters 7 0 3 5 gives refused wrong_movement
    ∷ enters 7 1 1 5 gives refused wrong_movement
    ∷ enters 7 0 1 0 gives refused wrong_movement
    ∷ enters 7 0 1 10001 gives refused wrong_movement leaving []
    ∷ enters 1 0 1 1 gives accepted 0 0
    ∷ enters 4294967295 2 0 10000 gives accepted 0 0
    ∷ enters 9 0 2 5 gives accepted 0 0
    ∷ asks 0 gives accepted 10000 4294967295
    ∷ asks 1 gives accepted 1 1
    ∷ asks 2 gives accepted 5 9
    ∷ [])

-- An identity that waits, as the first, between others and as the last, whatever the rest of the entry is; 11 comes before.
abbrev pub identities_waiting : Case
identities_waiting =
    on (by_hand 3 (waits 7 0 1 5 ++ (waits 8 0 2 4 ++ waits 9 2 1 3)))
    (enters 7 0 1 5 gives refused wrong_identity
    ∷ enters 8 0 2 4 gives refused wrong_identity
    ∷ enters 9 2 1 3 gives refused wrong_identity
    ∷ enters 7 1 2 6 gives refused wrong_identity leaving []
    ∷ enters 7 0 1 0 gives refused wrong_movement
    ∷ enters 0 0 1 5 gives refused wrong_movement
    ∷ enters 10 0 1 5 gives accepted 0 0
    ∷ enters 10 0 1 5 gives refused wrong_identity
    ∷ enters 7 0 1 5 gives refused wrong_identity
    ∷ [])

-- The words past the count are no entry: 77 does not wait there.
abbrev pub entered_past_the_count : Case
entered_past_the_count = on (by_hand 1 (waits 7 0 1 5)) (enters 77 0 1 5 gives accepted 0 0 ∷ asks 1 gives accepted 10 7 ∷ [])

-- Two of one taker, and one of which it is the giver: "the pallets waiting and the identity of the earliest arrival still waiting".
abbrev pub sums : Case
sums =
    on nothing
    (enters 9 0 1 5 gives accepted 0 0
    ∷ enters 8 2 1 4 gives accepted 0 0
    ∷ enters 7 1 2 3 gives accepted 0 0
    ∷ asks 0 gives accepted 0 0
    ∷ asks 1 gives accepted 9 9
    ∷ asks 2 gives accepted 3 7
    ∷ [])

unfoldable pub entering_cases : List Case
entering_cases = limits ∷ identities_waiting ∷ entered_past_the_count ∷ sums ∷ []
