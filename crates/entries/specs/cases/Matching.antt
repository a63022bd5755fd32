-- Entries that are matched: an entry leaves "when the line of a chosen box's shown block holds a movement of the same giver, taker and
-- pallets that the host names for it and that took out no entry before."
use Rattle.std.specs.Prelude.{ℕ, List, [], ◌∷◌, ◌++◌}
use Rattle.std.proofs.lemmas.List.Edits.{sets}
use Rattle.protocol.specs.Outcome.{Answer, wrong_form, out_of_range, unknown_number, wrong_movement, wrong_identity, wrong_certificate}
use Rattle.protocol.specs.Outcome.{accepted, refused}
use Rattle.entries.specs.Waiting.{Lent, lent}
use Rattle.entries.specs.Arrivals.{ledger_after}
use Rattle.entries.specs.cases.Rows.{enters, withdraws, matches, asks, Row, ◌gives◌, ◌gives◌leaving◌, Case}
use Rattle.entries.specs.cases.Starts.{forked, nothing, moves, waits, by_hand, on}

-- Firm 1 takes 5 and 3, firm 2 takes 4 between them.
abbrev three : Lent
three = ledger_after (lent forked nothing) (enters 7 0 1 5 ∷ enters 8 0 2 4 ∷ enters 9 2 1 3 ∷ [])

abbrev on_three : List Row → Case
on_three rows = record { start = three; rows = rows }

-- The movement of entry 7, in block 2.
abbrev fits : List ℕ
fits = moves 2 0 1 5

-- ---- the list and the place

-- "1 for a movement list longer than this or of broken records"; "A place past the movement list returns 3."
abbrev pub lists : Case
lists =
    on_three
    (matches (fits ++ (2 ∷ [])) 0 7 0 gives refused wrong_form
    ∷ matches (fits ++ (2 ∷ 0 ∷ [])) 0 7 0 gives refused wrong_form
    ∷ matches (fits ++ (2 ∷ 0 ∷ 1 ∷ [])) 0 7 0 gives refused wrong_form leaving []
    ∷ matches [] 0 7 0 gives refused unknown_number
    ∷ matches fits 0 7 1 gives refused unknown_number
    ∷ matches (fits ++ fits) 0 7 2 gives refused unknown_number
    ∷ matches (moves 1 2 1 3 ++ fits) 0 7 1 gives accepted 0 0
    ∷ asks 1 gives accepted 3 9
    ∷ matches (moves 1 2 1 3 ++ fits) 0 9 0 gives accepted 0 0
    ∷ asks 1 gives accepted 0 0
    ∷ asks 2 gives accepted 4 8
    ∷ [])

-- ---- every movement of the list is tested

-- A movement at a place that is not named, after the one that is and before it; and at the place that is named.
abbrev tested : List ℕ → Answer → Answer → List Row
tested other beside named =
    matches (fits ++ other) 0 7 0 gives beside
    ∷ matches (other ++ fits) 0 7 1 gives beside
    ∷ matches other 0 7 0 gives named
    ∷ []

abbrev breaks : List ℕ → List Row
breaks other = tested other (refused wrong_movement) (refused wrong_movement)

abbrev pub every_movement : Case
every_movement =
    on_three
    (breaks (moves 0 0 1 5)
    ++ (breaks (moves 5 0 1 5)
    ++ (breaks (moves 2 3 1 5)
    ++ (breaks (moves 2 0 3 5)
    ++ (breaks (moves 2 1 1 5)
    ++ (breaks (moves 2 0 1 0)
    ++ breaks (moves 2 0 1 10001)))))))

-- What is only just allowed is tested and passes, wherever it stands.
abbrev passes : List ℕ → Case
passes other = on_three (matches (other ++ fits) 0 7 1 gives accepted 0 0 ∷ [])

unfoldable pub passing_cases : List Case
passing_cases =
    passes (moves 1 0 1 5)
    ∷ passes (moves 4 0 1 5)
    ∷ passes (moves 2 2 1 5)
    ∷ passes (moves 2 0 2 5)
    ∷ passes (moves 2 0 1 1)
    ∷ passes (moves 2 0 1 10000)
    ∷ []

-- ---- replica, identity and order

abbrev pub identities_matched : Case
identities_matched =
    on_three
    (matches fits 3 7 0 gives refused out_of_range
    ∷ matches fits 0 0 0 gives refused wrong_identity
    ∷ matches fits 0 6 0 gives refused wrong_identity
    ∷ matches fits 0 10 0 gives refused wrong_identity leaving []
    ∷ matches fits 2 7 0 gives accepted 0 0
    ∷ matches fits 2 7 0 gives refused wrong_identity
    ∷ [])

-- 1 before 2 before 3 before 11 before 13 before 5: each row has what the next one refuses too.
abbrev pub order : Case
order =
    on_three
    (matches (moves 0 0 1 6 ++ (2 ∷ [])) 3 6 1 gives refused wrong_form
    ∷ matches (moves 0 0 1 6) 3 6 1 gives refused out_of_range
    ∷ matches (moves 0 0 1 6) 0 6 1 gives refused unknown_number
    ∷ matches (moves 0 0 1 6) 0 6 0 gives refused wrong_movement
    ∷ matches (moves 3 0 1 6) 0 6 0 gives refused wrong_identity
    ∷ matches (moves 3 0 1 6) 0 7 0 gives refused wrong_certificate
    ∷ [])

-- ---- "a named movement that doesn't fit the entry, lies outside the line or was used before returns 5"

-- Giver, taker and pallets by themselves, and another entry's. After each nothing has changed, so that the right one is accepted.
abbrev pub other_movement : Case
other_movement =
    on_three
    (matches (moves 2 2 1 5) 0 7 0 gives refused wrong_certificate
    ∷ matches (moves 2 0 2 5) 0 7 0 gives refused wrong_certificate
    ∷ matches (moves 2 0 1 4) 0 7 0 gives refused wrong_certificate
    ∷ matches (moves 2 0 1 6) 0 7 0 gives refused wrong_certificate
    ∷ matches fits 0 8 0 gives refused wrong_certificate
    ∷ matches fits 0 9 0 gives refused wrong_certificate
    ∷ matches (moves 2 2 1 3 ++ fits) 0 7 0 gives refused wrong_certificate leaving []
    ∷ asks 1 gives accepted 8 7
    ∷ matches fits 0 7 0 gives accepted 0 0
    ∷ asks 1 gives accepted 3 9
    ∷ [])

-- Replica 0 shows block 2: block 4 is above it, block 3 beside it. Replica 1 shows block 0, whose line is block 0 alone.
abbrev pub lines : Case
lines =
    on_three
    (matches (moves 4 0 1 5) 0 7 0 gives refused wrong_certificate
    ∷ matches (moves 3 0 1 5) 0 7 0 gives refused wrong_certificate
    ∷ matches (moves 3 0 1 5) 2 7 0 gives refused wrong_certificate
    ∷ matches fits 1 7 0 gives refused wrong_certificate
    ∷ matches (moves 1 0 1 5) 1 7 0 gives refused wrong_certificate
    ∷ matches (moves 1 0 1 5) 0 7 0 gives accepted 0 0
    ∷ matches (moves 4 0 2 4 ++ moves 4 0 2 4) 2 8 1 gives accepted 0 0
    ∷ [])

-- A place takes out one entry, whatever list is lent; an equal movement at the next place takes out another. It stays used when the
-- identity leaves and comes again.
abbrev pub places : Case
places =
    on nothing
    (enters 7 0 1 5 gives accepted 0 0
    ∷ enters 8 0 1 5 gives accepted 0 0
    ∷ enters 9 0 2 4 gives accepted 0 0
    ∷ matches (fits ++ fits) 0 7 0 gives accepted 0 0
    ∷ matches (fits ++ fits) 0 8 0 gives refused wrong_certificate
    ∷ matches (moves 2 0 2 4) 0 9 0 gives refused wrong_certificate
    ∷ matches (moves 1 0 1 5) 2 8 0 gives refused wrong_certificate leaving []
    ∷ matches (fits ++ fits) 0 8 1 gives accepted 0 0
    ∷ enters 7 0 1 5 gives accepted 0 0
    ∷ matches (fits ++ fits) 0 7 0 gives refused wrong_certificate
    ∷ matches (fits ++ fits) 0 7 1 gives refused wrong_certificate
    ∷ withdraws 7 gives accepted 0 0
    ∷ enters 7 0 1 5 gives accepted 0 0
    ∷ matches fits 0 7 0 gives refused wrong_certificate
    ∷ asks 1 gives accepted 5 7
    ∷ matches (fits ++ (fits ++ fits)) 0 7 2 gives accepted 0 0
    ∷ asks 1 gives accepted 0 0
    ∷ asks 2 gives accepted 4 9
    ∷ [])

-- A word other than 0 says that a place was used: by hand, at places 0, 2 and 3. Place 1 was not.
abbrev pub place_words : Case
place_words =
    on (sets (by_hand 1 (waits 7 0 1 5)) 2171 (1 ∷ 0 ∷ 2 ∷ 4294967295 ∷ []))
    (matches (fits ++ (fits ++ (fits ++ fits))) 0 7 0 gives refused wrong_certificate
    ∷ matches (fits ++ (fits ++ (fits ++ fits))) 0 7 2 gives refused wrong_certificate
    ∷ matches (fits ++ (fits ++ (fits ++ fits))) 0 7 3 gives refused wrong_certificate
    ∷ matches (fits ++ (fits ++ (fits ++ fits))) 0 7 1 gives accepted 0 0
    ∷ [])

-- By hand, as no list of calls leads there: of two entries of one identity the earlier is the one to fit, and leaves.
abbrev pub earlier_matched : Case
earlier_matched =
    on (by_hand 2 (waits 7 0 1 5 ++ waits 7 0 2 4))
    (matches (moves 2 0 2 4) 0 7 0 gives refused wrong_certificate
    ∷ matches fits 0 7 0 gives accepted 0 0
    ∷ asks 1 gives accepted 0 0
    ∷ asks 2 gives accepted 77 77
    ∷ matches (fits ++ moves 2 0 2 4) 0 7 1 gives accepted 0 0
    ∷ asks 2 gives accepted 0 0
    ∷ [])

unfoldable pub matching_cases : List Case
matching_cases =
    lists
    ∷ every_movement
    ∷ identities_matched
    ∷ order
    ∷ other_movement
    ∷ lines
    ∷ places
    ∷ place_words
    ∷ earlier_matched
    ∷ passing_cases
