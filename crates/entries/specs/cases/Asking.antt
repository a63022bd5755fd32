-- Asks: "asking for a taker returns these two as its values"; "asking for a taker that is no box returns 2."
use Rattle.std.specs.Prelude.{List, [], ◌∷◌, replicate}
use Rattle.protocol.specs.Outcome.{out_of_range, wrong_movement, accepted, refused}
use Rattle.entries.specs.Waiting.{lent}
use Rattle.entries.specs.cases.Rows.{enters, asks, ◌gives◌, ◌gives◌leaving◌, ◌holds◌, Case}
use Rattle.entries.specs.cases.Starts.{sixty_one, nothing, on}

-- The words of each taker stand beside those of the next: 0, 1 and 2 of replicas 0 to 2.
abbrev pub takers : Case
takers =
    on (0 ∷ 10 ∷ 11 ∷ 20 ∷ 21 ∷ 30 ∷ 31 ∷ replicate 4212 77)
    (asks 0 gives accepted 10 11
    ∷ asks 1 gives accepted 20 21
    ∷ asks 2 gives accepted 30 31
    ∷ asks 3 gives refused out_of_range leaving []
    ∷ [])

-- Of 61 replicas the last one's two words stand before the entries.
abbrev pub last_of_many : Case
last_of_many =
    record {
      start = lent sixty_one nothing;
      rows =
          enters 7 61 60 5 gives refused wrong_movement
          ∷ enters 7 59 61 5 gives refused wrong_movement
          ∷ enters 7 59 60 5 gives accepted 0 0 leaving
          (0 holds (1 ∷ []) ∷ 121 holds (5 ∷ 7 ∷ []) ∷ 123 holds (7 ∷ 59 ∷ 60 ∷ 5 ∷ []) ∷ [])
          ∷ enters 8 60 59 4 gives accepted 0 0
          ∷ asks 59 gives accepted 4 8
          ∷ asks 60 gives accepted 5 7
          ∷ asks 61 gives refused out_of_range
          ∷ [];
    }

unfoldable pub asking_cases : List Case
asking_cases = takers ∷ last_of_many ∷ []
