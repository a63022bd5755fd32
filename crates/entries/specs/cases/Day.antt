-- A worked day: firms 0, 1 and 2 open a ledger with entries that wait, and decide one block. After each step that could change them stand the
-- pallets waiting for a taker and the earliest identity, as an Ask returns them; and what a full pass over the day's events gives.
use Rattle.std.specs.Prelude.{ℕ, ◌≡◌, true, false, List, [], ◌∷◌, ◌++◌, map, take, replicate}
use Rattle.protocol.specs.declared.Call.TheVariants.{Block, Prepare, Store, View, Accumulate, Decide}
use Rattle.protocol.specs.declared.Justification.TheVariants.{Acc}
use Rattle.protocol.specs.Outcome.{Answer, wrong_movement, wrong_identity, wrong_certificate, accepted, refused}
use Rattle.protocol.specs.Runs.{plain, ◌on◌}
use Rattle.protocol.specs.cases.Starts.{blank}
use Rattle.entries.specs.declared.Entry.{Entry}
use Rattle.entries.specs.Waiting.{lent}
use Rattle.entries.specs.Arrivals.{Event, opened, entered, withdrawn, matched, still_waiting, passed, replicas_by, opens_among}
use Rattle.entries.specs.Arrivals.{used_by, ledger_history}
use Rattle.entries.specs.cases.Rows.{calls, opens, made, enters, withdraws, matches, asks, Row, ◌gives◌, Case, call_of}
use Rattle.entries.specs.cases.Starts.{moves}

-- Firm 1 took 5 from firm 0, 3 from firm 2, and 5 from firm 0 once more: places 0, 1 and 2, all in block 1.
abbrev pub movements : List ℕ
movements = moves 1 0 1 5 ++ (moves 1 2 1 3 ++ moves 1 0 1 5)

-- The dispatchers enter what they expect: 5 for firm 1, 4 for firm 2, 3 more for firm 1.
abbrev morning : List Row
morning =
    opens 1 [] gives accepted 3 0
    ∷ asks 1 gives accepted 0 0
    ∷ enters 7 0 1 5 gives accepted 0 0
    ∷ asks 1 gives accepted 5 7
    ∷ enters 8 0 2 4 gives accepted 0 0
    ∷ asks 1 gives accepted 5 7
    ∷ asks 2 gives accepted 4 8
    ∷ enters 9 2 1 3 gives accepted 0 0
    ∷ asks 1 gives accepted 8 7
    ∷ asks 2 gives accepted 4 8
    ∷ []

-- The movements are not allowed before block 1 is added, and fit nothing before replica 0 shows it.
abbrev deciding : List Row
deciding =
    matches movements 0 7 0 gives refused wrong_movement
    ∷ calls (plain (Block 0)) gives accepted 1 0
    ∷ matches movements 0 7 0 gives refused wrong_certificate
    ∷ calls (plain (View 0 1)) gives accepted 0 0
    ∷ calls (plain (View 1 1)) gives accepted 1 0
    ∷ calls (Accumulate 0 on (0 ∷ 1 ∷ [])) gives accepted 2 0
    ∷ calls (plain (Prepare 0 1 (Acc 2))) gives accepted 3 0
    ∷ calls (plain (Store 0 3)) gives accepted 4 0
    ∷ calls (plain (Store 2 3)) gives accepted 5 0
    ∷ matches movements 0 7 0 gives refused wrong_certificate
    ∷ calls (Decide 0 on (4 ∷ 5 ∷ [])) gives accepted 1 1
    ∷ asks 1 gives accepted 8 7
    ∷ []

-- Place 0 takes out 7, the earliest: 9 is now. 7 comes again as a fresh arrival, and place 0 does not take it out a second time; the equal
-- movement at place 2 does.
abbrev noon : List Row
noon =
    matches movements 0 7 0 gives accepted 0 0
    ∷ asks 1 gives accepted 3 9
    ∷ enters 7 0 1 5 gives accepted 0 0
    ∷ asks 1 gives accepted 8 9
    ∷ matches movements 0 7 0 gives refused wrong_certificate
    ∷ asks 1 gives accepted 8 9
    ∷ matches movements 0 7 2 gives accepted 0 0
    ∷ asks 1 gives accepted 3 9
    ∷ []

-- 6 comes after 9 and leaves before it: 9 stays the earliest, and leaves last. Firm 2's entry is withdrawn.
abbrev afternoon : List Row
afternoon =
    enters 6 2 1 2 gives accepted 0 0
    ∷ asks 1 gives accepted 5 9
    ∷ withdraws 6 gives accepted 0 0
    ∷ asks 1 gives accepted 3 9
    ∷ withdraws 8 gives accepted 0 0
    ∷ asks 1 gives accepted 3 9
    ∷ asks 2 gives accepted 0 0
    ∷ matches movements 0 9 1 gives accepted 0 0
    ∷ asks 1 gives accepted 0 0
    ∷ withdraws 9 gives refused wrong_identity
    ∷ []

-- One entry is left when the ledger is opened again, which empties it.
abbrev evening : List Row
evening =
    enters 7 0 1 5 gives accepted 0 0
    ∷ asks 1 gives accepted 5 7
    ∷ opens 1 [] gives accepted 3 0
    ∷ asks 1 gives accepted 0 0
    ∷ withdraws 7 gives refused wrong_identity
    ∷ []

abbrev pub day : Case
day =
    record {
      start = lent (blank 1) (replicate 4219 77);
      rows = morning ++ (deciding ++ (noon ++ (afternoon ++ evening)));
    }

-- ---- what its calls and their answers tell

abbrev pub day_events : List Event
day_events =
    opened 3
    ∷ entered (made 7 0 1 5)
    ∷ entered (made 8 0 2 4)
    ∷ entered (made 9 2 1 3)
    ∷ matched 7 0
    ∷ entered (made 7 0 1 5)
    ∷ matched 7 2
    ∷ entered (made 6 2 1 2)
    ∷ withdrawn 6
    ∷ withdrawn 8
    ∷ matched 9 1
    ∷ entered (made 7 0 1 5)
    ∷ opened 3
    ∷ []

-- Refused calls, Asks and the twelve calls of a ledger tell nothing.
unfoldable pub DayTold : Type 0
DayTold = ledger_history day.start (map call_of day.rows) ≡ day_events

-- A full pass over the first so many events, for a taker.
pub record Pass : Type 0 where
  pub events : ℕ
  pub taker : ℕ
  pub expected : Answer

abbrev pass : ℕ → ℕ → ℕ → ℕ → Pass
pass events taker pallets earliest = record { events = events; taker = taker; expected = accepted pallets earliest }

abbrev pub passes : List Pass
passes =
    pass 0 1 0 0
    ∷ pass 1 1 0 0
    ∷ pass 2 1 5 7
    ∷ pass 3 1 5 7
    ∷ pass 3 2 4 8
    ∷ pass 3 0 0 0
    ∷ pass 4 1 8 7
    ∷ pass 5 1 3 9
    ∷ pass 6 1 8 9
    ∷ pass 7 1 3 9
    ∷ pass 8 1 5 9
    ∷ pass 9 1 3 9
    ∷ pass 10 1 3 9
    ∷ pass 10 2 0 0
    ∷ pass 11 1 0 0
    ∷ pass 12 1 5 7
    ∷ pass 13 1 0 0
    ∷ []

abbrev pub PassesHold : Type 0
PassesHold = map (λ (p : Pass). passed (take p.events day_events) p.taker) passes ≡ map (λ (p : Pass). p.expected) passes

-- Who still waits after the first so many events, the earliest first.
abbrev pub waiting_after : ℕ → List Entry
waiting_after n = still_waiting (take n day_events)

abbrev pub WaitingHold : Type 0
WaitingHold =
    (waiting_after 0 ≡ [])
    × (waiting_after 4 ≡ made 7 0 1 5 ∷ made 8 0 2 4 ∷ made 9 2 1 3 ∷ [])
    × (waiting_after 5 ≡ made 8 0 2 4 ∷ made 9 2 1 3 ∷ [])
    × (waiting_after 6 ≡ made 8 0 2 4 ∷ made 9 2 1 3 ∷ made 7 0 1 5 ∷ [])
    × (waiting_after 10 ≡ made 9 2 1 3 ∷ [])
    × (waiting_after 12 ≡ made 7 0 1 5 ∷ [])
    × (waiting_after 13 ≡ [])

-- How many replicas the last opening returned, and whether one is among the events.
abbrev pub OpeningsHold : Type 0
OpeningsHold =
    (replicas_by [] 5 ≡ 5)
    × (replicas_by (take 12 day_events) 5 ≡ 3)
    × (replicas_by (take 12 day_events ++ (opened 61 ∷ entered (made 7 0 1 5) ∷ [])) 5 ≡ 61)
    × (opens_among [] ≡ false)
    × (opens_among (entered (made 7 0 1 5) ∷ matched 7 0 ∷ withdrawn 7 ∷ []) ≡ false)
    × (opens_among (entered (made 7 0 1 5) ∷ matched 7 0 ∷ withdrawn 7 ∷ opened 3 ∷ matched 8 0 ∷ []) ≡ true)

-- A place is used by a match at it, and no more once an opening came after that.
abbrev pub UsesHold : Type 0
UsesHold =
    (used_by [] 2 ≡ false)
    × (used_by (matched 7 2 ∷ []) 2 ≡ true)
    × (used_by (matched 2 7 ∷ withdrawn 2 ∷ entered (made 2 0 1 2) ∷ []) 2 ≡ false)
    × (used_by (opened 3 ∷ matched 7 2 ∷ matched 8 4 ∷ []) 2 ≡ true)
    × (used_by (matched 7 2 ∷ opened 3 ∷ []) 2 ≡ false)
    × (used_by (matched 7 2 ∷ opened 3 ∷ matched 9 2 ∷ []) 2 ≡ true)

unfoldable pub EventsHold : Type 0
EventsHold = PassesHold × WaitingHold × OpeningsHold × UsesHold
