-- Lists of calls on entries that wait, and what they and their answers tell: "the history of arrivals and departures since the last opening"
-- (document 02, #108). Events are told from calls and answers, never from a word, the oldest first.
use Rattle.std.specs.Prelude.{ℕ, ◌+◌, Bool, true, false, cond, not, ◌&&◌, ◌||◌, List, [], ◌∷◌, ◌++◌, eqb}
use Rattle.protocol.specs.Memory.{Memory}
use Rattle.protocol.specs.Outcome.{Answer}
use Rattle.protocol.specs.Runs.{Invocation, step}
use Rattle.protocol.specs.Theorems.{Accepted}
use Rattle.entries.specs.declared.Entry.{Entry}
use Rattle.entries.specs.Waiting.{Lent, lent, WaitingOutcome, WaitingCall, Open, Enter, Withdraw, Match, Ask, waiting_step}

-- ---- events

-- An accepted opening that is lent the further slice, with the number of replicas that it returned; an arrival; a departure by an identity,
-- withdrawn, or matched by a place.
pub data Event : Type 0 where
  opened : ℕ → Event
  entered : Entry → Event
  withdrawn : ℕ → Event
  matched : ℕ → ℕ → Event

abbrev pub accepted_events : WaitingCall → Answer → List Event
accepted_events (Open f steps) a = opened a.first ∷ []
accepted_events (Enter e) a = entered e ∷ []
accepted_events (Withdraw identity) a = withdrawn identity ∷ []
accepted_events (Match movements i identity place) a = matched identity place ∷ []
accepted_events (Ask taker) a = []

-- A refused call tells nothing.
unfoldable pub events_of : WaitingCall → Answer → List Event
events_of call a = cond (eqb a.number 0) (accepted_events call a) []

-- ---- a full pass over them

-- Whether an arrival of an identity leaves in an event that comes later: withdrawn or matched, or emptied by an opening.
abbrev pub takes_out : Event → ℕ → Bool
takes_out (opened n) identity = true
takes_out (entered e) identity = false
takes_out (withdrawn gone) identity = eqb gone identity
takes_out (matched gone place) identity = eqb gone identity

unfoldable pub leaves : ℕ → List Event → Bool
leaves identity [] = false
leaves identity (x ∷ later) = takes_out x identity || leaves identity later

-- The arrivals that do not leave later, the earliest first.
unfoldable pub still_waiting : List Event → List Entry
still_waiting [] = []
still_waiting (opened n ∷ later) = still_waiting later
still_waiting (entered e ∷ later) = cond (leaves e.identity later) (still_waiting later) (e ∷ still_waiting later)
still_waiting (withdrawn gone ∷ later) = still_waiting later
still_waiting (matched gone place ∷ later) = still_waiting later

-- An arrival for a taker that does not leave later.
abbrev pub waits_for : ℕ → Entry → List Event → Bool
waits_for taker e later = eqb e.taker taker && not (leaves e.identity later)

-- "the pallets waiting", by the history
unfoldable pub pallets_by : List Event → ℕ → ℕ
pallets_by [] taker = 0
pallets_by (opened n ∷ later) taker = pallets_by later taker
pallets_by (entered e ∷ later) taker = cond (waits_for taker e later) e.pallets 0 + pallets_by later taker
pallets_by (withdrawn gone ∷ later) taker = pallets_by later taker
pallets_by (matched gone place ∷ later) taker = pallets_by later taker

-- "the identity of the earliest arrival still waiting, or 0 if there is none", by the history
unfoldable pub earliest_by : List Event → ℕ → ℕ
earliest_by [] taker = 0
earliest_by (opened n ∷ later) taker = earliest_by later taker
earliest_by (entered e ∷ later) taker = cond (waits_for taker e later) e.identity (earliest_by later taker)
earliest_by (withdrawn gone ∷ later) taker = earliest_by later taker
earliest_by (matched gone place ∷ later) taker = earliest_by later taker

-- What an Ask of a taker answers by the history.
abbrev pub passed : List Event → ℕ → Answer
passed events taker = record { number = 0; first = pallets_by events taker; second = earliest_by events taker }

-- How many replicas the last opening returned; so many where there is none.
unfoldable pub replicas_by : List Event → ℕ → ℕ
replicas_by [] n = n
replicas_by (opened k ∷ later) n = replicas_by later k
replicas_by (entered e ∷ later) n = replicas_by later n
replicas_by (withdrawn gone ∷ later) n = replicas_by later n
replicas_by (matched gone place ∷ later) n = replicas_by later n

abbrev pub is_opened : Event → Bool
is_opened (opened n) = true
is_opened (entered e) = false
is_opened (withdrawn gone) = false
is_opened (matched gone place) = false

-- An opening is among the events.
unfoldable pub opens_among : List Event → Bool
opens_among [] = false
opens_among (x ∷ later) = is_opened x || opens_among later

-- Whether an event takes an entry out by the movement at a place.
abbrev pub takes_out_by : Event → ℕ → Bool
takes_out_by (opened n) place = false
takes_out_by (entered e) place = false
takes_out_by (withdrawn gone) place = false
takes_out_by (matched gone taking) place = eqb taking place

-- "that took out no entry before": whether the movement at a place did take one out, with no opening after that.
unfoldable pub used_by : List Event → ℕ → Bool
used_by [] place = false
used_by (x ∷ later) place = (takes_out_by x place && not (opens_among later)) || used_by later place

-- ---- "While these calls and opening alone change the slice": the ledger's three slices are anything at each call

pub record LentCall : Type 0 where
  pub memory : Memory
  pub call : WaitingCall

abbrev pub call_on : List ℕ → LentCall → WaitingOutcome
call_on w q = waiting_step (lent q.memory w) q.call

-- The further slice that a list of calls leaves, each lent it as the last left it; and the events.
unfoldable pub slice_after : List ℕ → List LentCall → List ℕ
slice_after w [] = w
slice_after w (q ∷ qs) = slice_after (call_on w q).state.waiting qs

unfoldable pub history : List ℕ → List LentCall → List Event
history w [] = []
history w (q ∷ qs) = events_of q.call (call_on w q).answer ++ history (call_on w q).state.waiting qs

-- An accepted opening with the slice, whatever the four slices held, and calls after it, further openings with the slice among them.
pub record SliceRun : Type 0 where
  pub start : Lent
  pub f : ℕ
  pub steps : List ℕ
  pub calls : List LentCall
  pub accepted : Accepted (waiting_step start (Open f steps))

abbrev pub opened_slice : SliceRun → List ℕ
opened_slice x = (waiting_step x.start (Open x.f x.steps)).state.waiting

abbrev pub slice_end : SliceRun → List ℕ
slice_end x = slice_after (opened_slice x) x.calls

abbrev pub slice_told : SliceRun → List Event
slice_told x =
    events_of (Open x.f x.steps) (waiting_step x.start (Open x.f x.steps)).answer ++ history (opened_slice x) x.calls

-- ---- a ledger whose three slices too are changed by its own calls alone

-- One of the twelve calls, lent the three slices, or one that is lent the four.
pub data LedgerCall : Type 0 where
  plain : Invocation → LedgerCall
  on_entries : WaitingCall → LedgerCall

unfoldable pub ledger_step : Lent → LedgerCall → WaitingOutcome
ledger_step s (plain q) =
    let o = step s.memory q.call q.list in
    record { answer = o.answer; state = lent o.state s.waiting }
ledger_step s (on_entries call) = waiting_step s call

abbrev pub ledger_events : LedgerCall → Answer → List Event
ledger_events (plain q) a = []
ledger_events (on_entries call) a = events_of call a

unfoldable pub ledger_after : Lent → List LedgerCall → Lent
ledger_after s [] = s
ledger_after s (q ∷ qs) = ledger_after (ledger_step s q).state qs

unfoldable pub ledger_history : Lent → List LedgerCall → List Event
ledger_history s [] = []
ledger_history s (q ∷ qs) = ledger_events q (ledger_step s q).answer ++ ledger_history (ledger_step s q).state qs

-- An accepted opening with the slice, and any calls after it. A plain opening is allowed: it leaves the further slice as it is and tells
-- nothing. With another f (a table of another length, which only a caller that lends other slices can bring) an entry's giver or taker may
-- be no replica any more, and then the calls on entries give 1.
pub record LedgerRun : Type 0 where
  pub start : Lent
  pub f : ℕ
  pub steps : List ℕ
  pub calls : List LedgerCall
  pub accepted : Accepted (waiting_step start (Open f steps))

abbrev pub opened_ledger : LedgerRun → Lent
opened_ledger x = (waiting_step x.start (Open x.f x.steps)).state

abbrev pub ledger_end : LedgerRun → Lent
ledger_end x = ledger_after (opened_ledger x) x.calls

abbrev pub ledger_told : LedgerRun → List Event
ledger_told x =
    events_of (Open x.f x.steps) (waiting_step x.start (Open x.f x.steps)).answer ++ ledger_history (opened_ledger x) x.calls
