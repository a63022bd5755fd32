-- What holds of the calls on entries that wait. Each unfoldable type here is a statement, proved in proofs/ under the same name in lower
-- case with hyphens.
use Rattle.std.specs.Prelude.{ℕ, ◌+◌, ◌*◌, ◌≤◌, ◌<◌, ◌≡◌, true, false, length, get_or}
use mathlib.Core.List.{List, [], ◌∷◌, ◌++◌, map, Memᴰ}
use Rattle.protocol.specs.Memory.{Memory, replica_count, fault_bound}
use Rattle.protocol.specs.Form.{well_formed}
use Rattle.protocol.specs.Outcome.{◌else◌, first_refusal, wrong_form, out_of_range, unknown_number, wrong_certificate, wrong_movement, wrong_steps}
use Rattle.protocol.specs.Outcome.{wrong_identity, waiting_full}
use Rattle.protocol.specs.FirstNeeds.{is_replica}
use Rattle.protocol.specs.Runs.{step}
use Rattle.protocol.specs.declared.Call.TheVariants as Plain
use Rattle.movements.specs.Movements.{max_pallets, is_movement_list}
use Rattle.protocol.specs.Theorems.{Accepted, Refused, Lowest, below}
use Rattle.entries.specs.declared.Entry.{Entry}
use Rattle.entries.specs.Entries.{max_waiting, waiting_count_at, kept_pallets_at, kept_earliest_at, entry_width, entry_at, place_at}
use Rattle.entries.specs.Entries.{waiting_words, waiting_count, entries, waiting_formed, entry_of}
use Rattle.entries.specs.Waiting.{Lent, lent, arrival_needs, departure_needs, naming_needs, fit_needs, match_needs, match_fit}
use Rattle.entries.specs.Waiting.{WaitingCall, Open, Enter, Withdraw, Match, Ask, waiting_rule, waiting_step}
use Rattle.entries.specs.Arrivals.{Event, matched, still_waiting, pallets_by, passed, replicas_by, opens_among, used_by}
use Rattle.entries.specs.Arrivals.{SliceRun, slice_end, slice_told, LedgerRun, ledger_end, ledger_told}

-- ---- A refused call returns the number of a need that fails and two zeros, and leaves every word of the slice and of the three.

unfoldable pub RefusedWaitingChangesNothing : Type 0
RefusedWaitingChangesNothing =
    (s : Lent) (call : WaitingCall) → (Accepted (waiting_step s call) → ⊥) → Refused s (waiting_rule s call) (waiting_step s call)

-- ---- An accepted call leaves the four slices well-formed, opening from any earlier contents too.

pub record FormLeft (s : Lent) : Type 0 where
  pub memory : well_formed s.memory ≡ true
  pub waiting : waiting_formed (replica_count (fault_bound s.memory)) s.waiting ≡ true

unfoldable pub AcceptedWaitingLeavesForm : Type 0
AcceptedWaitingLeavesForm =
    (s : Lent) (call : WaitingCall) → Accepted (waiting_step s call) → FormLeft (waiting_step s call).state

-- ---- Opening does to the ledger's slices what the ledger's opening does; the others change no word of them.

pub record LedgerKept (s : Lent) : Type 0 where
  pub opens : (f : ℕ) (steps : List ℕ) → Accepted (waiting_step s (Open f steps))
      → (waiting_step s (Open f steps)).state.memory ≡ (step s.memory (Plain.Open f) steps).state
  pub enters : (e : Entry) → (waiting_step s (Enter e)).state.memory ≡ s.memory
  pub withdraws : (identity : ℕ) → (waiting_step s (Withdraw identity)).state.memory ≡ s.memory
  pub matches : (movements : List ℕ) (i identity place : ℕ)
      → (waiting_step s (Match movements i identity place)).state.memory ≡ s.memory
  pub asks : (taker : ℕ) → (waiting_step s (Ask taker)).state ≡ s

unfoldable pub WaitingLeavesLedger : Type 0
WaitingLeavesLedger = (s : Lent) → LedgerKept s

-- ---- A call changes at most the words of the further slice named for it, and never its length.

abbrev pub taker_indices : ℕ → List ℕ
taker_indices taker = kept_pallets_at taker ∷ kept_earliest_at taker ∷ []

-- Those of a new entry; and of one that leaves, since the entries after it move up.
abbrev pub entry_indices : ℕ → List ℕ
entry_indices k = map (λ o. entry_at k + o) (below entry_width)

abbrev pub departure_indices : List ℕ → ℕ → List ℕ
departure_indices w identity =
    waiting_count_at ∷ (taker_indices (entry_of identity (entries w)).taker ++ map (λ o. entry_at 0 + o) (below (entry_width * waiting_count w)))

unfoldable pub named_waiting : List ℕ → WaitingCall → List ℕ
named_waiting w (Open f steps) = below waiting_words
named_waiting w (Enter e) = waiting_count_at ∷ (taker_indices e.taker ++ entry_indices (waiting_count w))
named_waiting w (Withdraw identity) = departure_indices w identity
named_waiting w (Match movements i identity place) = place_at place ∷ departure_indices w identity
named_waiting w (Ask taker) = []

pub record OnlyNamed (s : Lent) (call : WaitingCall) : Type 0 where
  pub words : (k : ℕ) → (Memᴰ k (named_waiting s.waiting call) → ⊥)
      → get_or (waiting_step s call).state.waiting k 0 ≡ get_or s.waiting k 0
  pub size : length (waiting_step s call).state.waiting ≡ length s.waiting

unfoldable pub OnlyNamedWaitingChange : Type 0
OnlyNamedWaitingChange = (s : Lent) (call : WaitingCall) → OnlyNamed s call

-- ---- The order of refusals: "After 1 to 3 comes 11, then 13, then 14; last, a named movement that doesn't fit the entry, lies outside the
-- line or was used before returns 5."

-- Where a need fails the call is refused, with a number that is not above that of the need. Of a Match that is said of all but its last
-- needs: where one of the others fails, it is the first of these that is returned, and the last decide where all others hold.
pub record WaitingOrder (s : Lent) : Type 0 where
  pub enters : (e : Entry) (number : ℕ) → Memᴰ (false else number) (waiting_rule s (Enter e)).needs
      → Lowest (waiting_step s (Enter e)) number
  pub withdraws : (identity number : ℕ) → Memᴰ (false else number) (waiting_rule s (Withdraw identity)).needs
      → Lowest (waiting_step s (Withdraw identity)) number
  pub matches : (movements : List ℕ) (i identity place number : ℕ)
      → Memᴰ (false else number) (match_needs s movements i identity place)
      → Lowest (waiting_step s (Match movements i identity place)) number
  pub before : (movements : List ℕ) (i identity place : ℕ) → (first_refusal (match_needs s movements i identity place) ≡ 0 → ⊥)
      → (waiting_step s (Match movements i identity place)).answer.number ≡ first_refusal (match_needs s movements i identity place)
  pub fits : (movements : List ℕ) (i identity place : ℕ) → first_refusal (match_needs s movements i identity place) ≡ 0
      → (number : ℕ) → Memᴰ (false else number) (match_fit s movements i identity place)
      → (waiting_step s (Match movements i identity place)).answer.number ≡ wrong_certificate
  pub asks : (taker number : ℕ) → Memᴰ (false else number) (waiting_rule s (Ask taker)).needs
      → Lowest (waiting_step s (Ask taker)) number

unfoldable pub WaitingLowestWins : Type 0
WaitingLowestWins = (s : Lent) → WaitingOrder s

-- Opening with the slice answers what the ledger's opening answers, 2, 12 or 1 included; but 1 where that is accepted and the slice has
-- another length.
pub record OpenTests (s : Lent) (f : ℕ) (steps : List ℕ) : Type 0 where
  pub refused : (Accepted (step s.memory (Plain.Open f) steps) → ⊥)
      → (waiting_step s (Open f steps)).answer ≡ (step s.memory (Plain.Open f) steps).answer
  pub sized : Accepted (step s.memory (Plain.Open f) steps) → length s.waiting ≡ waiting_words
      → (waiting_step s (Open f steps)).answer ≡ (step s.memory (Plain.Open f) steps).answer
  pub unsized : Accepted (step s.memory (Plain.Open f) steps) → (length s.waiting ≡ waiting_words → ⊥)
      → (waiting_step s (Open f steps)).answer.number ≡ wrong_form

unfoldable pub OpenWaitingOrder : Type 0
OpenWaitingOrder = (s : Lent) (f : ℕ) (steps : List ℕ) → OpenTests s f steps

-- It reads no word of the slice: on two of one length it answers the same, and where it is accepted it leaves the same.
pub record SameOpening (m : Memory) (w w' : List ℕ) (f : ℕ) (steps : List ℕ) : Type 0 where
  pub answer : (waiting_step (lent m w) (Open f steps)).answer ≡ (waiting_step (lent m w') (Open f steps)).answer
  pub left : Accepted (waiting_step (lent m w) (Open f steps))
      → (waiting_step (lent m w) (Open f steps)).state ≡ (waiting_step (lent m w') (Open f steps)).state

unfoldable pub OpenReadsNoEntry : Type 0
OpenReadsNoEntry = (m : Memory) (w w' : List ℕ) (f : ℕ) (steps : List ℕ) → length w ≡ length w' → SameOpening m w w' f steps

-- ---- "While these calls and opening alone change the slice, both must equal what a full pass over the history of arrivals and departures
-- since the last opening gives after each step." The ledger's three slices are anything at each call: wherever an Ask is accepted, its two
-- values are the pass.

unfoldable pub AskIsPass : Type 0
AskIsPass =
    (x : SliceRun) (m : Memory) (taker : ℕ) → Accepted (waiting_step (lent m (slice_end x)) (Ask taker))
    → (waiting_step (lent m (slice_end x)) (Ask taker)).answer ≡ passed (slice_told x) taker

-- ---- The calls answer by the history: where the four slices have their form, each returns the number of the first of its needs that
-- fails, with the entries that wait by the history and the places used by it.

pub record AnswersBy (events : List Event) (s : Lent) : Type 0 where
  pub enters : (e : Entry)
      → (waiting_step s (Enter e)).answer.number
      ≡ first_refusal (arrival_needs (replica_count (fault_bound s.memory)) (still_waiting events) e)
  pub withdraws : (identity : ℕ)
      → (waiting_step s (Withdraw identity)).answer.number ≡ first_refusal (departure_needs (still_waiting events) identity)
  pub matches : (movements : List ℕ) (i identity place : ℕ)
      → (waiting_step s (Match movements i identity place)).answer.number
      ≡ first_refusal
      (is_movement_list movements else wrong_form
      ∷ (naming_needs s.memory (still_waiting events) movements i identity place
      ++ fit_needs s.memory (still_waiting events) (used_by events place) movements i identity place))
  pub asks : (taker : ℕ)
      → (waiting_step s (Ask taker)).answer.number ≡ first_refusal (is_replica s.memory taker else out_of_range ∷ [])

unfoldable pub CallsAnswerByHistory : Type 0
CallsAnswerByHistory =
    (x : SliceRun) (m : Memory) → FormLeft (lent m (slice_end x)) → AnswersBy (slice_told x) (lent m (slice_end x))

-- ---- Where the three slices too are changed by the ledger's own calls alone, the Ask of every replica is accepted, every entry that waits
-- by the history can be withdrawn, and all calls answer by it.

pub record Answers (x : LedgerRun) : Type 0 where
  pub asks : (taker : ℕ) → taker < replicas_by (ledger_told x) 0
      → (waiting_step (ledger_end x) (Ask taker)).answer ≡ passed (ledger_told x) taker
  pub withdraws : (e : Entry) → Memᴰ e (still_waiting (ledger_told x))
      → Accepted (waiting_step (ledger_end x) (Withdraw e.identity))
  pub calls : AnswersBy (ledger_told x) (ledger_end x)

unfoldable pub LedgerAnswersPass : Type 0
LedgerAnswersPass = (x : LedgerRun) → Answers x

-- ---- "512 may wait": never more than 512 wait, by the history.

unfoldable pub NeverMoreWait : Type 0
NeverMoreWait = (x : SliceRun) → length (still_waiting (slice_told x)) ≤ max_waiting

-- ---- "that took out no entry before": a place takes out at most one entry between two openings.

unfoldable pub PlaceTakesOutOne : Type 0
PlaceTakesOutOne =
    (x : SliceRun) (before between after : List Event) (first second place : ℕ)
    → slice_told x ≡ before ++ (matched first place ∷ (between ++ (matched second place ∷ after))) → opens_among between ≡ true

-- ---- A call returns only the numbers listed for it; 0 is "accepted".

unfoldable pub may_answer : WaitingCall → List ℕ
may_answer (Open f steps) = 0 ∷ out_of_range ∷ wrong_steps ∷ wrong_form ∷ []
may_answer (Enter e) = 0 ∷ wrong_form ∷ wrong_movement ∷ wrong_identity ∷ waiting_full ∷ []
may_answer (Withdraw identity) = 0 ∷ wrong_form ∷ wrong_identity ∷ []
may_answer (Match movements i identity place) =
    0 ∷ wrong_form ∷ out_of_range ∷ unknown_number ∷ wrong_movement ∷ wrong_identity ∷ wrong_certificate ∷ []
may_answer (Ask taker) = 0 ∷ wrong_form ∷ out_of_range ∷ []

unfoldable pub WaitingNumbersListed : Type 0
WaitingNumbersListed = (s : Lent) (call : WaitingCall) → Memᴰ (waiting_step s call).answer.number (may_answer call)

-- ---- The pallets waiting for a taker are at most 5,120,000 (512 times 10,000).

abbrev pub max_pallets_waiting : ℕ
max_pallets_waiting = max_waiting * max_pallets

unfoldable pub PalletsWaitingBounded : Type 0
PalletsWaitingBounded = (x : SliceRun) (taker : ℕ) → pallets_by (slice_told x) taker ≤ max_pallets_waiting
