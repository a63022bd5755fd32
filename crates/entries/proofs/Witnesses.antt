-- Statements with premises, used at worked instances: the premises hold there by computation.
use Prim.Native.Nat.{ℕ}
use mathlib.Core.Path.{◌≡◌, refl, sym, ◌∙◌}
use mathlib.Core.Bool.{true, false, not}
use mathlib.Core.List.Memᴰ
use mathlib.Core.List.{List, [], ◌∷◌, ◌++◌, map, Memᴰ}
use mathlib.Core.Logic.{⊎_elim}
use native.Mathlib.Omega.{arith}
use lib.Dec.{eqb}
use lib.ListN.{get_or, replicate, length-replicate}
use borrow.Author.Tests.{eqb-false, not-true}
use Rattle.protocol.specs.declared.Call.{Call}
use Rattle.protocol.specs.declared.Call.TheVariants as Plain
use Rattle.protocol.specs.Memory.{Memory, memory, ◌becomes◌, table_length, decided_view_at, decided_block_at, block_at, update, append_block}
use Rattle.protocol.specs.Ancestry.{ancestor_within}
use Rattle.protocol.specs.Form.{all_hold, all_below, block_formed, replica_formed, certificate_formed, lengths_fit, counts_fit, steps_formed}
use Rattle.protocol.specs.Form.{well_formed}
use Rattle.protocol.specs.Counter.{steps_from, steps_allowed}
use Rattle.protocol.specs.Outcome.{◌else◌, wrong_certificate, first_refusal, answered, follow}
use Rattle.protocol.specs.Calls.{fresh_replicas, opening, block}
use Rattle.protocol.specs.Runs.{Invocation, rule_of, step, run}
use Rattle.protocol.specs.Quorum.{every}
use Rattle.protocol.specs.Theorems.{Accepted}
use Rattle.protocol.proofs.logic.Booleans.{and-true}
use Rattle.movements.specs.Movements.{movement_allowed, is_movement_list}
use Rattle.entries.specs.declared.Entry.{Entry}
use Rattle.entries.specs.Entries.{waiting_words, entries_from, entry_allowed, waiting_formed, is_waiting, entry_of, without, pallets_for}
use Rattle.entries.specs.Entries.{earliest_for, holding, refreshed}
use Rattle.entries.specs.Waiting.{Lent, lent, WaitingOutcome, WaitingCall, Open, Enter, Withdraw, Match, Ask, open_rule, enter_rule}
use Rattle.entries.specs.Waiting.{withdraw_rule, match_rule, ask_rule, match_needs, match_fit, waiting_rule, waiting_step}
use Rattle.entries.specs.Arrivals.{Event, opened, entered, matched, events_of, leaves, still_waiting, pallets_by, earliest_by}
use Rattle.entries.specs.Arrivals.{replicas_by, opens_among, used_by, slice_after, history, SliceRun, slice_end, slice_told}
use Rattle.entries.specs.Arrivals.{plain, on_entries, ledger_step, ledger_after, ledger_history, LedgerRun, ledger_end, ledger_told}
use Rattle.entries.specs.Theorems.{RefusedWaitingChangesNothing, FormLeft, AcceptedWaitingLeavesForm, WaitingLeavesLedger}
use Rattle.entries.specs.Theorems.{named_waiting, OnlyNamedWaitingChange, WaitingLowestWins}
use Rattle.entries.specs.Theorems.{OpenWaitingOrder, OpenReadsNoEntry, AskIsPass, CallsAnswerByHistory, LedgerAnswersPass}
use Rattle.entries.specs.Theorems.{PlaceTakesOutOne}
use Rattle.entries.proofs.Slices.{cleared, cleared_length}

-- Everything that the calls are made of opens with this.
unfoldable computed : Lent → WaitingCall → WaitingOutcome
unfolding update append_block ancestor_within all_hold all_below block_formed replica_formed certificate_formed lengths_fit counts_fit steps_formed
    well_formed steps_from steps_allowed first_refusal answered follow fresh_replicas opening block rule_of step run movement_allowed
    is_movement_list entries_from entry_allowed waiting_formed is_waiting entry_of without pallets_for earliest_for holding refreshed open_rule
    enter_rule withdraw_rule match_rule ask_rule waiting_rule waiting_step events_of leaves still_waiting pallets_by earliest_by replicas_by
    opens_among used_by slice_after history ledger_step ledger_after ledger_history
computed s call = waiting_step s call

abbrev unlisted : Call → Invocation
unlisted call = record { call = call; list = [] }

-- Zeros, with slots for two blocks and f = 1, so three replicas.
abbrev unopened : Memory
unopened = memory (replicate (table_length 1) 0) [] (replicate (block_at 2) 0)

-- Opened, with block 1, which replica 0 shows.
abbrev shown : Memory
shown =
    update (run unopened (unlisted (Plain.Open 1) ∷ unlisted (Plain.Block 0) ∷ [])) 0
    (decided_view_at becomes 1 ∷ decided_block_at becomes 1 ∷ [])

abbrev start : Lent
start = lent unopened cleared

pub opens : Accepted (waiting_step start (Open 1 []))
unfolding computed
opens = refl

-- Entries 7 and 8: 5 pallets from replica 0 to replica 1, and 4 from replica 2 to it. And the movement in block 1 that is entry 7's.
abbrev seven : Entry
seven = record { identity = 7; giver = 0; taker = 1; pallets = 5 }

abbrev eight : Entry
eight = record { identity = 8; giver = 2; taker = 1; pallets = 4 }

abbrev moved : List ℕ
moved = 1 ∷ 0 ∷ 1 ∷ 5 ∷ []

-- Calls on that memory, after the opening of the other.
abbrev run_of : List WaitingCall → SliceRun
run_of calls =
    record { start = start; f = 1; steps = []; calls = map (λ call. record { memory = shown; call = call }) calls; accepted = opens }

-- Entry 7 leaves and comes again: it stands last.
abbrev back : SliceRun
back = run_of (Enter seven ∷ Enter eight ∷ Withdraw 7 ∷ Enter seven ∷ [])

ask_accepted : Accepted (waiting_step (lent shown (slice_end back)) (Ask 1))
unfolding computed
ask_accepted = refl

pub ask_is_pass_used : AskIsPass
    → (waiting_step (lent shown (slice_end back)) (Ask 1)).answer ≡ record { number = 0; first = 9; second = 8 }
unfolding AskIsPass computed
ask_is_pass_used statement = statement back shown 1 ask_accepted ∙ refl

-- Place 0 takes out entry 7; again after an opening, which lies between.
abbrev twice : SliceRun
twice = run_of (Enter seven ∷ Match moved 0 7 0 ∷ Open 1 [] ∷ Enter seven ∷ Match moved 0 7 0 ∷ [])

abbrev before : List Event
before = opened 3 ∷ entered seven ∷ []

twice_told : slice_told twice ≡ before ++ (matched 7 0 ∷ (before ++ (matched 7 0 ∷ [])))
unfolding computed
twice_told = refl

pub place_takes_out_one_used : PlaceTakesOutOne → opens_among before ≡ true
unfolding PlaceTakesOutOne
place_takes_out_one_used statement = statement twice before before [] 7 7 0 twice_told

-- Without it the second match is refused with 5, since all else holds.
abbrev again : SliceRun
again = run_of (Enter seven ∷ Match moved 0 7 0 ∷ Enter seven ∷ [])

abbrev used : Lent
used = lent shown (slice_end again)

all_else : first_refusal (match_needs used moved 0 7 0) ≡ 0
unfolding computed
all_else = refl

place_used : match_fit used moved 0 7 0 ≡ true else wrong_certificate ∷ true else wrong_certificate ∷ false else wrong_certificate ∷ []
unfolding computed
place_used = refl

pub waiting_lowest_wins_used : WaitingLowestWins → (waiting_step used (Match moved 0 7 0)).answer.number ≡ 5
unfolding WaitingLowestWins
waiting_lowest_wins_used statement =
    (statement used).fits moved 0 7 0 all_else 5 (rw place_used (Memᴰ.tail (Memᴰ.tail (Memᴰ.head refl))))

match_refused : Accepted (waiting_step used (Match moved 0 7 0)) → ⊥
unfolding computed
match_refused accepted = omega arith

pub refused_waiting_changes_nothing_used : RefusedWaitingChangesNothing → (waiting_step used (Match moved 0 7 0)).state ≡ used
unfolding RefusedWaitingChangesNothing
refused_waiting_changes_nothing_used statement = (statement used (Match moved 0 7 0) match_refused).state

used_formed : FormLeft used
unfolding computed
used_formed = record { memory = refl; waiting = refl }

-- By the history too; and entry 7 waits, but entry 8 does not.
pub calls_answer_by_history_used : CallsAnswerByHistory
    → ((waiting_step used (Match moved 0 7 0)).answer.number ≡ 5)
    × (((waiting_step used (Enter seven)).answer.number ≡ 13) × ((waiting_step used (Withdraw 8)).answer.number ≡ 13))
unfolding CallsAnswerByHistory computed
calls_answer_by_history_used statement =
    let all = statement again shown used_formed in
    (all.matches moved 0 7 0 ∙ refl, (all.enters seven ∙ refl, all.withdraws 8 ∙ refl))

-- Numbers that are not in a list.
absent : (k : ℕ) (ns : List ℕ) → every (λ n. not (eqb k n)) ns ≡ true → Memᴰ k ns → ⊥
unfolding every
absent k [] e w = Memᴰ.not-nil w
absent k (n ∷ ns) e w =
    let both = and-true (not (eqb k n)) _ e in
    ⊎_elim (λ q. eqb-false k n (not-true (eqb k n) both.0) q) (λ v. absent k ns both.1 v) (Memᴰ.cases_cons w)

-- The words of taker 2, the second of them word 6, are none of those named for a withdrawal of entry 8, whose taker is 1.
others_words : every (λ n. not (eqb 6 n)) (named_waiting (slice_end back) (Withdraw 8)) ≡ true
unfolding computed every named_waiting
others_words = refl

pub only_named_waiting_change_used : OnlyNamedWaitingChange
    → get_or (waiting_step (lent shown (slice_end back)) (Withdraw 8)).state.waiting 6 0 ≡ get_or (slice_end back) 6 0
unfolding OnlyNamedWaitingChange
only_named_waiting_change_used statement = (statement (lent shown (slice_end back)) (Withdraw 8)).words 6 (absent 6 _ others_words)

-- ---- opening

pub waiting_leaves_ledger_used : WaitingLeavesLedger
    → (waiting_step start (Open 1 [])).state.memory ≡ (step unopened (Plain.Open 1) []).state
unfolding WaitingLeavesLedger
waiting_leaves_ledger_used statement = (statement start).opens 1 [] opens

pub accepted_waiting_leaves_form_used : AcceptedWaitingLeavesForm → FormLeft (waiting_step start (Open 1 [])).state
unfolding AcceptedWaitingLeavesForm
accepted_waiting_leaves_form_used statement = statement start (Open 1 []) opens

plain_opens : Accepted (step unopened (Plain.Open 1) [])
unfolding computed
plain_opens = refl

plain_refused : Accepted (step unopened (Plain.Open 0) []) → ⊥
unfolding computed
plain_refused accepted = omega arith

-- With f = 0 it is refused as the ledger's opening is; with f = 1 it is accepted as that is, or refused where the slice has no word.
pub open_waiting_order_used : OpenWaitingOrder
    → ((waiting_step start (Open 0 [])).answer ≡ (step unopened (Plain.Open 0) []).answer)
    × (((waiting_step start (Open 1 [])).answer ≡ (step unopened (Plain.Open 1) []).answer)
    × ((waiting_step (lent unopened []) (Open 1 [])).answer.number ≡ 1))
unfolding OpenWaitingOrder
open_waiting_order_used statement =
    let short = (statement (lent unopened []) 1 []).unsized plain_opens (λ same. omega arith) in
    ((statement start 0 []).refused plain_refused, ((statement start 1 []).sized plain_opens cleared_length, short))

-- On another slice of that length it leaves the same.
abbrev nines : List ℕ
nines = replicate waiting_words 9

pub open_reads_no_entry_used : OpenReadsNoEntry
    → (waiting_step start (Open 1 [])).state ≡ (waiting_step (lent unopened nines) (Open 1 [])).state
unfolding OpenReadsNoEntry
open_reads_no_entry_used statement =
    (statement unopened cleared nines 1 [] (cleared_length ∙ sym (length-replicate {A = ℕ} waiting_words 9))).left opens

-- ---- a ledger

-- A block, entry 7, and an opening that is not lent the slice: the entry waits on.
abbrev ledger : LedgerRun
ledger =
    record {
      start = start;
      f = 1;
      steps = [];
      calls = plain (unlisted (Plain.Block 0)) ∷ on_entries (Enter seven) ∷ plain (unlisted (Plain.Open 1)) ∷ [];
      accepted = opens;
    }

ledger-told : ledger_told ledger ≡ opened 3 ∷ entered seven ∷ []
unfolding computed
ledger-told = refl

pub ledger_answers_pass_used : LedgerAnswersPass
    → ((waiting_step (ledger_end ledger) (Ask 1)).answer ≡ record { number = 0; first = 5; second = 7 })
    × Accepted (waiting_step (ledger_end ledger) (Withdraw 7))
unfolding LedgerAnswersPass replicas_by still_waiting leaves pallets_by earliest_by
ledger_answers_pass_used statement =
    let all = statement ledger in
    (all.asks 1 (rw ledger-told (omega arith)) ∙ rw ledger-told, all.withdraws seven (rw ledger-told (Memᴰ.head refl)))
