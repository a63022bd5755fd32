-- What is claimed of entries that wait: each field is a statement of this crate; proofs/Claims.antt holds the proof of each.
use Rattle.entries.specs.Theorems.{RefusedWaitingChangesNothing, AcceptedWaitingLeavesForm, WaitingLeavesLedger}
use Rattle.entries.specs.Theorems.{OnlyNamedWaitingChange, WaitingLowestWins, OpenWaitingOrder, OpenReadsNoEntry, AskIsPass}
use Rattle.entries.specs.Theorems.{CallsAnswerByHistory, LedgerAnswersPass, NeverMoreWait, PlaceTakesOutOne, WaitingNumbersListed}
use Rattle.entries.specs.Theorems.{PalletsWaitingBounded}
use Rattle.entries.specs.cases.Table.{WaitingCasesHold}
use Rattle.entries.specs.cases.Day.{DayTold, EventsHold}

pub record Claims : Type 0 where
  -- a refused call returns the number of a need that fails and two zeros, and changes no word
  pub refused_waiting_changes_nothing : RefusedWaitingChangesNothing
  -- an accepted one leaves the four slices well-formed
  pub accepted_waiting_leaves_form : AcceptedWaitingLeavesForm
  -- opening does to the three slices what the ledger's opening does, and the others change no word of them
  pub waiting_leaves_ledger : WaitingLeavesLedger
  -- a call changes at most the words of the further slice named for it, and never its length
  pub only_named_waiting_change : OnlyNamedWaitingChange
  -- of several refusals the lowest is returned; last, a match's 5
  pub waiting_lowest_wins : WaitingLowestWins
  -- opening answers what the ledger's opening answers, or 1 where the further slice has another length
  pub open_waiting_order : OpenWaitingOrder
  -- opening reads no word of the further slice
  pub open_reads_no_entry : OpenReadsNoEntry
  -- an accepted Ask answers what a full pass over the history gives, whatever the three slices are
  pub ask_is_pass : AskIsPass
  -- where the four slices have their form, a call's number is told by the entries that wait, and the places used, by the history
  pub calls_answer_by_history : CallsAnswerByHistory
  -- in a ledger that its own calls alone change, every replica's Ask is accepted, every entry that waits can be withdrawn, and all calls
  -- answer by the history
  pub ledger_answers_pass : LedgerAnswersPass
  -- never more than 512 wait
  pub never_more_wait : NeverMoreWait
  -- a place takes out at most one entry between two openings
  pub place_takes_out_one : PlaceTakesOutOne
  -- a call returns only the numbers listed for it
  pub waiting_numbers_listed : WaitingNumbersListed
  -- the pallets waiting for a taker are at most 5,120,000
  pub pallets_waiting_bounded : PalletsWaitingBounded
  -- worked cases: openings, the form, each call's limits and order, the words left, and a day
  pub waiting_cases_hold : WaitingCasesHold
  -- the events that the calls and answers of that day tell
  pub day_told : DayTold
  -- what a pass over these gives
  pub events_hold : EventsHold
