-- The proof of each claim.
use Rattle.entries.specs.Claims.{Claims}
use Rattle.entries.proofs.Rules.{refused-waiting-changes-nothing, accepted-waiting-leaves-form, waiting-leaves-ledger}
use Rattle.entries.proofs.Rules.{waiting-lowest-wins, open-waiting-order, open-reads-no-entry, waiting-numbers-listed}
use Rattle.entries.proofs.Frames.{only-named-waiting-change}
use Rattle.entries.proofs.Histories.{ask-is-pass, calls-answer-by-history, never-more-wait, place-takes-out-one}
use Rattle.entries.proofs.Histories.{pallets-waiting-bounded}
use Rattle.entries.proofs.Ledgers.{ledger-answers-pass}
use Rattle.entries.proofs.cases.Table.{waiting-cases-hold}
use Rattle.entries.proofs.cases.Day.{day-told, events-hold}

pub claimed : Claims
claimed =
    record {
      refused_waiting_changes_nothing = refused-waiting-changes-nothing;
      accepted_waiting_leaves_form = accepted-waiting-leaves-form;
      waiting_leaves_ledger = waiting-leaves-ledger;
      only_named_waiting_change = only-named-waiting-change;
      waiting_lowest_wins = waiting-lowest-wins;
      open_waiting_order = open-waiting-order;
      open_reads_no_entry = open-reads-no-entry;
      ask_is_pass = ask-is-pass;
      calls_answer_by_history = calls-answer-by-history;
      ledger_answers_pass = ledger-answers-pass;
      never_more_wait = never-more-wait;
      place_takes_out_one = place-takes-out-one;
      waiting_numbers_listed = waiting-numbers-listed;
      pallets_waiting_bounded = pallets-waiting-bounded;
      waiting_cases_hold = waiting-cases-hold;
      day_told = day-told;
      events_hold = events-hold;
    }
