-- The proof of each claim.
use Rattle.protocol.specs.Claims.{Claims}
use Rattle.protocol.proofs.calls.Rules.{refused-changes-nothing, lowest-wins, opening-order}
use Rattle.protocol.proofs.calls.LeavesForm.{accepted-leaves-form}
use Rattle.protocol.proofs.calls.Frame.{only-named-change, lengths-stay}
use Rattle.protocol.proofs.calls.Unread.{past-counts-unread}
use Rattle.protocol.proofs.calls.Values.{values-fit}
use Rattle.protocol.proofs.cases.Table.{cases-hold}
use Rattle.protocol.proofs.agreement.Agreement.{agreement, would-agree, words-match-history, only-appended}
use Rattle.protocol.proofs.requests.Heights.{heights-kept, heights-match-history, heights-stay}
use Rattle.protocol.proofs.requests.Steps.{opening-reads-nothing, without-steps-is-default, first-limit-is-first-step}
use Rattle.protocol.proofs.requests.Steps.{counters-move-by-steps}
use Rattle.protocol.proofs.calls.Leaders.{only-leaders-propose, view-zero-has-no-leader}
use Rattle.protocol.proofs.requests.Repeats.{found-is-first-equal, second-value-tells-repeat, repeat-changes-nothing}
use Rattle.protocol.proofs.requests.Repeats.{proposals-never-repeat, commits-never-repeat}
use Rattle.protocol.proofs.requests.MadeAgain.{repeat-at-once}
use Rattle.protocol.proofs.requests.Cuts.{issued-with-its-boot, seven-words-decide, only-accs-and-replies-again, cuts-tell-apart}
use Rattle.protocol.proofs.requests.Untested.{boots-untested}
use Rattle.protocol.proofs.progress.Turns.{views-suffice}
use Rattle.protocol.proofs.progress.WayOn.{way-on, way-on-numbered}
use Rattle.protocol.proofs.cases.WayOn.{way-on-cases-hold}

pub claimed : Claims
claimed =
    record {
      refused_changes_nothing = refused-changes-nothing;
      accepted_leaves_form = accepted-leaves-form;
      only_named_change = only-named-change;
      lengths_stay = lengths-stay;
      past_counts_unread = past-counts-unread;
      lowest_wins = lowest-wins;
      opening_order = opening-order;
      values_fit = values-fit;
      cases_hold = cases-hold;
      agreement = agreement;
      would_agree = would-agree;
      words_match_history = words-match-history;
      only_appended = only-appended;
      heights_kept = heights-kept;
      heights_match_history = heights-match-history;
      heights_stay = heights-stay;
      opening_reads_nothing = opening-reads-nothing;
      without_steps_is_default = without-steps-is-default;
      first_limit_is_first_step = first-limit-is-first-step;
      counters_move_by_steps = counters-move-by-steps;
      only_leaders_propose = only-leaders-propose;
      view_zero_has_no_leader = view-zero-has-no-leader;
      found_is_first_equal = found-is-first-equal;
      second_value_tells_repeat = second-value-tells-repeat;
      repeat_at_once = repeat-at-once;
      repeat_changes_nothing = repeat-changes-nothing;
      proposals_never_repeat = proposals-never-repeat;
      commits_never_repeat = commits-never-repeat;
      issued_with_its_boot = issued-with-its-boot;
      seven_words_decide = seven-words-decide;
      boots_untested = boots-untested;
      only_accs_and_replies_again = only-accs-and-replies-again;
      cuts_tell_apart = cuts-tell-apart;
      way_on = way-on;
      views_suffice = views-suffice;
      way_on_numbered = way-on-numbered;
      way_on_cases_hold = way-on-cases-hold;
    }
