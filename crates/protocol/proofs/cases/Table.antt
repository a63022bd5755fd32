-- The table of cases, by computation: a line for each case, so that the check names the one that is wrong.
use mathlib.Core.Path.{refl}
use mathlib.Core.List.{◌++◌}
use Rattle.protocol.specs.cases.Edges.{edge_cases, worked_script, recovery_after_it, replies_of_an_earlier_boot, no_faults, faults_above_the_most}
use Rattle.protocol.specs.cases.Edges.{faults_before_lengths, one_fault, thirty_faults, fresh_view63, fresh_view64, one_commit_twice}
use Rattle.protocol.specs.cases.Edges.{commits_justify, block_zero_proposed, second_proposal_in_a_view, full_log, counter_ends}
use Rattle.protocol.specs.cases.Turns.{turn_cases, turn_goes_round, turn_of_five, view_zero_at_store, view_zero_at_prepare, commits_of_view_zero}
use Rattle.protocol.specs.cases.Turns.{last_views}
use Rattle.protocol.specs.cases.Repeats.{repeat_cases, views_repeated, accs_and_blocks_repeated, requests_and_replies_repeated, nothing_stored}
use Rattle.protocol.specs.cases.Repeats.{proposal_repeated, proposal_on_commits_repeated, commit_repeated, found_in_a_full_log_raises}
use Rattle.protocol.specs.cases.Repeats.{found_reply_raises, equal_in_all_words}
use Rattle.protocol.specs.cases.Steps.{step_cases, own_steps, steps_of_one, largest_steps, reboots_past_the_last, own_steps_to_the_end}
use Rattle.protocol.specs.cases.Steps.{reply_near_the_limit, recover_near_the_limit, script_with_own_steps, broken_steps}
use Rattle.protocol.specs.cases.Steps.{steps_between_faults_and_lengths, refused_opening_leaves_steps, opened_again_without_steps}
use Rattle.protocol.specs.cases.KeptSteps.{kept_step_cases, steps_after_the_header, no_step_is_zero, equal_steps_do_not_fall, broken_tables}
use Rattle.protocol.specs.cases.Heights.{height_cases, blocks_on_two_lines, blocks_on_new_ones, parent_not_added, next_slot_stands}
use Rattle.protocol.specs.cases.Heights.{heights_are_no_parents, opened_over_old_blocks, other_slots_stand, other_parent_of_the_same_height}
use Rattle.protocol.specs.cases.Heights.{every_call_tests_heights, one_slot, most_slots, broken_blocks}
use Rattle.protocol.specs.cases.Cuts.{cut_cases, acc_after_a_cut, reply_after_a_cut, signers_differ_by_replica, replies_of_any_boot}
use Rattle.protocol.specs.cases.Cuts.{new_views_of_any_boot, signed_at_its_boot, greatest_boot, most_certificates, boots_above_the_greatest}
use Rattle.protocol.specs.cases.Cuts.{broken_logs}
use Rattle.protocol.specs.cases.Words.{word_cases, open_leaves, block_leaves, prepare_on_acc_leaves, prepare_on_commits_leaves, store_leaves}
use Rattle.protocol.specs.cases.Words.{view_leaves, accumulate_leaves, decide_leaves, decide_of_shown_view_leaves, reboot_leaves}
use Rattle.protocol.specs.cases.Words.{retiring_reboot_leaves, reserve_leaves, request_leaves, reply_leaves, recover_leaves}
use Rattle.protocol.specs.cases.Rows.{EveryCaseHolds}
use Rattle.protocol.specs.cases.Table.{CasesHold}
use Rattle.protocol.proofs.cases.Rows.{wrong, right, all_right, ◌and◌}

edge-cases : EveryCaseHolds edge_cases
unfolding wrong EveryCaseHolds edge_cases
edge-cases =
    right worked_script refl
    and right recovery_after_it refl
    and right replies_of_an_earlier_boot refl
    and right no_faults refl
    and right faults_above_the_most refl
    and right faults_before_lengths refl
    and right one_fault refl
    and right thirty_faults refl
    and right fresh_view63 refl
    and right fresh_view64 refl
    and right one_commit_twice refl
    and right commits_justify refl
    and right block_zero_proposed refl
    and right second_proposal_in_a_view refl
    and right full_log refl
    and right counter_ends refl
    and tt

turn-cases : EveryCaseHolds turn_cases
unfolding wrong EveryCaseHolds turn_cases
turn-cases =
    right turn_goes_round refl
    and right turn_of_five refl
    and right view_zero_at_store refl
    and right view_zero_at_prepare refl
    and right commits_of_view_zero refl
    and right last_views refl
    and tt

repeat-cases : EveryCaseHolds repeat_cases
unfolding wrong EveryCaseHolds repeat_cases
repeat-cases =
    right views_repeated refl
    and right accs_and_blocks_repeated refl
    and right requests_and_replies_repeated refl
    and right nothing_stored refl
    and right proposal_repeated refl
    and right proposal_on_commits_repeated refl
    and right commit_repeated refl
    and right found_in_a_full_log_raises refl
    and right found_reply_raises refl
    and right equal_in_all_words refl
    and tt

step-cases : EveryCaseHolds step_cases
unfolding wrong EveryCaseHolds step_cases
step-cases =
    right own_steps refl
    and right steps_of_one refl
    and right largest_steps refl
    and right reboots_past_the_last refl
    and right own_steps_to_the_end refl
    and right reply_near_the_limit refl
    and right recover_near_the_limit refl
    and right script_with_own_steps refl
    and right broken_steps refl
    and right steps_between_faults_and_lengths refl
    and right refused_opening_leaves_steps refl
    and right opened_again_without_steps refl
    and tt

kept-step-cases : EveryCaseHolds kept_step_cases
unfolding wrong EveryCaseHolds kept_step_cases
kept-step-cases =
    right steps_after_the_header refl
    and right no_step_is_zero refl
    and right equal_steps_do_not_fall refl
    and all_right broken_tables refl

height-cases : EveryCaseHolds height_cases
unfolding wrong EveryCaseHolds height_cases
height-cases =
    right blocks_on_two_lines refl
    and right blocks_on_new_ones refl
    and right parent_not_added refl
    and right next_slot_stands refl
    and right heights_are_no_parents refl
    and right opened_over_old_blocks refl
    and right other_slots_stand refl
    and right other_parent_of_the_same_height refl
    and right every_call_tests_heights refl
    and right one_slot refl
    and right most_slots refl
    and all_right broken_blocks refl

cut-cases : EveryCaseHolds cut_cases
unfolding wrong EveryCaseHolds cut_cases
cut-cases =
    right acc_after_a_cut refl
    and right reply_after_a_cut refl
    and right signers_differ_by_replica refl
    and right replies_of_any_boot refl
    and right new_views_of_any_boot refl
    and right signed_at_its_boot refl
    and right greatest_boot refl
    and right most_certificates refl
    and all_right (boots_above_the_greatest ++ broken_logs) refl

word-cases : EveryCaseHolds word_cases
unfolding wrong EveryCaseHolds word_cases
word-cases =
    right open_leaves refl
    and right block_leaves refl
    and right prepare_on_acc_leaves refl
    and right prepare_on_commits_leaves refl
    and right store_leaves refl
    and right view_leaves refl
    and right accumulate_leaves refl
    and right decide_leaves refl
    and right decide_of_shown_view_leaves refl
    and right reboot_leaves refl
    and right retiring_reboot_leaves refl
    and right reserve_leaves refl
    and right request_leaves refl
    and right reply_leaves refl
    and right recover_leaves refl
    and tt

pub cases-hold : CasesHold
unfolding CasesHold
cases-hold = (edge-cases, turn-cases, repeat-cases, step-cases, kept-step-cases, height-cases, cut-cases, word-cases)
