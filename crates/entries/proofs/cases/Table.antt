-- The table of cases, by computation: a line for each case, so that the check names the one that is wrong.
use mathlib.Core.Path.{refl}
use mathlib.Core.List.{[], ◌∷◌}
use Rattle.entries.specs.cases.Openings.{opening_cases, one_word_less, one_word_more, its_length, refused_opening_leaves, opening_empties, opened_over_anything}
use Rattle.entries.specs.cases.Forms.{length_cases}
use Rattle.entries.specs.cases.Forms.{entry_form_cases}
use Rattle.entries.specs.cases.Forms.{which_entries_cases}
use Rattle.entries.specs.cases.Forms.{every_call_cases, broken_slice, broken_three}
use Rattle.entries.specs.cases.Entering.{entering_cases, limits, identities_waiting, entered_past_the_count, sums}
use Rattle.entries.specs.cases.Withdrawing.{withdrawing_cases, not_waiting, not_past_the_count, first_leaves, middle_leaves, last_leaves, comes_again, earlier_withdrawn}
use Rattle.entries.specs.cases.Matching.{matching_cases, lists, every_movement, identities_matched, order, other_movement, lines, places, place_words, earlier_matched, passing_cases}
use Rattle.entries.specs.cases.Asking.{asking_cases, takers, last_of_many}
use Rattle.entries.specs.cases.Words.{word_cases, open_leaves, enter_leaves, withdraw_first_leaves, withdraw_middle_leaves, withdraw_last_leaves, match_leaves, match_first_place_leaves, ask_leaves}
use Rattle.entries.specs.cases.Crowds.{past_the_most, one_too_many, one_movement_too_many}
use Rattle.entries.specs.cases.Day.{day}
use Rattle.entries.specs.cases.Rows.{EveryCaseHolds}
use Rattle.entries.specs.cases.Table.{WaitingCasesHold}
use Rattle.protocol.proofs.cases.Rows.{◌and◌}
use Rattle.entries.proofs.cases.Rows.{wrong, right, all_right}
use Rattle.entries.proofs.cases.Crowds.{crowd-cases, many-cases}

opening-cases : EveryCaseHolds opening_cases
unfolding wrong EveryCaseHolds opening_cases
opening-cases =
    right one_word_less refl
    and right one_word_more refl
    and right its_length refl
    and right refused_opening_leaves refl
    and right opening_empties refl
    and right opened_over_anything refl
    and tt

length-cases : EveryCaseHolds length_cases
unfolding wrong length_cases
length-cases = all_right length_cases refl

entry-form-cases : EveryCaseHolds entry_form_cases
unfolding wrong entry_form_cases
entry-form-cases = all_right entry_form_cases refl

which-entries-cases : EveryCaseHolds which_entries_cases
unfolding wrong which_entries_cases
which-entries-cases = all_right which_entries_cases refl

every-call-cases : EveryCaseHolds every_call_cases
unfolding wrong EveryCaseHolds every_call_cases
every-call-cases =
    right broken_slice refl
    and right broken_three refl
    and tt

entering-cases : EveryCaseHolds entering_cases
unfolding wrong EveryCaseHolds entering_cases
entering-cases =
    right limits refl
    and right identities_waiting refl
    and right entered_past_the_count refl
    and right sums refl
    and tt

withdrawing-cases : EveryCaseHolds withdrawing_cases
unfolding wrong EveryCaseHolds withdrawing_cases
withdrawing-cases =
    right not_waiting refl
    and right not_past_the_count refl
    and right first_leaves refl
    and right middle_leaves refl
    and right last_leaves refl
    and right comes_again refl
    and right earlier_withdrawn refl
    and tt

matching-cases : EveryCaseHolds matching_cases
unfolding wrong EveryCaseHolds matching_cases passing_cases
matching-cases =
    right lists refl
    and right every_movement refl
    and right identities_matched refl
    and right order refl
    and right other_movement refl
    and right lines refl
    and right places refl
    and right place_words refl
    and right earlier_matched refl
    and all_right passing_cases refl

asking-cases : EveryCaseHolds asking_cases
unfolding wrong EveryCaseHolds asking_cases
asking-cases =
    right takers refl
    and right last_of_many refl
    and tt

word-cases : EveryCaseHolds word_cases
unfolding wrong EveryCaseHolds word_cases
word-cases =
    right open_leaves refl
    and right enter_leaves refl
    and right withdraw_first_leaves refl
    and right withdraw_middle_leaves refl
    and right withdraw_last_leaves refl
    and right match_leaves refl
    and right match_first_place_leaves refl
    and right ask_leaves refl
    and tt

past-the-most : EveryCaseHolds past_the_most
unfolding wrong EveryCaseHolds past_the_most
past-the-most =
    right one_too_many refl
    and right one_movement_too_many refl
    and tt

worked_day : EveryCaseHolds (day ∷ [])
unfolding wrong EveryCaseHolds
worked_day = right day refl and tt

pub waiting-cases-hold : WaitingCasesHold
unfolding WaitingCasesHold
waiting-cases-hold =
    (opening-cases, length-cases, entry-form-cases, which-entries-cases, every-call-cases, entering-cases, withdrawing-cases, matching-cases, asking-cases, word-cases, crowd-cases, many-cases, past-the-most, worked_day)
