-- The table of cases, whole.
use Rattle.std.specs.Prelude.{[], ◌∷◌}
use Rattle.entries.specs.cases.Rows.{EveryCaseHolds}
use Rattle.entries.specs.cases.Openings.{opening_cases}
use Rattle.entries.specs.cases.Forms.{length_cases, entry_form_cases, which_entries_cases, every_call_cases}
use Rattle.entries.specs.cases.Entering.{entering_cases}
use Rattle.entries.specs.cases.Withdrawing.{withdrawing_cases}
use Rattle.entries.specs.cases.Matching.{matching_cases}
use Rattle.entries.specs.cases.Asking.{asking_cases}
use Rattle.entries.specs.cases.Words.{word_cases}
use Rattle.entries.specs.cases.Crowds.{crowd_cases, many_cases, past_the_most}
use Rattle.entries.specs.cases.Day.{day}

-- Every row's call gives the answer beside it and, where words stand there, leaves just these.
unfoldable pub WaitingCasesHold : Type 0
WaitingCasesHold =
    EveryCaseHolds opening_cases
    × EveryCaseHolds length_cases
    × EveryCaseHolds entry_form_cases
    × EveryCaseHolds which_entries_cases
    × EveryCaseHolds every_call_cases
    × EveryCaseHolds entering_cases
    × EveryCaseHolds withdrawing_cases
    × EveryCaseHolds matching_cases
    × EveryCaseHolds asking_cases
    × EveryCaseHolds word_cases
    × EveryCaseHolds crowd_cases
    × EveryCaseHolds many_cases
    × EveryCaseHolds past_the_most
    × EveryCaseHolds (day ∷ [])
