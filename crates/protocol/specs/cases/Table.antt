-- The table of cases, whole.
use Rattle.protocol.specs.cases.Rows.{EveryCaseHolds}
use Rattle.protocol.specs.cases.Edges.{edge_cases}
use Rattle.protocol.specs.cases.Turns.{turn_cases}
use Rattle.protocol.specs.cases.Repeats.{repeat_cases}
use Rattle.protocol.specs.cases.Steps.{step_cases}
use Rattle.protocol.specs.cases.KeptSteps.{kept_step_cases}
use Rattle.protocol.specs.cases.Heights.{height_cases}
use Rattle.protocol.specs.cases.Cuts.{cut_cases}
use Rattle.protocol.specs.cases.Words.{word_cases}

-- Every row's call gives the answer beside it and, where words stand there, leaves just these.
unfoldable pub CasesHold : Type 0
CasesHold =
    EveryCaseHolds edge_cases
    × EveryCaseHolds turn_cases
    × EveryCaseHolds repeat_cases
    × EveryCaseHolds step_cases
    × EveryCaseHolds kept_step_cases
    × EveryCaseHolds height_cases
    × EveryCaseHolds cut_cases
    × EveryCaseHolds word_cases
