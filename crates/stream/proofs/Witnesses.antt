-- Statements with premises, used at the worked script: the premises hold there by computation.
use mathlib.Core.Path.{◌≡◌, sym}
use mathlib.Core.List.{◌++◌}
use Rattle.protocol.specs.Agreement.{PanelsRise, OneChain}
use Rattle.script.specs.Text.{text_of as lines_of_fields}
use Rattle.stream.specs.Agreement.{told_within, ProgramAgrees}
use Rattle.stream.specs.Output.{output}
use Rattle.stream.specs.WayOn.{ProgramGoesOn}
use Rattle.stream.specs.cases.Scripts.{text_of, worked_input, worked_output, WorkedScript, WorkedScriptOpens}
use Rattle.stream.proofs.cases.Scripts.{worked-script, worked-script-opens, block_decided}
use Rattle.stream.proofs.cases.WayOn.{chosen, way_input, way_output, all_but_last, whole_lines, eleven_lines, can-decide, lines_left}
use Rattle.stream.proofs.cases.WayOn.{calls_written, answers_written}

-- The ten lines after its opening decide block 1.
pub program_agrees_used : ProgramAgrees
    → let told = told_within (text_of worked_input) 0 10 in OneChain told 1 1 × PanelsRise told
unfolding ProgramAgrees WorkedScriptOpens
program_agrees_used statement =
    let agreed = statement (text_of worked_input) 0 10 worked-script-opens in
    (agreed.one_chain 0 1 1 0 1 1 block_decided block_decided, agreed.panels_rise)

-- Eight lines after it decide block 2 in view 3.
pub program_goes_on_used : ProgramGoesOn
    → output (text_of worked_input ++ lines_of_fields way_input) ≡ text_of worked_output ++ lines_of_fields way_output
unfolding ProgramGoesOn WorkedScript WorkedScriptOpens
program_goes_on_used statement =
    let at-worked = statement (text_of worked_input) all_but_last whole_lines in
    let on = at-worked 0 10 worked-script-opens (sym eleven_lines) chosen 3 can-decide lines_left in
    rw (calls_written, eleven_lines, answers_written, worked-script) at on
