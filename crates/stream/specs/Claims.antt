-- What is claimed of the program's bytes: each field is a statement of this crate; proofs/Claims.antt holds the proof of each.
use Rattle.stream.specs.Theorems.{ChunksDoNotMatter, TurnsGiveOutput}
use Rattle.stream.specs.cases.Scripts.{WorkedScript, StepsScript, WorkedScriptTells, WorkedScriptOpens}
use Rattle.stream.specs.Agreement.{ProgramAgrees}
use Rattle.stream.specs.WayOn.{ProgramGoesOn}

pub record Claims : Type 0 where
  -- ---- Demand 2: accepted exactly when the rules accept. (The contracts are equations with the rules; these follow from the rules.)
  -- the output is that of the bytes, in whatever chunks they come
  pub chunks_do_not_matter : ChunksDoNotMatter
  -- the texts of the program's reads, up to the end of the input, are the output
  pub turns_give_output : TurnsGiveOutput
  -- the worked script, byte for byte
  pub worked_script : WorkedScript
  -- a script of openings with steps, byte for byte
  pub steps_script : StepsScript
  -- ---- Demand 3: decisions never conflict, and no panel falls.
  -- demand 3 of the bytes read and written
  pub program_agrees : ProgramAgrees
  -- what the worked script tells
  pub worked_script_tells : WorkedScriptTells
  -- the premise of ProgramAgrees holds of it
  pub worked_script_opens : WorkedScriptOpens
  -- ---- A way on (document 02, #109).
  -- the calls that end in a decision, written as lines after those of an input, and what the program prints for them
  pub program_goes_on : ProgramGoesOn
