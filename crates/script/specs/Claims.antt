-- What is claimed of script lines: each field is a statement of this crate; proofs/Claims.antt holds the proof of each.
use Rattle.script.specs.Theorems.{RefusedLeavesSession, BeforeOpening, AnswersPrintable}
use Rattle.script.specs.Agreement.{ScriptsAgree, ScriptIsExecution}
use Rattle.script.specs.WayOn.{LinesMakeCalls, LinesGoOn}

pub record Claims : Type 0 where
  -- ---- Demand 1: any contents, no fault. (That every call ends without a fault is what the check proves of each function.)
  -- a refused line leaves the words and the f in use
  pub refused_leaves_session : RefusedLeavesSession
  -- ---- Demand 2: accepted exactly when the rules accept. (The contracts are equations with the rules; these follow from the rules.)
  -- while no f is in use, a readable line that is no opening gives 1
  pub before_opening : BeforeOpening
  -- every answer fits in its columns
  pub answers_printable : AnswersPrintable
  -- ---- Demand 3: decisions never conflict, and no panel falls.
  -- demand 3 of lines and their answers
  pub scripts_agree : ScriptsAgree
  -- lines after an opening tell and leave what such a list of calls does
  pub script_is_execution : ScriptIsExecution
  -- ---- A way on (document 02, #109).
  -- after an opening, accepted calls written as lines are answered as the calls are, and leave the same
  pub lines_make_calls : LinesMakeCalls
  -- after an opening, the calls that end in a decision, written as lines, are accepted, and their answers are known before the first
  pub lines_go_on : LinesGoOn
