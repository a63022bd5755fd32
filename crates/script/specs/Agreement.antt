-- Demand 3 of a script (document 01, "Whole lists of calls"), stated over its lines and their answers.
use Rattle.std.specs.Prelude.{ℕ, ◌≡◌, cond, eqb, get_or}
use mathlib.Core.List.{List, [], ◌∷◌, Memᴰ}
use Rattle.protocol.specs.Memory.{Memory}
use Rattle.protocol.specs.Outcome.{Answer}
use Rattle.protocol.specs.History.{Event, reopened, added, decided, other}
use Rattle.protocol.specs.Agreement.{Agreed, Execution, events_of, end_of}
use Rattle.ledger.specs.Coding.{open_code}
use Rattle.script.specs.Lines.{field_count, numbers}
use Rattle.script.specs.Session.{Session, lent, code_in, replica_in, number_in, list_in, answer_line}

-- ---- What lines and their answers tell. Events are told from lines and answers, never from a word of the memory.

-- The numbers of a line.
abbrev pub numbers_in : List ℕ → List ℕ
numbers_in line = numbers line (field_count line)

-- What a line tells that is answered with 0, by its code: that there is a new ledger; a block, by the number returned and the parent
-- given; a decision, by the replica, and the block and the view returned. Any other code tells nothing.
unfoldable pub event_table : ℕ → ℕ → Answer → List Event
event_table replica number a =
    reopened  -- 0 open
    ∷ added a.first number  -- 1 block
    ∷ other  -- 2
    ∷ other  -- 3
    ∷ other  -- 4
    ∷ other  -- 5
    ∷ other  -- 6
    ∷ decided replica a.first a.second  -- 7 decide
    ∷ []

-- The same by the line's numbers.
abbrev pub accepted_line : List ℕ → Answer → Event
accepted_line given a = get_or (event_table (replica_in given) (number_in given) a) (code_in given) other

-- A line that is answered with another number tells nothing, be it refused or unreadable.
unfoldable pub line_event : List ℕ → Answer → Event
line_event line a = cond (eqb a.number 0) (accepted_line (numbers_in line) a) other

-- The events of lines, the newest first, after those of earlier lines; "Each call gets the three slices as the last left them".
unfoldable pub line_history : List Event → Session → List (List ℕ) → List Event
line_history past s [] = past
line_history past s (line ∷ lines) =
    let o = answer_line s line in
    line_history (line_event line o.answer ∷ past) o.session lines

-- The session that lines leave.
unfoldable pub session_after : Session → List (List ℕ) → Session
session_after s [] = s
session_after s (line ∷ lines) = session_after (answer_line s line).session lines

-- ---- From one accepted opening to the next.

-- What the lines after an opening tell.
abbrev pub told_after : Session → List ℕ → List (List ℕ) → List Event
told_after s opening lines = line_history [] (answer_line s opening).session lines

-- "The list starts from the memory that an accepted Open leaves, for each f, all fitting lengths and any earlier contents. Each call in
-- it is one of the other eleven or a refused Open": an opening answered with 0, on any session, and lines after it, unreadable ones too,
-- of which none is an opening answered with 0. (A line without numbers has code 0 here too, but is answered with 10.)
pub record OpenedOnce (s : Session) (opening : List ℕ) (lines : List (List ℕ)) : Type 0 where
  pub opens : code_in (numbers_in opening) ≡ open_code
  pub accepted : (answer_line s opening).answer.number ≡ 0
  pub once : Memᴰ reopened (told_after s opening lines) → ⊥

-- Of the blocks that any two Decides named which were answered with 0, one is in the other's line, by the parents that the Blocks
-- answered with 0 were given; and no panel's height falls.
unfoldable pub ScriptsAgree : Type 0
ScriptsAgree = (s : Session) (opening : List ℕ) (lines : List (List ℕ)) → OpenedOnce s opening lines → Agreed (told_after s opening lines)

-- ---- Why: such lines are a list of calls, of which all that is proved of lists of calls holds.

-- The part of the words that is lent for the f in use.
abbrev pub ledger_of : Session → Memory
ledger_of s = lent s.fault_bound s.memory

-- An execution with the same opening, on the memory that is lent for its f, that tells what the lines tell and leaves what they leave. (The
-- proof takes for each line its own call, or an opening of f = 0, which is refused, where the line makes none or is a refused opening.)
pub record ExecutionOf (s : Session) (opening : List ℕ) (lines : List (List ℕ)) : Type 0 where
  pub execution : Execution
  pub f : execution.f ≡ replica_in (numbers_in opening)
  pub list : execution.list ≡ list_in (numbers_in opening)
  pub start : execution.start ≡ lent execution.f s.memory
  pub events : events_of execution ≡ told_after s opening lines
  pub memory : end_of execution ≡ ledger_of (session_after (answer_line s opening).session lines)

unfoldable pub ScriptIsExecution : Type 0
ScriptIsExecution = (s : Session) (opening : List ℕ) (lines : List (List ℕ)) → OpenedOnce s opening lines → ExecutionOf s opening lines
