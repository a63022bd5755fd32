-- The way on by script lines (document 02, #109): calls written as lines, and the answers to them.
use Rattle.std.specs.Prelude.{ℕ, ◌≡◌, Bool, true, not, List, [], ◌∷◌, map}
use Rattle.protocol.specs.Form.{all_hold}
use Rattle.protocol.specs.Quorum.{every}
use Rattle.protocol.specs.Outcome.{Answer}
use Rattle.protocol.specs.Runs.{Invocation, run, answers}
use Rattle.protocol.specs.Theorems.{is_opening}
use Rattle.protocol.specs.WayOn.{can_decide, way_on, is_accepted, numbered_answers}
use Rattle.ledger.specs.Coding.{CallByCode, coded}
use Rattle.ledger.specs.ByCode.{told_by_code}
use Rattle.script.specs.Session.{Session, answer_line}
use Rattle.script.specs.Text.{line_of}
use Rattle.script.specs.Agreement.{session_after, OpenedOnce, ledger_of}

-- "call code, box, number, list": the numbers of a call's line.
abbrev pub numbers_of : CallByCode → List ℕ
numbers_of c = c.code ∷ c.replica ∷ c.number ∷ c.list

abbrev pub line_of_call : Invocation → List ℕ
line_of_call q = line_of (numbers_of (coded q))

-- The answers to lines, "Each call gets the three slices as the last left them".
unfoldable pub answers_to_lines : Session → List (List ℕ) → List Answer
answers_to_lines s [] = []
answers_to_lines s (line ∷ lines) = let o = answer_line s line in o.answer ∷ answers_to_lines o.session lines

-- The session that an opening and the lines after it leave.
abbrev pub session_of : Session → List ℕ → List (List ℕ) → Session
session_of s opening lines = session_after (answer_line s opening).session lines

-- ---- After an opening, every list of calls that are accepted, but of openings and of Prepares on commits, can be made by lines.

abbrev pub has_line : Invocation → Bool
has_line q = all_hold (told_by_code q ∷ not (is_opening q.call) ∷ [])

-- Calls written as lines are answered as the calls are, and leave what the calls leave.
pub record SameByLines (s : Session) (calls : List Invocation) : Type 0 where
  pub answered : answers_to_lines s (map line_of_call calls) ≡ answers (ledger_of s) calls
  pub left : ledger_of (session_after s (map line_of_call calls)) ≡ run (ledger_of s) calls

unfoldable pub LinesMakeCalls : Type 0
LinesMakeCalls =
    (s : Session) (opening : List ℕ) (lines : List (List ℕ)) → OpenedOnce s opening lines
    → let now = session_of s opening lines in
    (calls : List Invocation) → every has_line calls ≡ true → every is_accepted (answers (ledger_of now) calls) ≡ true
    → SameByLines now calls

-- ---- So the way on can be made by lines: "then 2f+6 named calls, none refused, end in a decision at view w of a new block", with the
-- numbers that the next certificates and the next block get.

unfoldable pub LinesGoOn : Type 0
LinesGoOn =
    (s : Session) (opening : List ℕ) (lines : List (List ℕ)) → OpenedOnce s opening lines
    → let now = session_of s opening lines in
    let m = ledger_of now in
    (replicas : List ℕ) (w : ℕ) → can_decide m replicas w ≡ true
    → answers_to_lines now (map line_of_call (way_on m replicas w)) ≡ numbered_answers m w
