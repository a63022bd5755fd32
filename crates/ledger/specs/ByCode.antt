-- Lists of calls by their codes, as the C interface and script lines have them; and the way on by codes (document 02, #109).
use Rattle.std.specs.Prelude.{ℕ, ◌≡◌, Bool, true, false, List, [], ◌∷◌, map, leb, length}
use Rattle.protocol.specs.declared.Call.{Call}
use Rattle.protocol.specs.declared.Call.TheVariants.{Open, Block, Prepare, Store, View, Accumulate, Decide, Reboot, Reserve, Request}
use Rattle.protocol.specs.declared.Call.TheVariants.{Reply, Recover}
use Rattle.protocol.specs.declared.Justification.TheVariants.{Acc, Commits}
use Rattle.protocol.specs.Memory.{Memory}
use Rattle.protocol.specs.Form.{well_formed}
use Rattle.protocol.specs.Quorum.{every}
use Rattle.protocol.specs.Outcome.{Answer, Outcome}
use Rattle.protocol.specs.Runs.{Invocation, run, answers}
use Rattle.protocol.specs.WayOn.{can_decide, way_on}
use Rattle.codes.specs.Codes.{max_list}
use Rattle.ledger.specs.Coding.{CallByCode, coded}
use Rattle.ledger.specs.Called.{called}

abbrev pub called_as : Memory → CallByCode → Outcome
called_as m c = called m c.code c.replica c.number c.list

-- "Each call gets the three slices as the last left them; nothing else writes them". The memory that calls by their codes leave,
unfoldable pub run_by_code : Memory → List CallByCode → Memory
run_by_code m [] = m
run_by_code m (c ∷ cs) = run_by_code (called_as m c).state cs

-- and their answers.
unfoldable pub answers_by_code : Memory → List CallByCode → List Answer
answers_by_code m [] = []
answers_by_code m (c ∷ cs) = let o = called_as m c in o.answer ∷ answers_by_code o.state cs

-- ---- Every list of calls, but of Prepares on commits, can be made by codes.

-- "0 to 31 fields": a call's list, where it has one, is no longer. What a Prepare on commits claims its code does not tell.
unfoldable pub is_told : Call → List ℕ → Bool
is_told (Open f) list = leb (length list) max_list
is_told (Block p) list = true
is_told (Prepare i b (Acc number)) list = true
is_told (Prepare i b (Commits view block)) list = false
is_told (Store i number) list = true
is_told (View i w) list = true
is_told (Accumulate i) list = leb (length list) max_list
is_told (Decide i) list = leb (length list) max_list
is_told (Reboot i) list = true
is_told (Reserve i) list = true
is_told (Request i) list = true
is_told (Reply i number) list = true
is_told (Recover i) list = leb (length list) max_list

abbrev pub told_by_code : Invocation → Bool
told_by_code q = is_told q.call q.list

-- Calls by their codes are answered as the calls are, and leave what the calls leave.
pub record SameByCode (m : Memory) (calls : List Invocation) : Type 0 where
  pub answered : answers_by_code m (map coded calls) ≡ answers m calls
  pub left : run_by_code m (map coded calls) ≡ run m calls

unfoldable pub CodesMakeCalls : Type 0
CodesMakeCalls = (m : Memory) (calls : List Invocation) → every told_by_code calls ≡ true → SameByCode m calls

-- ---- So the way on can be made by codes: "then 2f+6 named calls, none refused, end in a decision at view w of a new block."

unfoldable pub CodesGoOn : Type 0
CodesGoOn =
    (m : Memory) (replicas : List ℕ) (w : ℕ) → well_formed m ≡ true → can_decide m replicas w ≡ true → SameByCode m (way_on m replicas w)
