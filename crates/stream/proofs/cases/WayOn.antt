-- The worked script goes on, by computation: what must last, the calls and the answers.
use Prim.Native.Nat.{ℕ, ◌+◌, ◌-◌, ◌≤◌}
use mathlib.Core.Path.{◌≡◌, refl}
use mathlib.Core.Bool.{true}
use mathlib.Core.List.{List, [], ◌∷◌, ◌++◌}
use native.Mathlib.Omega.{arith}
use lib.ListN.{length, take}
use Rattle.protocol.specs.Memory.{Memory, fault_bound}
use Rattle.protocol.specs.WayOn.{decision_calls, can_enter, can_all_enter, has_room, can_decide, way_on, counting, numbered_answers}
use Rattle.protocol.specs.Runs.{run, answers}
use Rattle.ledger.specs.Coding.{by_code}
use Rattle.script.specs.Text.{line_feed, text_of as lines_of_fields}
use Rattle.script.specs.Agreement.{session_after}
use Rattle.stream.specs.Output.{lines_of, max_lines}
use Rattle.stream.specs.WayOn.{ledger_after, text_of_calls, answer_texts}
use Rattle.stream.specs.cases.Scripts.{text_of, worked_input}
use Rattle.stream.proofs.cases.Scripts.{printed}

-- Replicas 0 and 2 go on to view 3, which replica 2 leads. (Replica 1 is recovering.)
abbrev pub chosen : List ℕ
chosen = 0 ∷ 2 ∷ []

-- The calls, by codes 5, 6, 1, 2, 4 and 7.
abbrev pub way_input : List (List ℕ)
way_input =
    (5 ∷ 0 ∷ 3 ∷ [])
    ∷ (5 ∷ 2 ∷ 3 ∷ [])
    ∷ (6 ∷ 2 ∷ 0 ∷ 6 ∷ 7 ∷ [])
    ∷ (1 ∷ 0 ∷ 1 ∷ [])
    ∷ (2 ∷ 2 ∷ 2 ∷ 8 ∷ [])
    ∷ (4 ∷ 0 ∷ 9 ∷ [])
    ∷ (4 ∷ 2 ∷ 9 ∷ [])
    ∷ (7 ∷ 2 ∷ 0 ∷ 10 ∷ 11 ∷ [])
    ∷ []

abbrev pub way_output : List (List ℕ)
way_output =
    (12 ∷ 0 ∷ 6 ∷ 0 ∷ [])
    ∷ (13 ∷ 0 ∷ 7 ∷ 0 ∷ [])
    ∷ (14 ∷ 0 ∷ 8 ∷ 0 ∷ [])
    ∷ (15 ∷ 0 ∷ 2 ∷ 0 ∷ [])
    ∷ (16 ∷ 0 ∷ 9 ∷ 0 ∷ [])
    ∷ (17 ∷ 0 ∷ 10 ∷ 0 ∷ [])
    ∷ (18 ∷ 0 ∷ 11 ∷ 0 ∷ [])
    ∷ (19 ∷ 0 ∷ 2 ∷ 3 ∷ [])
    ∷ []

abbrev left : Memory
left = ledger_after (text_of worked_input)

-- It ends in a line feed.
abbrev pub all_but_last : List ℕ
all_but_last = take (length (text_of worked_input) - 1) (text_of worked_input)

pub whole_lines : text_of worked_input ≡ all_but_last ++ (line_feed ∷ [])
unfolding printed worked_input
whole_lines = refl

pub eleven_lines : length (lines_of (text_of worked_input)) ≡ 11
unfolding printed worked_input
eleven_lines = refl

pub can-decide : can_decide left chosen 3 ≡ true
unfolding printed worked_input session_after can_enter can_decide can_all_enter has_room
can-decide = refl

one-fault : fault_bound left ≡ 1
unfolding printed worked_input session_after
one-fault = refl

pub lines_left : length (lines_of (text_of worked_input)) + decision_calls (fault_bound left) ≤ max_lines
lines_left = rw (eleven_lines, one-fault) (omega arith)

pub calls_written : text_of_calls (way_on left chosen 3) ≡ lines_of_fields way_input
unfolding printed worked_input session_after run answers way_on by_code
calls_written = refl

pub answers_written : answer_texts 11 (numbered_answers left 3) ≡ lines_of_fields way_output
unfolding printed worked_input session_after counting numbered_answers answer_texts
answers_written = refl
