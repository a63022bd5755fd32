-- Statements with premises, used after an opening line for f = 1: the premises hold there by computation.
use Prim.Native.Nat.{ℕ}
use mathlib.Core.Path.{◌≡◌, refl, ◌∙◌}
use mathlib.Core.Bool.{true}
use mathlib.Core.List.Memᴰ
use mathlib.Core.List.{List, [], ◌∷◌, map}
use lib.ListN.{replicate}
use Rattle.protocol.specs.declared.Call.TheVariants.{View, Reserve}
use Rattle.protocol.specs.Memory.{certificate_at, block_at}
use Rattle.protocol.specs.Outcome.{Answer, accepted}
use Rattle.protocol.specs.Runs.{plain, answers}
use Rattle.protocol.specs.WayOn.{can_enter, can_all_enter, has_room, can_decide, way_on, counting, numbered_answers}
use Rattle.protocol.proofs.cases.Rows.{wrong}
use Rattle.codes.specs.Codes.{claimed_word, when, code_table}
use Rattle.field.specs.Digits.{least_from, digit_count, digits}
use Rattle.field.specs.Field.{field_of, continued, unpadded, aligned, read_field}
use Rattle.ledger.specs.Called.{called_by, called}
use Rattle.ledger.specs.Coding.{open_code, block_code, prepare_on_acc_code, store_code, view_code, accumulate_code, decide_code, reserve_code, by_code}
use Rattle.ledger.specs.ByCode.{is_told}
use Rattle.script.specs.Lines.{numbers, has_numbers}
use Rattle.script.specs.Session.{Session, session, max_table, lent_length, lending, answer_numbers, answer_line}
use Rattle.script.specs.Text.{line_of}
use Rattle.script.specs.Agreement.{line_history, session_after, OpenedOnce, ledger_of}
use Rattle.script.specs.WayOn.{answers_to_lines, session_of, LinesMakeCalls, LinesGoOn}

-- Zeros before the opening, with slots for six certificates and two blocks.
abbrev before : Session
before = session 0 (replicate max_table 0) (replicate (certificate_at 6) 0) (replicate (block_at 2) 0)

abbrev opening : List ℕ
opening = line_of (open_code ∷ 1 ∷ 0 ∷ [])

abbrev now : Session
now = session_of before opening []

-- Everything that lines and their answers are made of opens with it.
unfoldable opened : List (List ℕ) → List Answer
unfolding wrong claimed_word when code_table least_from digit_count digits field_of continued unpadded aligned read_field called_by called numbers
    has_numbers lent_length lending answer_numbers answer_line line_of line_history session_after
opened lines = answers_to_lines now (map line_of lines)

opened_once : OpenedOnce before opening []
unfolding opened
opened_once = record { opens = refl; accepted = refl; once = Memᴰ.not-nil }

-- ---- the way on: replicas 0 and 1 go on to view 2, which replica 1 leads

abbrev lines_on : List (List ℕ)
lines_on =
    (view_code ∷ 0 ∷ 2 ∷ [])
    ∷ (view_code ∷ 1 ∷ 2 ∷ [])
    ∷ (accumulate_code ∷ 1 ∷ 0 ∷ 0 ∷ 1 ∷ [])
    ∷ (block_code ∷ 0 ∷ 0 ∷ [])
    ∷ (prepare_on_acc_code ∷ 1 ∷ 1 ∷ 2 ∷ [])
    ∷ (store_code ∷ 0 ∷ 3 ∷ [])
    ∷ (store_code ∷ 1 ∷ 3 ∷ [])
    ∷ (decide_code ∷ 1 ∷ 0 ∷ 4 ∷ 5 ∷ [])
    ∷ []

abbrev answers_on : List Answer
answers_on =
    accepted 0 0
    ∷ accepted 1 0
    ∷ accepted 2 0
    ∷ accepted 1 0
    ∷ accepted 3 0
    ∷ accepted 4 0
    ∷ accepted 5 0
    ∷ accepted 1 2
    ∷ []

can-decide : can_decide (ledger_of now) (0 ∷ 1 ∷ []) 2 ≡ true
unfolding opened can_enter can_decide can_all_enter has_room
can-decide = refl

answers-on : numbered_answers (ledger_of now) 2 ≡ answers_on
unfolding opened counting numbered_answers
answers-on = refl

pub lines_go_on_used : LinesGoOn → answers_to_lines now (map line_of lines_on) ≡ answers_on
unfolding LinesGoOn opened answers way_on by_code
lines_go_on_used statement = statement before opening [] opened_once (0 ∷ 1 ∷ []) 2 can-decide ∙ answers-on

-- ---- any calls: a View, and a Reserve

pub lines_make_calls_used : LinesMakeCalls
    → answers_to_lines now (map line_of ((view_code ∷ 0 ∷ 2 ∷ []) ∷ (reserve_code ∷ 1 ∷ 0 ∷ []) ∷ [])) ≡ accepted 0 0 ∷ accepted 128 0 ∷ []
unfolding LinesMakeCalls opened answers by_code is_told
lines_make_calls_used statement = (statement before opening [] opened_once (plain (View 0 2) ∷ plain (Reserve 1) ∷ []) refl refl).answered
