-- Statements with premises, used after an opening for f = 1: the premises hold there by computation.
use Prim.Native.Nat.{ℕ}
use mathlib.Core.Path.{◌≡◌, refl, ◌∙◌}
use mathlib.Core.Bool.{true}
use mathlib.Core.List.{List, [], ◌∷◌}
use Rattle.protocol.specs.Form.{well_formed}
use Rattle.protocol.specs.Outcome.{Answer, accepted}
use Rattle.protocol.specs.Runs.{answers}
use Rattle.protocol.specs.WayOn.{can_enter, can_all_enter, has_room, can_decide, way_on}
use Rattle.protocol.specs.cases.Starts.{opened}
use Rattle.protocol.proofs.cases.Rows.{wrong}
use Rattle.ledger.specs.Coding.{block_code, prepare_on_acc_code, store_code, view_code, accumulate_code, decide_code, CallByCode}
use Rattle.ledger.specs.Coding.{with_code, by_code}
use Rattle.ledger.specs.ByCode.{is_told, answers_by_code, CodesMakeCalls, CodesGoOn}

-- Replicas 0 and 1 go on to view 2, which replica 1 leads.
abbrev chosen : List ℕ
chosen = 0 ∷ 1 ∷ []

abbrev calls_on : List CallByCode
calls_on =
    with_code view_code 0 2 []
    ∷ with_code view_code 1 2 []
    ∷ with_code accumulate_code 1 0 (0 ∷ 1 ∷ [])
    ∷ with_code block_code 0 0 []
    ∷ with_code prepare_on_acc_code 1 1 (2 ∷ [])
    ∷ with_code store_code 0 3 []
    ∷ with_code store_code 1 3 []
    ∷ with_code decide_code 1 0 (4 ∷ 5 ∷ [])
    ∷ []

-- The last is the decision of block 1 in view 2.
abbrev answers_on : List Answer
answers_on =
    accepted 0 0
    ∷ accepted 1 0
    ∷ accepted 2 0
    ∷ accepted 1 0
    ∷ accepted 3 0
    ∷ accepted 4 0
    ∷ accepted 5 0
    ∷ accepted 1 2
    ∷ []

opened_formed : well_formed opened ≡ true
unfolding wrong
opened_formed = refl

can-decide : can_decide opened chosen 2 ≡ true
unfolding wrong can_enter can_decide can_all_enter has_room
can-decide = refl

answers-on : answers opened (way_on opened chosen 2) ≡ answers_on
unfolding wrong answers way_on
answers-on = refl

pub codes_go_on_used : CodesGoOn → answers_by_code opened calls_on ≡ answers_on
unfolding CodesGoOn wrong answers way_on by_code
codes_go_on_used statement = (statement opened chosen 2 opened_formed can-decide).answered ∙ answers-on

pub codes_make_calls_used : CodesMakeCalls → answers_by_code opened calls_on ≡ answers_on
unfolding CodesMakeCalls wrong answers way_on by_code is_told
codes_make_calls_used statement = (statement opened (way_on opened chosen 2) refl).answered ∙ answers-on
