-- The ways that a line goes: it makes no call, or it makes one on the memory that is lent.
use Prim.Native.Nat.{ℕ}
use mathlib.Core.Path.{◌≡◌, refl}
use mathlib.Core.Bool.{cond}
use mathlib.Core.List.{List, ◌++◌}
use lib.Dec.{eqb}
use lib.ListN.{drop, take-append-drop}
use borrow.Author.Tests.{ne_eqb}
use Rattle.protocol.specs.declared.Call.{Call}
use Rattle.protocol.specs.Outcome.{Outcome, refusal, unreadable}
use Rattle.protocol.specs.Runs.{step}
use Rattle.protocol.proofs.logic.Booleans.{tests, by_cond}
use Rattle.std.specs.Prelude.{Ok}
use Rattle.codes.specs.Codes.{Coded, coded_call}
use Rattle.ledger.proofs.Calling.{by_call}
use Rattle.script.specs.Lines.{has_numbers}
use Rattle.script.specs.Session.{Session, lent_length, lent, code_in, replica_in, number_in, list_in, fault_bound_for, lending, Answered}
use Rattle.script.specs.Session.{session, unchanged, answer_numbers, answer_line}
use Rattle.script.specs.Agreement.{numbers_in}
use Rattle.script.proofs.Lending.{beside, after}

-- What a line leaves, from what its call leaves of the memory that is lent for f.
abbrev pub line_leaves : Session → ℕ → Outcome → Answered
line_leaves s f o = after s f (beside s.memory.table f o)

-- The lent part comes back as it was.
pub put_back : (s : Session) (f : ℕ) (o : Outcome) → o.state ≡ lent f s.memory → o.answer.first ≡ 0 → o.answer.second ≡ 0
    → (o.answer.number ≡ 0 → ⊥) → line_leaves s f o ≡ unchanged o.answer.number s
put_back s f o same first second h =
    let bound : cond (eqb o.answer.number 0) f s.fault_bound ≡ s.fault_bound = rw (ne_eqb _ 0 h) in
    let table : o.state.table ++ drop (lent_length f) s.memory.table ≡ s.memory.table = rw (same, take-append-drop) in
    λ i.
    record {
      answer = record { number = o.answer.number; first = first i; second = second i };
      session = session (bound i) (table i) (same i).log (same i).blocks;
    }

-- The f that the table is lent for, and the call that numbers make on what is lent.
abbrev pub lent_for : Session → List ℕ → ℕ
lent_for s given = fault_bound_for s.fault_bound (code_in given) (replica_in given)

abbrev pub made : Session → List ℕ → Coded
made s given = coded_call (lent (lent_for s given) s.memory) (code_in given) (replica_in given) (number_in given) (list_in given)

-- What a line of these numbers leaves that makes a call.
abbrev pub line_makes : Session → List ℕ → Call → Answered
line_makes s given call = line_leaves s (lent_for s given) (step (lent (lent_for s given) s.memory) call (list_in given))

-- What holds of an unreadable line, and of each call that a line may make, holds of a line's answer.
pub by_line : (P : Answered → Type 0) (s : Session) (line : List ℕ) → P (unchanged unreadable s)
    → ((call : Call) → made s (numbers_in line) ≡ Ok call → P (line_makes s (numbers_in line) call)) → P (answer_line s line)
unfolding answer_line answer_numbers lending
by_line P s line none some =
    let given = numbers_in line in
    let f = lent_for s given in
    let same = put_back s f (refusal unreadable (lent f s.memory)) refl refl refl (λ z. omega tests) in
    by_cond P (has_numbers line) (λ t. by_call (λ (o : Outcome). P (line_leaves s f o)) _ _ _ _ _ (λ e. rw same none) some) (λ t. none)
