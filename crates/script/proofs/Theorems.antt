-- What specs/Theorems.antt states.
use Prim.Native.Nat.{ℕ, ◌≤◌}
use mathlib.Core.Path.{◌≡◌, refl, ap, ◌∙◌}
use mathlib.Core.Bool.{true, false}
use mathlib.Core.List.{List}
use lib.Dec.{leb, eqb}
use borrow.Author.Tests.{ne_eqb}
use Rattle.protocol.specs.declared.Call.{Call}
use Rattle.protocol.specs.Memory.{Memory}
use Rattle.protocol.specs.Form.{all_hold, well_formed}
use Rattle.protocol.specs.Outcome.{Answer, Outcome, wrong_form, no_room, wrong_steps}
use Rattle.protocol.specs.Theorems.{RefusedChangesNothing, is_opening, may_return, Fits, ValuesFit}
use Rattle.protocol.proofs.logic.Booleans.{tests, by-test, and-true}
use Rattle.protocol.proofs.calls.Rules.{refused-changes-nothing}
use Rattle.protocol.proofs.calls.Values.{values-fit}
use Rattle.ledger.proofs.Calling.{called_formless}
use Rattle.script.specs.Lines.{field_count, numbers, has_numbers}
use Rattle.script.specs.Session.{Session, lent_length, lent, code_in, replica_in, fault_bound_for, lending, Answered}
use Rattle.script.specs.Session.{unchanged, answer_numbers, answer_line}
use Rattle.script.specs.Text.{Printable}
use Rattle.script.specs.Theorems.{AnswersPrintable, RefusedLeavesSession, OtherCall, BeforeOpening}
use Rattle.script.proofs.Ways.{put_back, by_line}

-- Whatever number the call may return, it has two digits at most.
two_digits : (call : Call) (number : ℕ) → may_return call number ≡ true → number ≤ wrong_steps
two_digits call number may =
    by-test (leb number no_room) (λ e. omega tests)
    (λ e. let only = and-true (is_opening call) (eqb number wrong_steps) (rw e at may) in omega tests)

fits_printable : (call : Call) (a : Answer) → Fits call a → Printable a
fits_printable call a fits = let small = two_digits call a.number fits.number in omega tests

pub answers-printable : AnswersPrintable
unfolding AnswersPrintable ValuesFit
answers-printable s line =
    by_line (λ (x : Answered). Printable x.answer) s line (omega tests) (λ call e. fits_printable call _ (values-fit _ call _))

pub refused-leaves-session : RefusedLeavesSession
unfolding RefusedLeavesSession RefusedChangesNothing
refused-leaves-session s line =
    by_line (λ (x : Answered). (x.answer.number ≡ 0 → ⊥) → x ≡ unchanged x.answer.number s) s line (λ h. refl)
    (λ call e h. let r = refused-changes-nothing _ call _ h in put_back s _ _ r.state r.first r.second h)

-- No table is lent before the first accepted opening, so the form is wrong.
none_lent : (m : Memory) (f : ℕ) → f ≡ 0 → well_formed (lent f m) ≡ false
unfolding well_formed all_hold lent_length
none_lent m f e = rw e refl

wrong-form : (s : Session) (line : List ℕ) → s.fault_bound ≡ 0 → has_numbers line ≡ true
    → OtherCall s.memory (numbers line (field_count line)) → (answer_line s line).answer.number ≡ wrong_form
unfolding answer_line answer_numbers lending
wrong-form s line e t call =
    let given = numbers line (field_count line) in
    let f = fault_bound_for s.fault_bound (code_in given) (replica_in given) in
    let zero-lent : f ≡ 0 = rw (ne_eqb _ 0 call.other) e in
    rw t
    (ap (λ (o : Outcome). o.answer.number)
    (called_formless (lent f s.memory) s.memory _ _ _ _ (none_lent s.memory f zero-lent) call.other call.made))

pub before-opening : BeforeOpening
unfolding BeforeOpening RefusedLeavesSession
before-opening s line e t call =
    let one = wrong-form s line e t call in
    refused-leaves-session s line (λ z. omega tests) ∙ ap (λ (n : ℕ). unchanged n s) one
