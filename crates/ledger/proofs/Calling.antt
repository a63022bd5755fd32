-- The ways that a call by its code goes.
use Prim.Native.Nat.{ℕ}
use mathlib.Core.Path.{◌≡◌, refl, sym, ap, ◌∙◌}
use mathlib.Core.Bool.{false}
use mathlib.Core.List.{List, []}
use native.Mathlib.Omega.{arith}
use Rattle.std.specs.Prelude.{Result, Ok, Err, IsErr, IsErrAnd}
use Rattle.protocol.specs.declared.Values.{Values}
use Rattle.protocol.specs.declared.Refusal.{Refusal}
use Rattle.protocol.specs.declared.Call.{Call}
use Rattle.protocol.specs.Memory.{Memory, memory}
use Rattle.protocol.specs.Form.{well_formed}
use Rattle.protocol.specs.Outcome.{Outcome, outcome, refusal, wrong_form, unreadable}
use Rattle.protocol.specs.Runs.{step}
use Rattle.protocol.proofs.calls.Needs.{refuses}
use Rattle.protocol.proofs.calls.Rules.{no_form}
use Rattle.codes.specs.Codes.{Coded, no_call, coded_call}
use Rattle.checks.proofs.Passing.{handed_up}
use Rattle.codes.proofs.Aside.{coded_aside}
use Rattle.codes.proofs.Readable.{unreadable_anywhere, refused_unreadable, no_opening}
use Rattle.ledger.specs.Called.{MakeCall, called_by, called}

module _ (t l b : List ℕ) (code replica number : ℕ) (list : List ℕ) where
  pub not_called : (a : Result Values Refusal) (e : Refusal) → Err e ≡ coded_call (memory t l []) code replica number list
      → IsErr a × IsErrAnd a (λ r. r ≡ e) → outcome a t l b ≡ called (memory t l b) code replica number list
  unfolding called called_by
  not_called a e is up =
      rw (handed_up a e up)
      (ap (λ (c : Coded). called_by c (memory t l b) list) (is ∙ coded_aside t l b code replica number list))

  pub is_called : {call : Call} {o : Outcome} → Ok call ≡ coded_call (memory t l []) code replica number list
      → o ≡ step (memory t l b) call list → o ≡ called (memory t l b) code replica number list
  unfolding called called_by
  is_called is steps =
      steps ∙ ap (λ (c : Coded). called_by c (memory t l b) list) (is ∙ coded_aside t l b code replica number list)

-- What holds where there is no call, and of each call that there may be, holds of a call by its code.
pub by_call : (P : Outcome → Type 0) (m : Memory) (code replica number : ℕ) (list : List ℕ)
    → (coded_call m code replica number list ≡ no_call → P (refusal unreadable m))
    → ((call : Call) → coded_call m code replica number list ≡ Ok call → P (step m call list))
    → P (called m code replica number list)
unfolding called called_by
by_call P m code replica number list none some = go (coded_call m code replica number list) refl
  where
    go : (c : Coded) → coded_call m code replica number list ≡ c → P (called_by c m list)
    go (Ok call) e = some call e
    go (Err r) e = let u = refused_unreadable replica number list m code e in rw u (none (rw u at e))

-- A call other than an opening, on memory of wrong form.
pub called_formless : (m m' : Memory) (code replica number : ℕ) (list : List ℕ) → well_formed m ≡ false → (code ≡ 0 → ⊥)
    → MakeCall m' code replica number list → called m code replica number list ≡ refusal wrong_form m
unfolding step
called_formless m m' code replica number list e n makes =
    by_call (λ (o : Outcome). o ≡ refusal wrong_form m) m code replica number list
    (λ u. absurd (makes (unreadable_anywhere replica number list m m' code u)))
    (λ call u. sym (refuses m _ wrong_form (sym (no_form m call list (no_opening replica number list m code n u) e)) (λ z. omega arith)))
