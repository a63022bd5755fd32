-- How many words are lent, and what becomes of them.
use Prim.Native.Nat.{ℕ, ◌-◌, ◌≤◌}
use mathlib.Core.Path.{◌≡◌, refl, ap, ◌∙◌}
use mathlib.Core.Bool.{true, false, cond}
use mathlib.Core.List.{List, ◌++◌}
use lib.Dec.{eqb}
use lib.ListN.{length, take, drop, length-drop}
use lib.Seq.{take_all}
use borrow.Author.Tests.{ne_eqb}
use Rattle.std.specs.Prelude.{Result, Ok, Err, is_ok, Bool}
use Rattle.protocol.specs.declared.Values.{Values}
use Rattle.protocol.specs.declared.Refusal.{Refusal}
use Rattle.protocol.specs.Memory.{memory, table_length}
use Rattle.protocol.specs.Form.{is_fault_bound}
use Rattle.protocol.specs.Outcome.{Outcome, outcome, number_in}
use Rattle.checks.proofs.Passing.{some_refusal}
use Rattle.protocol.proofs.logic.Booleans.{tests, each}
use Rattle.ledger.specs.Called.{called}
use Rattle.script.specs.Session.{Session, Answered, leaves, max_table, lent_length, list_field, code_in, replica_in, number_in as number_field_in}
use Rattle.script.specs.Session.{list_in, fault_bound_for, lending, answer_numbers}

module _ (f : ℕ) where
  pub lends : {r : ℕ} → is_fault_bound f ≡ true → r ≡ table_length f → (r ≡ lent_length f) × (r ≤ max_table)
  unfolding lent_length
  lends t e = (e ∙ rw t refl, omega (tests, each _ t, e))

  pub lends_none : is_fault_bound f ≡ false → (0 ≡ lent_length f) × (0 ≤ max_table)
  unfolding lent_length
  lends_none e = (rw e refl, omega tests)

-- The part of the numbers from the list's first field on.
list_part : (given : List ℕ) → take (length given - list_field) (list_in given) ≡ list_in given
list_part given = take_all (length given - list_field) (list_in given) (omega (tests, length-drop list_field given))

-- What a call leaves of the part of a table that is lent for f, beside the rest.
abbrev pub beside : List ℕ → ℕ → Outcome → Outcome
beside table f o =
    record { answer = o.answer; state = memory (o.state.table ++ drop (lent_length f) table) o.state.log o.state.blocks }

pub lent_call : (t l b given : List ℕ) (f : ℕ) (a : Result Values Refusal) {t' l' b' : List ℕ} {r : ℕ} → r ≡ lent_length f
    → outcome a t' l' b'
    ≡ called (memory (take r t) l b) (code_in given) (replica_in given) (number_field_in given) (take (length given - list_field) (list_in given))
    → outcome a (t' ++ drop r t) l' b' ≡ lending f (memory t l b) given
unfolding lending
lent_call t l b given f a e o = rw e (ap (beside t f) (rw (e, list_part given) at o))

-- What a line leaves, from what it leaves of the memory: the f in use too.
abbrev pub after : Session → ℕ → Outcome → Answered
after s f o =
    let in_use = cond (eqb o.answer.number 0) f s.fault_bound in
    record { answer = o.answer; session = record { fault_bound = in_use; memory = o.state } }

module _ (s : Session) (given : List ℕ) {f : ℕ} (e : f ≡ fault_bound_for s.fault_bound (code_in given) (replica_in given)) where
  answered : (a : Result Values Refusal) {t l b : List ℕ} {in_use : ℕ} → outcome a t l b ≡ lending f s.memory given
      → in_use ≡ cond (eqb (number_in a) 0) f s.fault_bound → leaves a in_use t l b ≡ answer_numbers s given
  unfolding answer_numbers
  answered a o x = rw x (ap (after s f) o ∙ rw e refl)

  pub accepted : (a : Result Values Refusal) {t l b : List ℕ} → outcome a t l b ≡ lending f s.memory given → is_ok a ≡ true
      → leaves a f t l b ≡ answer_numbers s given
  accepted (Ok v) o ok = answered (Ok v) o refl
  accepted (Err r) o ok = let clash : ◌≡◌ {A = Bool} false true = ok in absurd (cc)

  pub refused : (a : Result Values Refusal) {t l b : List ℕ} → outcome a t l b ≡ lending f s.memory given → is_ok a ≡ false
      → leaves a s.fault_bound t l b ≡ answer_numbers s given
  refused (Ok v) o failed = let clash : ◌≡◌ {A = Bool} true false = failed in absurd (cc)
  refused (Err r) o failed = answered (Err r) o (rw (ne_eqb _ _ (some_refusal r)) refl)
