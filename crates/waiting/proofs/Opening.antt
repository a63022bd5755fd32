-- What opening with the further slice gives, by what the ledger's opening gives.
use Prim.Native.Nat.{ℕ}
use mathlib.Core.Path.{◌≡◌, refl, sym, ap, ◌∙◌}
use mathlib.Core.Bool.{true, false}
use mathlib.Core.List.{List, [], ◌∷◌}
use lib.Dec.{eqb}
use lib.ListN.{length, replicate}
use Rattle.protocol.specs.Form.{is_fault_bound, lengths_fit}
use Rattle.protocol.specs.Counter.{steps_allowed}
use Rattle.protocol.specs.declared.Refusal.TheVariants as Code
use Rattle.protocol.specs.Outcome.{Outcome, Need, ◌else◌, first_refusal, refusal, follow, wrong_form, out_of_range, wrong_steps}
use Rattle.protocol.specs.Calls.{opening}
use Rattle.protocol.proofs.logic.Booleans.{tests}
use Rattle.protocol.proofs.calls.Needs.{returned, accepts, refuses, both_pass, refused_first, either_fails}
use Rattle.checks.proofs.Passing.{At, start, stops_at}
use Rattle.entries.specs.Entries.{waiting_words}
use Rattle.entries.specs.Waiting.{Lent, lent, Open, open_rule, waiting_rule, waiting_step}

module _ (s : Lent) (f : ℕ) (steps : List ℕ) where
  abbrev plain : List Need
  plain = (opening s.memory f steps).needs

  abbrev sized : List Need
  sized = eqb (length s.waiting) waiting_words else wrong_form ∷ []

  module _ {o : Outcome} (is : o ≡ follow s.memory (opening s.memory f steps)) where
    number_is : o.answer.number ≡ first_refusal plain
    number_is = ap (λ (x : Outcome). x.answer.number) is ∙ returned s.memory (opening s.memory f steps)

    pub opens : length s.waiting ≡ waiting_words → o.answer.number ≡ 0
        → record { answer = o.answer; state = lent o.state (replicate waiting_words 0) } ≡ waiting_step s (Open f steps)
    unfolding waiting_step waiting_rule open_rule first_refusal
    opens size zero =
        let pass : first_refusal plain ≡ 0 = sym number_is ∙ zero in
        let t : eqb (length s.waiting) waiting_words ≡ true = omega tests in
        let all = both_pass plain sized pass (rw t refl) in
        rw (is, ← accepts s.memory (opening s.memory f steps) (sym pass)) (accepts s (open_rule s f steps) (sym all))

    pub refuses_plainly : (o.answer.number ≡ 0 → ⊥)
        → record { answer = o.answer; state = lent o.state s.waiting } ≡ waiting_step s (Open f steps)
    unfolding waiting_step waiting_rule open_rule
    refuses_plainly some =
        let n = first_refusal plain in
        let stuck : n ≡ 0 → ⊥ = λ z. some (number_is ∙ z) in
        let first = refused_first plain sized stuck in
        rw (is, ← refuses s.memory (opening s.memory f steps) n refl stuck) (refuses s (open_rule s f steps) n (sym first) stuck)

  -- f, then the steps; then 1 where the slice has another length, whether or not the others fit.
  pub to_open : At (waiting_rule s (Open f steps))
      (is_fault_bound f else out_of_range
      ∷ steps_allowed steps else wrong_steps
      ∷ lengths_fit s.memory f else wrong_form
      ∷ sized)
  unfolding waiting_rule open_rule opening
  to_open = start _

  pub refuses_length : (length s.waiting ≡ waiting_words → ⊥)
      → At (waiting_rule s (Open f steps)) (lengths_fit s.memory f else wrong_form ∷ sized)
      → refusal wrong_form s ≡ waiting_step s (Open f steps)
  unfolding waiting_step first_refusal
  refuses_length other at =
      let v : eqb (length s.waiting) waiting_words ≡ false = omega tests in
      stops_at s Code.WrongForm (lengths_fit s.memory f else wrong_form ∷ sized) [] at
      (sym (either_fails (lengths_fit s.memory f) wrong_form sized (rw v refl)))
