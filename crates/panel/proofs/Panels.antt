-- The panel of a number that is a replica's, and of one that is none, in well-formed memory.
use Prim.Native.Nat.{ℕ}
use mathlib.Core.Path.{◌≡◌, refl, sym, ap, ◌∙◌}
use mathlib.Core.Bool.{true, false}
use Rattle.protocol.specs.Memory.{Memory, replica}
use Rattle.protocol.specs.Ancestry.{height}
use Rattle.protocol.specs.Form.{well_formed}
use Rattle.protocol.specs.Outcome.{Answer, Outcome, first_refusal, out_of_range}
use Rattle.protocol.specs.FirstNeeds.{is_replica}
use Rattle.protocol.proofs.logic.Booleans.{tests}
use Rattle.protocol.proofs.calls.Needs.{accepts, refuses, fails, holds}
use Rattle.panel.specs.Panel.{panel_rule, panel_answer}

abbrev pub shown : ℕ → Answer
shown h = record { number = 0; first = h; second = 0 }

module _ (m : Memory) (i : ℕ) (form : well_formed m ≡ true) where
  pub panel_shown : is_replica m i ≡ true → panel_answer m i ≡ shown (height m (replica m i).decided_block)
  unfolding panel_answer first_refusal
  panel_shown own =
      ap (λ (o : Outcome). o.answer) (sym (accepts m (panel_rule m i) (rw (form, own) refl)))

  pub panel_refused : is_replica m i ≡ false → panel_answer m i ≡ record { number = out_of_range; first = 0; second = 0 }
  unfolding panel_answer
  panel_refused none =
      ap (λ (o : Outcome). o.answer)
      (sym (refuses m (panel_rule m i) out_of_range (sym (holds _ _ form ∙ fails _ none)) (λ z. omega tests)))
