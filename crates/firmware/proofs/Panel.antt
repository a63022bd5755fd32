-- The panel has one value.
use Prim.Native.Nat.{ℕ}
use mathlib.Core.Path.{◌≡◌, refl, ap, ◌∙◌}
use Rattle.protocol.specs.Memory.{Memory}
use Rattle.protocol.specs.Outcome.{Answer}
use Rattle.protocol.proofs.calls.Needs.{outcome_cases}
use Rattle.panel.specs.Panel.{panel_rule, panel_answer}

abbrev valued : Answer → Answer
valued a = record { number = a.number; first = a.first; second = 0 }

pub one_value : (a : Answer) (m : Memory) (i : ℕ) → a ≡ panel_answer m i → valued a ≡ panel_answer m i
unfolding panel_answer
one_value a m i e = ap valued e ∙ outcome_cases m (panel_rule m i) (λ o. valued o.answer ≡ o.answer) (λ n x. refl) (λ x. refl)
