-- A netting has one value, which reads back from its bits.
use Prim.Native.Nat.{ℕ}
use mathlib.Core.Path.{◌≡◌, refl, sym, ap, ◌∙◌}
use mathlib.Core.List.{List}
use native.Mathlib.Omega.{arith}
use lib.IntN.{ℤ}
use mir.Syntax.{w32}
use mir.Val.{of_z, to_z}
use mir.Facts.{to_z-of_z}
use Rattle.protocol.specs.Memory.{Memory}
use Rattle.protocol.specs.Outcome.{OutcomeOf}
use Rattle.protocol.proofs.calls.Needs.{outcome_cases}
use Rattle.netting.specs.Netting.{Lent, lent, netting_rule, netting}
use Rattle.netting.specs.Theorems.{BalancesBounded}
use Rattle.netting.proofs.Moving.{small_fits}
use Rattle.netting.proofs.Theorems.{balances-bounded}

abbrev valued : OutcomeOf ℤ Lent → OutcomeOf ℤ Lent
valued o =
    record {
      answer = record { number = o.answer.number; first = to_z w32 (of_z w32 o.answer.first); second = 0 };
      state = o.state;
    }

no_second : (m : Memory) (movements : List ℕ) (b i : ℕ) → (netting m movements b i).answer.second ≡ 0
unfolding netting netting_rule
no_second m movements b i =
    outcome_cases (lent m movements) (netting_rule m movements b i) (λ o. o.answer.second ≡ 0) (λ n e. refl) (λ e. refl)

pub one_balance : (o : OutcomeOf ℤ Lent) (m : Memory) (movements : List ℕ) (b i : ℕ) → o ≡ netting m movements b i
    → valued o ≡ netting m movements b i
unfolding BalancesBounded
one_balance o m movements b i e =
    let bound = balances-bounded m movements b i in
    let o = netting m movements b i in
    let back = to_z-of_z (small_fits o.answer.first (omega arith)) in
    let second = no_second m movements b i in
    ap valued e ∙ (λ d. record { answer = record { number = o.answer.number; first = back d; second = sym second d }; state = o.state })
