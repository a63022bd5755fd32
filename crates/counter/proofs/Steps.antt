-- How large the step of a boot is; the lists that a ledger may be opened with; and eight steps, written.
use Prim.Native.Nat.{ℕ, ◌+◌, ◌≤◌, min}
use mathlib.Core.Path.{◌≡◌, refl, sym, ap, ◌∙◌}
use mathlib.Core.Bool.{true, false}
use mathlib.Core.List.{List, [], ◌∷◌}
use native.Mathlib.Omega.{arith}
use native.Mathlib.Nat.{zero-add}
use lib.ListN.{length, get_or}
use lib.Seq.{sets, sets-eq, paste, take_all}
use lib.Dec.{eqb}
use Rattle.protocol.specs.Memory.{Memory, step_count, last_step, kept_step}
use Rattle.protocol.specs.Form.{all_hold, all_below, steps_formed}
use Rattle.protocol.specs.Counter.{default_steps, steps_from, steps_allowed, counter_step}
use Rattle.protocol.proofs.logic.Booleans.{tests}
use Rattle.protocol.proofs.memory.Formed.{Formed, StepBounds, step_bounds, steps_same}
use Rattle.counter.specs.inner.Rising.{step_in}
use Rattle.protocol.proofs.logic.Joined.{joined_all}

pub counter_step_bounds : (m : Memory) (boot : ℕ) → Formed m → StepBounds (counter_step m boot)
unfolding counter_step
counter_step_bounds m boot h = step_bounds (kept_step m) h.steps (min boot last_step) (omega arith)

-- ---- a list beside an opening

pub none_allowed : (list : List ℕ) → length list ≡ 0 → true ≡ steps_allowed list
unfolding steps_allowed steps_from steps_formed all_hold all_below
none_allowed [] e = refl
none_allowed (step ∷ rest) e = absurd (omega arith)

pub default_from : (list : List ℕ) → length list ≡ 0 → steps_from list ≡ default_steps
unfolding steps_from
default_from [] e = refl
default_from (step ∷ rest) e = absurd (omega arith)

pub given_from : (list : List ℕ) → (length list ≡ 0 → ⊥) → steps_from list ≡ list
unfolding steps_from
given_from [] some = absurd (some refl)
given_from (step ∷ rest) some = refl

module _ (list : List ℕ) where
  pub eight_allowed : length list ≡ step_count → steps_formed (step_in list 0) ≡ steps_allowed list
  unfolding steps_allowed all_hold
  eight_allowed e =
      let q : eqb (length list) step_count ≡ true = omega tests in
      rw (given_from list (λ z. omega arith), q)
      (steps_same _ _ (λ k l. ap (λ (i : ℕ). get_or list i 0) (zero-add k)) ∙ joined_all _ [])

  pub others_refused : (length list ≡ 0 → ⊥) → (length list ≡ step_count → ⊥) → false ≡ steps_allowed list
  unfolding steps_allowed all_hold
  others_refused some other =
      let q : eqb (length list) step_count ≡ false = omega tests in
      rw (given_from list some, q) refl

-- ---- the steps, written

-- Once all words are copied, they are set one after the other.
pub all_copied : (t ws : List ℕ) (at : ℕ) → at + length ws ≤ length t → paste t at ws (length ws) ≡ sets t at ws
all_copied t ws at room = rw (take_all (length ws) ws (omega arith)) (sym (sets-eq ws t at room))
