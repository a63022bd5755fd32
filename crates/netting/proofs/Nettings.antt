-- What an accepted netting tells, and what shows one.
use Prim.Native.Nat.{ℕ, ◌≤◌, ◌<◌}
use mathlib.Core.Path.{◌≡◌, refl}
use mathlib.Core.Bool.{Bool, true, cond, ◌&&◌}
use mathlib.Core.List.{List}
use native.Mathlib.Omega.{arith}
use lib.Dec.{eqb}
use lib.IntN.{nat_abs}
use Rattle.movements.specs.declared.Movement.{Movement}
use Rattle.protocol.specs.Memory.{Memory, replica_count, fault_bound, block_count, parent}
use Rattle.protocol.specs.Form.{well_formed}
use Rattle.protocol.specs.Outcome.{first_refusal}
use Rattle.protocol.specs.FirstNeeds.{is_replica, is_block}
use Rattle.protocol.specs.Theorems.{Accepted}
use Rattle.movements.specs.Movements.{movement, movement_count, movement_allowed, is_movement_list, max_pallets, max_movements}
use Rattle.protocol.proofs.logic.Booleans.{by_cond, at_below, all-below}
use Rattle.protocol.proofs.calls.Needs.{all_needs, holds_accepted, no_refusal, accepted_first}
use Rattle.netting.specs.Netting.{pallets_of, balance_after, balance_by, lent, netting_rule, netting}
use Rattle.netting.specs.Theorems.{max_balance}
use Rattle.netting.proofs.Signed.{less_small}
use Rattle.netting.proofs.Sums.{sum_same, sum_small}

-- ---- pallets and balances

module _ (side : Movement → ℕ) (counts : Movement → Bool) (movements : List ℕ) (k i : ℕ) where
  -- Movements that count alike are the same pallets.
  pallets_same : (also : Movement → Bool) → ((x : Movement) → counts x ≡ also x)
      → pallets_of side counts movements k i ≡ pallets_of side also movements k i
  unfolding pallets_of
  pallets_same also same = sum_same k _ _ (λ j l. rw (same (movement movements j)) refl)

  pub pallets_small : ((j : ℕ) → j < k → (movement movements j).pallets ≤ max_pallets) → k ≤ max_movements
      → pallets_of side counts movements k i ≤ max_balance
  unfolding pallets_of
  pallets_small few short =
      let sum = sum_small k
      (λ j. cond (counts (movement movements j) && eqb (side (movement movements j)) i) (movement movements j).pallets 0)
      (λ j l. by_cond (λ (p : ℕ). p ≤ max_pallets) (counts (movement movements j) && eqb (side (movement movements j)) i) (λ e. few j l)
      (λ e. omega arith)) in
      omega arith

pub balance_same : (counts also : Movement → Bool) → ((x : Movement) → counts x ≡ also x) → (movements : List ℕ) (k i : ℕ)
    → balance_after counts movements k i ≡ balance_after also movements k i
balance_same counts also same movements k i =
    rw (pallets_same (λ x. x.taker) counts movements k i also same, pallets_same (λ x. x.giver) counts movements k i also same) refl

pub balance_small : (counts : Movement → Bool) (movements : List ℕ) (k i : ℕ)
    → ((j : ℕ) → j < k → (movement movements j).pallets ≤ max_pallets) → k ≤ max_movements
    → nat_abs (balance_after counts movements k i) ≤ max_balance
balance_small counts movements k i few short =
    less_small _ _ max_balance (pallets_small _ counts movements k i few short) (pallets_small _ counts movements k i few short)

-- ---- an accepted netting

pub record Nets (m : Memory) (movements : List ℕ) (b : ℕ) : Type 0 where
  pub formed : well_formed m ≡ true
  pub list : is_movement_list movements ≡ true
  pub block : is_block m b ≡ true
  pub each : (k : ℕ) → k < movement_count movements
      → movement_allowed (replica_count (fault_bound m)) (block_count m) (movement movements k) ≡ true

module _ (m : Memory) (movements : List ℕ) (b i : ℕ) where
  pub passes : first_refusal (netting_rule m movements b i).needs ≡ 0 → Nets m movements b
  unfolding netting_rule
  passes e =
      let h = all_needs (netting_rule m movements b i).needs refl e in
      record { formed = h.1.0; list = h.0; block = h.1.1.1.0; each = at_below _ _ h.1.1.1.1.0 }

  module _ (accepted : Accepted (netting m movements b i)) where
    pub nets : Nets m movements b
    unfolding netting
    nets = passes (no_refusal (lent m movements) (netting_rule m movements b i) accepted)

    pub answers : (netting m movements b i).answer.first ≡ balance_by (parent m) movements b i
    unfolding netting netting_rule
    answers = accepted_first (lent m movements) (netting_rule m movements b i) accepted

-- What is accepted of one firm is accepted of every firm.
pub accepted_netting : (m : Memory) (movements : List ℕ) (b i : ℕ) → Nets m movements b → is_replica m i ≡ true
    → Accepted (netting m movements b i)
unfolding netting netting_rule
accepted_netting m movements b i h own =
    holds_accepted (lent m movements) (netting_rule m movements b i)
    (h.list, (h.formed, (own, (h.block, (all-below (movement_count movements) _ h.each, tt)))))
