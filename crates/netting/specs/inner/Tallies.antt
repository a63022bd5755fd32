-- What the pass over the movements asks and gives.
use Rattle.std.specs.Prelude.{ℕ, ◌≤◌, ◌<◌, ◌≡◌, Bool, true, false, List, [], ◌∷◌, length, get_or, ℤ, pos, nat_abs}
use Rattle.protocol.specs.Memory.{max_fault_bound, replica_count, max_blocks}
use Rattle.protocol.specs.Form.{all_below}
use Rattle.protocol.specs.Outcome.{◌else◌, AnswerOf, RuleOf, follow, wrong_movement}
use Rattle.movements.specs.declared.Movement.{Movement}
use Rattle.movements.specs.Movements.{movement, movement_count, movement_allowed, is_movement_list, max_pallets}
use Rattle.blocks.specs.inner.Records.{parent_in}
use Rattle.ancestry.specs.inner.AncestryFits.{AncestryFits}
use Rattle.netting.specs.Netting.{balance_after, balance_by}
use Rattle.netting.specs.Theorems.{max_balance}

-- Pallets may be added to a firm's balance.
pub record Movable (balances : List ℤ) (firm : ℕ) (pallets : ℤ) : Type 0 where
  pub there : firm < length balances
  pub few : nat_abs pallets ≤ max_pallets
  pub small : nat_abs (get_or balances firm (pos 0)) ≤ max_balance

-- A movement counts where its block is marked.
abbrev pub marked : List Bool → Movement → Bool
marked marks x = get_or marks x.block false

-- A list of movements; a mark for each block and a balance of 0 for each firm.
pub record Talliable (movements : List ℕ) (marks : List Bool) (replicas added : ℕ) (balances : List ℤ) : Type 0 where
  pub list : is_movement_list movements ≡ true
  pub blocks : added ≤ length marks
  pub firms : replicas ≤ length balances
  pub zeros : (i : ℕ) → get_or balances i (pos 0) ≡ pos 0

-- Whether every movement is allowed, and then every firm's balance.
pub record Tallied (movements : List ℕ) (marks : List Bool) (replicas added : ℕ) (allowed : Bool) (balances : List ℤ) : Type 0 where
  pub tested : allowed ≡ all_below (movement_count movements) (λ k. movement_allowed replicas added (movement movements k))
  pub firms : allowed ≡ true → (i : ℕ) → i < replicas
      → get_or balances i (pos 0) ≡ balance_after (marked marks) movements (movement_count movements) i

-- The needs of a netting up to the movements hold.
pub record Nettable (blocks movements : List ℕ) (b i replicas added : ℕ) : Type 0 where
  pub walk : AncestryFits blocks b
  pub list : is_movement_list movements ≡ true
  pub block : b < added
  pub blocks_few : added ≤ max_blocks
  pub firm : i < replicas
  pub firms_few : replicas ≤ replica_count max_fault_bound

-- The movements' need, and the balance.
unfoldable pub balance_rule : List ℕ → List ℕ → ℕ → ℕ → ℕ → ℕ → RuleOf (pos 0) (Unit {0})
balance_rule blocks movements b i replicas added =
    record {
      needs =
          all_below (movement_count movements) (λ k. movement_allowed replicas added (movement movements k)) else wrong_movement
          ∷ [];
      first = balance_by (parent_in blocks) movements b i;
      second = 0;
      after = tt;
    }

abbrev pub balance_answer : List ℕ → List ℕ → ℕ → ℕ → ℕ → ℕ → AnswerOf ℤ
balance_answer blocks movements b i replicas added = (follow tt (balance_rule blocks movements b i replicas added)).answer
