-- A firm's balance of pallets at a chosen block (document 02, "#101 Netting of movements"): the rule of a netting.
use Rattle.std.specs.Prelude.{Result}
use Rattle.std.specs.Result.{result_unwrap_or}
use Rattle.std.specs.Prelude.{ℕ, zero, suc, ◌+◌, Bool, cond, ◌&&◌, List, [], ◌∷◌, eqb, ℤ, pos, ◌-ℤ◌}
use Rattle.protocol.specs.Memory.{Memory, memory, replica_count, fault_bound, block_count, parent}
use Rattle.protocol.specs.Ancestry.{is_ancestor_by}
use Rattle.protocol.specs.Form.{all_below, well_formed}
use Rattle.protocol.specs.Outcome.{number_in, ◌else◌, AnswerOf, OutcomeOf, RuleOf, follow}
use Rattle.protocol.specs.Outcome.{wrong_form, out_of_range, unknown_number, wrong_movement}
use Rattle.protocol.specs.FirstNeeds.{is_replica, is_block}
use Rattle.movements.specs.declared.Movement.{Movement}
use Rattle.movements.specs.Movements.{movement, movement_count, movement_allowed, is_movement_list}
use Rattle.protocol.specs.declared.Refusal.{Refusal}

-- "For a chosen block, a movement counts exactly if its block is in the chosen block's line." The line goes by the parents that a function
-- gives: those of the memory, or those that calls were given.
abbrev pub counts_by : (ℕ → ℕ) → ℕ → Movement → Bool
counts_by parent_of chosen x = is_ancestor_by parent_of x.block chosen

-- A sum over the numbers below a count.
unfoldable pub sum_below : ℕ → (ℕ → ℕ) → ℕ
sum_below zero term = 0
sum_below (suc k) term = sum_below k term + term k

-- The pallets of the first k movements of a list that count and have this replica on a side, giver or taker.
unfoldable pub pallets_of : (Movement → ℕ) → (Movement → Bool) → List ℕ → ℕ → ℕ → ℕ
pallets_of side counts movements k i =
    sum_below k (λ j. cond (counts (movement movements j) && eqb (side (movement movements j)) i) (movement movements j).pallets 0)

-- "A firm's balance is pallets received less pallets given, a signed number." Of the first k movements.
abbrev pub received : (Movement → Bool) → List ℕ → ℕ → ℕ → ℕ
received = pallets_of (λ x. x.taker)

abbrev pub given : (Movement → Bool) → List ℕ → ℕ → ℕ → ℕ
given = pallets_of (λ x. x.giver)

abbrev pub balance_after : (Movement → Bool) → List ℕ → ℕ → ℕ → ℤ
balance_after counts movements k i = pos (received counts movements k i) -ℤ pos (given counts movements k i)

abbrev pub balance_by : (ℕ → ℕ) → List ℕ → ℕ → ℕ → ℤ
balance_by parent_of movements chosen i = balance_after (counts_by parent_of chosen) movements (movement_count movements) i

-- What a netting is lent: the ledger's three slices, and the movements.
pub record Lent : Type 0 where
  pub memory : Memory
  pub movements : List ℕ

abbrev pub lent : Memory → List ℕ → Lent
lent m movements = record { memory = m; movements = movements }

-- "Answers: 1 for a movement list longer than this or of broken records; 11 for a movement outside these rules, its block and boxes
-- included, after 3." 1 also for wrong form of the other three slices, 2 for a chosen firm that is no replica, 3 for a chosen block that is
-- not added. Every movement lent is tested, counted or not. "The values are a chosen firm's balance and 0." No word changes.
unfoldable pub netting_rule : Memory → List ℕ → ℕ → ℕ → RuleOf (pos 0) Lent
netting_rule m movements chosen i =
    record {
      needs =
          is_movement_list movements else wrong_form
          ∷ well_formed m else wrong_form
          ∷ is_replica m i else out_of_range
          ∷ is_block m chosen else unknown_number
          ∷ all_below (movement_count movements) (λ k. movement_allowed (replica_count (fault_bound m)) (block_count m) (movement movements k))
          else wrong_movement
          ∷ [];
      first = balance_by (parent m) movements chosen i;
      second = 0;
      after = lent m movements;
    }

-- What a netting gives. A refusal is its number and two zeros.
unfoldable pub netting : Memory → List ℕ → ℕ → ℕ → OutcomeOf ℤ Lent
netting m movements chosen i = follow (lent m movements) (netting_rule m movements chosen i)

-- The code's answer, as rules have it; and an answer with what the four slices hold then.
abbrev pub balance_told : Result ℤ Refusal → AnswerOf ℤ
balance_told r = record { number = number_in r; first = result_unwrap_or r (pos 0); second = 0 }

abbrev pub netting_left : AnswerOf ℤ → List ℕ → List ℕ → List ℕ → List ℕ → OutcomeOf ℤ Lent
netting_left a t l b movements = record { answer = a; state = lent (memory t l b) movements }

abbrev pub netting_outcome : Result ℤ Refusal → List ℕ → List ℕ → List ℕ → List ℕ → OutcomeOf ℤ Lent
netting_outcome a t l b movements = netting_left (balance_told a) t l b movements
