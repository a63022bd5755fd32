-- What holds of nettings. Each unfoldable type here is a statement, proved in proofs/ under the same name in lower case with hyphens.
use Rattle.std.specs.Prelude.{ℕ, zero, suc, ◌+◌, ◌≤◌, ◌<◌, ◌≡◌, true, false, cond, ℤ, pos, ◌+ℤ◌, nat_abs}
use mathlib.Core.List.{List, Memᴰ}
use Rattle.protocol.specs.Memory.{Memory, replica_count, fault_bound, block_count, parent}
use Rattle.protocol.specs.Ancestry.{Falls, is_ancestor_by, height_by}
use Rattle.protocol.specs.Outcome.{◌else◌}
use Rattle.protocol.specs.FirstNeeds.{is_block}
use Rattle.movements.specs.declared.Movement.{Movement}
use Rattle.movements.specs.Movements.{movement, movement_count, movement_allowed, is_movement_list}
use Rattle.protocol.specs.Theorems.{Accepted, Refused, Lowest, Alike}
use Rattle.protocol.specs.History.{decided, given_parent}
use Rattle.protocol.specs.Agreement.{Execution, events_of, end_of}
use Rattle.netting.specs.Netting.{counts_by, sum_below, balance_by, lent, netting_rule, netting}

-- ---- A netting changes no word, refused or not.

unfoldable pub NettingChangesNothing : Type 0
NettingChangesNothing = (m : Memory) (movements : List ℕ) (b i : ℕ) → (netting m movements b i).state ≡ lent m movements

-- ---- A refused netting returns the number of a need that fails and two zeros.

unfoldable pub RefusedNettingIsZero : Type 0
RefusedNettingIsZero =
    (m : Memory) (movements : List ℕ) (b i : ℕ) → (Accepted (netting m movements b i) → ⊥)
    → Refused (lent m movements) (netting_rule m movements b i) (netting m movements b i)

-- Where a need fails the netting is refused, with a number that is not above that of the need.
unfoldable pub NettingLowestWins : Type 0
NettingLowestWins =
    (m : Memory) (movements : List ℕ) (b i number : ℕ) → Memᴰ (false else number) (netting_rule m movements b i).needs
    → Lowest (netting m movements b i) number

-- ---- Words past the counts are not read.

unfoldable pub NettingPastCountsUnread : Type 0
NettingPastCountsUnread =
    (m m' : Memory) → Alike m m' → (movements : List ℕ) (b i : ℕ)
    → (netting m movements b i).answer ≡ (netting m' movements b i).answer

-- ---- "All balances add up to 0."

-- A signed sum over the numbers below a count.
unfoldable pub total_below : ℕ → (ℕ → ℤ) → ℤ
total_below zero term = pos 0
total_below (suc k) term = total_below k term +ℤ term k

-- Where one firm's netting is accepted, every firm's is, and the answers add up to 0.
pub record Balanced (m : Memory) (movements : List ℕ) (b : ℕ) : Type 0 where
  pub accepted : (i : ℕ) → i < replica_count (fault_bound m) → Accepted (netting m movements b i)
  pub total : total_below (replica_count (fault_bound m)) (λ i. (netting m movements b i).answer.first) ≡ pos 0

unfoldable pub BalancesAddUp : Type 0
BalancesAddUp = (m : Memory) (movements : List ℕ) (b i : ℕ) → Accepted (netting m movements b i) → Balanced m movements b

-- ---- Every balance is within 20,480,000 either way (document 01, "Where to use each form").

abbrev pub max_balance : ℕ
max_balance = 20480000

unfoldable pub BalancesBounded : Type 0
BalancesBounded = (m : Memory) (movements : List ℕ) (b i : ℕ) → nat_abs (netting m movements b i).answer.first ≤ max_balance

-- ---- "Of two blocks decided in one list of demand 3, the one with the longer line counts every movement that the other counts." By the
-- calls and their answers alone, and of any movement, allowed or not. Two with equally long lines are one block.

-- How many blocks are in the line of a block: none above it is where parents fall, as those of an execution do. It is the height and one
-- more.
abbrev pub chain_length : (ℕ → ℕ) → ℕ → ℕ
chain_length parent_of b = sum_below (b + 1) (λ a. cond (is_ancestor_by parent_of a b) 1 0)

unfoldable pub ChainLengthIsHeight : Type 0
ChainLengthIsHeight =
    (parent_of : ℕ → ℕ) (count : ℕ) → Falls parent_of count → (b : ℕ) → b < count → chain_length parent_of b ≡ height_by parent_of b + 1

unfoldable pub LongerCountsMore : Type 0
LongerCountsMore =
    (x : Execution)
    → let events = events_of x in
    (i b v j c w : ℕ) → Memᴰ (decided i b v) events → Memᴰ (decided j c w) events
    → chain_length (given_parent events) b ≤ chain_length (given_parent events) c
    → (moved : Movement) → counts_by (given_parent events) b moved ≡ true → counts_by (given_parent events) c moved ≡ true

unfoldable pub EquallyLongIsOne : Type 0
EquallyLongIsOne =
    (x : Execution)
    → let events = events_of x in
    (i b v j c w : ℕ) → Memᴰ (decided i b v) events → Memᴰ (decided j c w) events
    → chain_length (given_parent events) b ≡ chain_length (given_parent events) c → b ≡ c

-- ---- The link to the words, at the end of an execution.

-- What counts by the parents in the memory counts by the parents that the calls were given,
unfoldable pub CountsMatchHistory : Type 0
CountsMatchHistory =
    (x : Execution) (b : ℕ)
    → is_block (end_of x) b ≡ true → (moved : Movement)
    → counts_by (parent (end_of x)) b moved ≡ counts_by (given_parent (events_of x)) b moved

-- so the law above holds of what a netting counts there,
unfoldable pub LongerNetsMore : Type 0
LongerNetsMore =
    (x : Execution)
    → let events = events_of x in
    (i b v j c w : ℕ) → Memᴰ (decided i b v) events → Memᴰ (decided j c w) events
    → chain_length (given_parent events) b ≤ chain_length (given_parent events) c
    → (moved : Movement) → counts_by (parent (end_of x)) b moved ≡ true → counts_by (parent (end_of x)) c moved ≡ true

-- an accepted netting answers the balance by the parents given,
unfoldable pub NettingMatchesHistory : Type 0
NettingMatchesHistory =
    (x : Execution) (movements : List ℕ) (b i : ℕ)
    → Accepted (netting (end_of x) movements b i)
    → (netting (end_of x) movements b i).answer.first ≡ balance_by (given_parent (events_of x)) movements b i

-- and every decided block can be netted, for every firm, over any list of at most 2,048 allowed movements.
unfoldable pub DecidedCanBeNetted : Type 0
DecidedCanBeNetted =
    (x : Execution) (j b v : ℕ)
    → Memᴰ (decided j b v) (events_of x) → (movements : List ℕ) → is_movement_list movements ≡ true
    → ((k : ℕ) → k < movement_count movements
    → movement_allowed (replica_count x.f) (block_count (end_of x)) (movement movements k) ≡ true)
    → (i : ℕ) → i < replica_count x.f → Accepted (netting (end_of x) movements b i)
