-- A pool's own steps (document 02, #104): an opening goes by its arguments and the lengths alone, and the steps that it is given are those by
-- which the counters move up to the next accepted opening.
use Rattle.std.specs.Prelude.{ℕ, min, ◌+◌, ◌<◌, ◌≡◌, List, [], get_or}
use Rattle.protocol.specs.declared.Call.TheVariants.{Open, Reboot, Reserve}
use Rattle.protocol.specs.Memory.{Memory, replica_count, last_step, recovering, replica}
use Rattle.protocol.specs.Counter.{default_steps, steps_from}
use Rattle.protocol.specs.Runs.{step}
use Rattle.protocol.specs.Theorems.{Accepted, SameLengths}
use Rattle.protocol.specs.Agreement.{Execution, end_of}

-- ---- Opening reads no word: whatever two memories of the same lengths hold, it gives the same answer, and the same table where it is
-- accepted. So nothing of an earlier ledger is left in the table, its steps neither.

pub record OpenedAlike (m m' : Memory) (f : ℕ) (list : List ℕ) : Type 0 where
  pub answer : (step m (Open f) list).answer ≡ (step m' (Open f) list).answer
  pub table : Accepted (step m (Open f) list) → (step m (Open f) list).state.table ≡ (step m' (Open f) list).state.table

unfoldable pub OpeningReadsNothing : Type 0
OpeningReadsNothing = (m m' : Memory) (f : ℕ) (list : List ℕ) → SameLengths m m' → OpenedAlike m m' f list

-- ---- "Opening without steps, in a script with an empty list, writes the eight of 01": it is the opening with these eight.

unfoldable pub WithoutStepsIsDefault : Type 0
WithoutStepsIsDefault = (m : Memory) (f : ℕ) → step m (Open f) [] ≡ step m (Open f) default_steps

-- ---- The counters move by the list beside the opening.

-- The step of a boot by such a list: document 01's where it is empty, and the last for later boots.
abbrev pub step_of : List ℕ → ℕ → ℕ
step_of list boot = get_or (steps_from list) (min boot last_step) 0

-- "The first bound is the first step."
unfoldable pub FirstLimitIsFirstStep : Type 0
FirstLimitIsFirstStep =
    (m : Memory) (f : ℕ) (list : List ℕ) → Accepted (step m (Open f) list) → (i : ℕ) → i < replica_count f
    → (replica (step m (Open f) list).state i).view_limit ≡ step_of list 0

-- An accepted Reserve moves the limit by the boot's step, and answers it; an accepted Reboot after which the replica is recovering, not
-- retired, moves it by the step of the boot that begins.
pub record MovesBy (list : List ℕ) (m : Memory) (i : ℕ) (beside : List ℕ) : Type 0 where
  pub reserve : Accepted (step m (Reserve i) beside)
      → (replica (step m (Reserve i) beside).state i).view_limit ≡ (replica m i).view_limit + step_of list (replica m i).boot
  pub answer : Accepted (step m (Reserve i) beside)
      → (step m (Reserve i) beside).answer.first ≡ (replica (step m (Reserve i) beside).state i).view_limit
  pub reboot : Accepted (step m (Reboot i) beside) → (replica (step m (Reboot i) beside).state i).status ≡ recovering
      → (replica (step m (Reboot i) beside).state i).view_limit ≡ (replica m i).view_limit + step_of list ((replica m i).boot + 1)

unfoldable pub CountersMoveBySteps : Type 0
CountersMoveBySteps =
    (x : Execution) (i : ℕ) (beside : List ℕ) → MovesBy x.list (end_of x) i beside
