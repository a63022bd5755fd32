-- The ways that an opening goes.
use Prim.Native.Nat.{ℕ, zero, suc, ◌≤◌}
use mathlib.Core.Path.{◌≡◌, refl, ap}
use mathlib.Core.Bool.{true}
use mathlib.Core.List.{List, [], ◌∷◌}
use Rattle.std.specs.Prelude.{Result, Ok}
use lib.ListN.{length, get_or}
use Rattle.protocol.specs.Memory.{Memory, memory, max_fault_bound, replica_count, row_at, block_at, update}
use Rattle.protocol.specs.Form.{is_fault_bound, lengths_fit}
use Rattle.protocol.specs.Counter.{steps_from, steps_allowed}
use Rattle.protocol.specs.declared.Values.{Values}
use Rattle.protocol.specs.declared.Refusal.{Refusal}
use Rattle.protocol.specs.Outcome.{◌else◌, follow, told, left, out_of_range, wrong_form, wrong_steps}
use Rattle.protocol.specs.Calls.{fresh_replica, fresh_replicas, fresh_header, keep_steps, opening}
use Rattle.protocol.proofs.logic.Booleans.{tests, each}
use Rattle.checks.proofs.Passing.{At, start, accepts}
use Rattle.opening.specs.inner.Fresh.{fresh_rows}

-- The rows by the table alone are those of the memory.
rows_are : (m : Memory) (limit k : ℕ) → memory (fresh_rows m.table limit k) m.log m.blocks ≡ fresh_replicas m limit k
unfolding fresh_rows fresh_replicas update
rows_are m limit zero = refl
rows_are m limit (suc k) = ap (λ (x : Memory). update x k (fresh_replica limit)) (rows_are m limit k)

module _ (m : Memory) (f : ℕ) (list : List ℕ) where
  pub begun : At (opening m f list)
      (is_fault_bound f else out_of_range ∷ steps_allowed list else wrong_steps ∷ lengths_fit m f else wrong_form ∷ [])
  unfolding opening
  begun = start _

  -- The header is written, then the steps, then the rows.
  pub opens : At (opening m f list) [] → {h : Memory} → h ≡ fresh_header m f → {t : List ℕ} → t ≡ (keep_steps h (steps_from list)).table
      → {limit n : ℕ} → limit ≡ get_or (steps_from list) 0 0 → n ≡ replica_count f → {a : Result Values Refusal}
      → a ≡ Ok (record { first = n; second = 0 }) → {end : List ℕ} → end ≡ fresh_rows t limit n
      → left (told a) end h.log h.blocks ≡ follow m (opening m f list)
  unfolding opening
  opens at header kept first count answer rows =
      accepts m at (rw count at answer)
      (rw (rows, first, count, kept, header) (rows_are (keep_steps (fresh_header m f) (steps_from list)) _ (replica_count f)))

-- The lengths of a memory that may be opened.
pub record Fitting (m : Memory) (f : ℕ) : Type 0 where
  pub bound : f ≤ max_fault_bound
  pub table : row_at (replica_count f) ≡ length m.table
  pub blocks : block_at 1 ≤ length m.blocks

pub fitting : (m : Memory) (f : ℕ) → is_fault_bound f ≡ true → lengths_fit m f ≡ true → Fitting m f
unfolding lengths_fit
fitting m f b l = let h = each _ b in let k = each _ l in omega tests
