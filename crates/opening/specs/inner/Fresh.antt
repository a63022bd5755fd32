-- The rows that opening writes, by the table alone.
use Rattle.std.specs.Prelude.{ℕ, zero, suc, List}
use Rattle.protocol.specs.Memory.{row_at, assign}
use Rattle.protocol.specs.Calls.{fresh_replica}

unfoldable pub fresh_rows : List ℕ → ℕ → ℕ → List ℕ
fresh_rows t limit zero = t
fresh_rows t limit (suc i) = assign (fresh_rows t limit i) (row_at i) (fresh_replica limit)
