-- All rows written so far are as opening leaves them.
use Prim.Native.Nat.{◌≤◌}
use mathlib.Core.Path.{◌≡◌}
use lib.ListN.{length}
use Rattle.opening.specs.inner.Fresh.{fresh_rows}
use Rattle.opening.proofs.fresh_rows.Given as goal

abbrev pub invariant-loop-replica : goal.invariant-loop-replica
invariant-loop-replica l =
    (l.replica ≤ l.replicas) × (l.table ≡ fresh_rows l.initial.table l.limit l.replica) × (length l.table ≡ length l.initial.table)
