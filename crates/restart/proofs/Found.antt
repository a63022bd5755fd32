-- The replica that a reboot or a reserve begins with.
use Prim.Native.Nat.{ℕ}
use mathlib.Core.List.{[]}
use Rattle.protocol.specs.Memory.{Memory, replica}
use Rattle.protocol.specs.Calls.{limit_after, reserve_needs, reserve, reboot}
use Rattle.records.specs.declared.Replica.{Replica}
use Rattle.checks.proofs.Passing.{start, ReplicaGiven, ReplicaFound, found_replica}

module _ {m : Memory} {i : ℕ} {r : Replica} (given : ReplicaGiven m i r) where
  pub rebooting : ReplicaFound m i (reboot m i) [] r
  unfolding reboot
  rebooting = found_replica m i [] (start _) given.refusal given.found

  pub reserving : ReplicaFound m i (reserve m i) (reserve_needs (replica m i) (limit_after m (replica m i) (replica m i).boot)) r
  unfolding reserve
  reserving = found_replica m i _ (start _) given.refusal given.found
