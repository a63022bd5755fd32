use mathlib.Core.Path.{◌≡◌}
use Rattle.protocol.specs.Memory.{certificate_at}
use Rattle.certificate_log.specs.inner.Records.{some_below, exceeds}
use Rattle.certificate_log.proofs.group_exceeds.Given as goal
use Prim.Native.Nat.{◌+◌}

abbrev pub invariant-loop-i : goal.invariant-loop-i
invariant-loop-i l = l.any ≡ some_below l.i (λ j. exceeds l.log l.last_replica l.last_block (l.at + certificate_at j))
