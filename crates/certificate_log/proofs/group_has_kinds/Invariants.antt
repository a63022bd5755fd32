use mathlib.Core.Path.{◌≡◌}
use Rattle.protocol.specs.Memory.{certificate_at}
use Rattle.protocol.specs.Form.{all_below}
use Rattle.certificate_log.specs.inner.Records.{has_kind}
use Rattle.certificate_log.proofs.group_has_kinds.Given as goal
use Prim.Native.Nat.{◌+◌}

abbrev pub invariant-loop-i : goal.invariant-loop-i
invariant-loop-i l = l.all ≡ all_below l.i (λ j. has_kind l.log (l.at + certificate_at j))
