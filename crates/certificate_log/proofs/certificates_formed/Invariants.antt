-- All certificates passed so far have their form, and the next group's words start at `start`; what fails ends the test.
use Prim.Native.Nat.{◌-◌, ◌≤◌}
use mathlib.Core.Path.{◌≡◌}
use mathlib.Core.Bool.{true}
use Rattle.protocol.specs.Memory.{certificate_at}
use Rattle.protocol.specs.Form.{all_below}
use Rattle.certificate_log.specs.inner.Records.{certificate_ok}
use Rattle.certificate_log.proofs.certificates_formed.Given as goal

abbrev pub invariant-loop-number : goal.invariant-loop-number
invariant-loop-number l = (l.number ≤ l.count) × (l.start ≡ certificate_at l.number) × (all_below l.number (certificate_ok l.log l.replicas l.added) ≡ true)

abbrev pub decreases-loop-number : goal.decreases-loop-number
decreases-loop-number l = l.count - l.number

abbrev pub invariant-loop-last : goal.invariant-loop-last
invariant-loop-last l = all_below l.last (certificate_ok l.log l.replicas l.added) ≡ true
