-- No certificate that was passed is equal.
use Prim.Native.Nat.{◌≤◌, ◌-◌}
use mathlib.Core.Path.{◌≡◌}
use Rattle.protocol.specs.Certificates.{first_below}
use Rattle.certificates.specs.inner.Filing.{is_equal}
use Rattle.certificates.proofs.find.Given as goal

abbrev pub invariant-loop-first : goal.invariant-loop-first
invariant-loop-first l = (l.first ≤ l.count) × (first_below l.first (is_equal l.log l.words) ≡ l.first)

abbrev pub decreases-loop-first : goal.decreases-loop-first
decreases-loop-first l = l.count - l.first

abbrev pub invariant-loop-number : goal.invariant-loop-number
invariant-loop-number l = first_below l.number (is_equal l.log l.words) ≡ l.number
