-- The words compared so far.
use Prim.Native.Nat.{◌+◌}
use mathlib.Core.Path.{◌≡◌}
use lib.ListN.{get_or}
use lib.Dec.{eqb}
use Rattle.protocol.specs.Form.{all_below}
use Rattle.certificates.proofs.is_equal.Given as goal

abbrev pub invariant-loop-i : goal.invariant-loop-i
invariant-loop-i l = l.equal ≡ all_below l.i (λ k. eqb (get_or l.log (l.start + k) 0) (get_or l.words k 0))
