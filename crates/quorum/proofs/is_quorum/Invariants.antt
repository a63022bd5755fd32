-- The answer so far, and the pass over what is left of the list with the signers seen, make the test of the whole.
use mathlib.Core.Path.{◌≡◌}
use mathlib.Core.Bool.{Bool, ◌&&◌}
use lib.ListN.{drop}
use Rattle.protocol.specs.Memory.{Certificate}
use Rattle.protocol.specs.Quorum.{is_quorum}
use Rattle.quorum.specs.inner.Lists.{certificates_in, Tests}
use Rattle.quorum.proofs.Passes.{passes}
use Rattle.quorum.proofs.is_quorum.Given as goal

abbrev pub invariant-loop-number : goal.invariant-loop-number
invariant-loop-number g l =
    (test : Certificate → Bool) → Tests (goal.W-post g l.wanted) test
    → (l.ok && passes test l.seen (certificates_in l.log (drop l.number-index l.list))) ≡ is_quorum test (certificates_in l.log l.list)
