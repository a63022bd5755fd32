-- Block 0 first; then all blocks passed so far have their form, and a group with one that has not ends the test.
use mathlib.Core.Path.{◌≡◌}
use mathlib.Core.Bool.{true}
use Rattle.protocol.specs.Form.{all_below}
use Rattle.blocks.specs.inner.Records.{block_ok}
use Rattle.blocks.proofs.blocks_formed.Given as goal

abbrev pub invariant-loop-block : goal.invariant-loop-block
invariant-loop-block l = all_below l.block (block_ok l.blocks) ≡ true
