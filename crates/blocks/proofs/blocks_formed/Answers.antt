use mathlib.Core.Path.{refl}
use native.Mathlib.Omega.{arith}
use Rattle.protocol.specs.Form.{all_below}
use Rattle.protocol.proofs.logic.Below.{next, refuted_one}
use Rattle.protocol.proofs.logic.Joined.{denied, granted}
use Rattle.blocks.specs.inner.Records.{block_ok}
use Rattle.blocks.proofs.blocks_formed.Goals as goal

pub returns-then-not-root_formed : goal.returns-then-not-root_formed
returns-then-not-root_formed c = refuted_one _ 0 _ (omega arith) (denied c.root_formed.ensures c.if-not-root_formed.true)

pub loop-block-init : goal.loop-block-init
unfolding all_below
loop-block-init c = next (block_ok c.args.blocks.now) 0 refl (granted c.root_formed.ensures c.if-not-root_formed.false)

pub returns-then-not-block_formed : goal.returns-then-not-block_formed
returns-then-not-block_formed c =
    refuted_one _ c.loop-block.block _ (omega arith)
    (denied c.block_formed.ensures c.if-not-block_formed.true)

pub loop-block-preserved : goal.loop-block-preserved
loop-block-preserved c = next _ _ c.loop-block.invariant (granted c.block_formed.ensures c.if-not-block_formed.false)
