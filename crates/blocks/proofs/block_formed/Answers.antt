-- The parent is not below the block; or it is, and the heights decide.
use Prim.Native.Nat.{◌<◌}
use native.Mathlib.Omega.{arith}
use Rattle.blocks.specs.inner.Records.{parent_in}
use Rattle.blocks.proofs.Tested.{not_below, parent_height, by_height}
use Rattle.blocks.proofs.block_formed.Goals as goal

pub returns-then-block-parent : goal.returns-then-block-parent
returns-then-block-parent c = not_below _ _ _ c.requires (omega (arith, c.if-block-parent.true))

below : (c : goal.After-shared_slice_known-3-1) → parent_in c.args.blocks.now c.args.block < c.args.block
below c = omega (arith, c.if-block-parent.false)

pub overflow_add-result-3 : goal.overflow_add-result-3
overflow_add-result-3 c =
    let t = c.requires in
    omega (arith, parent_height _ _ _ t (below c), below c, t.few)

pub returns : goal.returns
returns c = by_height _ _ _ c.requires (below c)
