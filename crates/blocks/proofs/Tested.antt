-- The test of a block, once those before it hold: what it may read, and that its two comparisons are the form of the block.
use Prim.Native.Nat.{ℕ, ◌+◌, ◌≤◌, ◌<◌}
use mathlib.Core.Path.{◌≡◌, sym}
use mathlib.Core.Bool.{false}
use mathlib.Core.List.{List}
use native.Mathlib.Omega.{arith}
use lib.Dec.{eqb}
use Rattle.protocol.proofs.logic.Booleans.{tests, by-test, at_below}
use Rattle.protocol.proofs.memory.Blocks.{child_formed, child_form, height_bounded}
use Rattle.blocks.specs.inner.Records.{parent_in, height_in, block_ok, Testable}
use Rattle.protocol.proofs.logic.Joined.{same_test}

module _ (blocks : List ℕ) (b more : ℕ) (t : Testable blocks b more) where
  -- The parent is not below the block.
  pub not_below : b ≤ parent_in blocks b → false ≡ block_ok blocks b
  not_below le =
      let some = t.child in
      by-test (block_ok blocks b)
      (λ e. let form = child_form (parent_in blocks) (height_in blocks) b (omega arith) e in absurd (omega arith)) sym

  module _ (below : parent_in blocks b < b) where
    pub parent_height : height_in blocks (parent_in blocks b) ≤ parent_in blocks b
    parent_height =
        height_bounded (parent_in blocks) (height_in blocks) b (at_below b (block_ok blocks) t.before) (parent_in blocks b) below

    -- The parent is below, so the height decides.
    pub by_height : eqb (height_in blocks b) (height_in blocks (parent_in blocks b) + 1) ≡ block_ok blocks b
    by_height =
        let some = t.child in
        same_test _ _ (λ e. child_formed (parent_in blocks) (height_in blocks) b (omega arith) below (omega tests))
        (λ e. let form = child_form (parent_in blocks) (height_in blocks) b (omega arith) e in omega tests)
