-- What a walk up the parents asks: the block is in the slice, and the numbers fall on the way up to block 0, its own parent.
use Rattle.std.specs.Prelude.{ℕ, suc, ◌+◌, ◌≤◌, ◌<◌, ◌≡◌, Bool, false, ◌||◌, List, length, get_or}
use Rattle.protocol.specs.Memory.{block_words, block_at, max_blocks}
use Rattle.protocol.specs.Ancestry.{Falls, is_ancestor_by}
use Rattle.blocks.specs.inner.Records.{parent_in}

pub record AncestryFits (blocks : List ℕ) (b : ℕ) : Type 0 where
  pub in_slice : block_at b + block_words ≤ length blocks
  pub falls : Falls (parent_in blocks) (suc b)
  pub root : parent_in blocks 0 ≡ 0

-- What marking asks besides: a mark for each block.
pub record Markable (blocks : List ℕ) (b : ℕ) (marks : List Bool) : Type 0 where
  pub walk : AncestryFits blocks b
  pub below : b < max_blocks
  pub size : length marks ≡ max_blocks

-- The marks before and after a walk up the line of block b: those of the line are set, the others are as they were.
pub record AncestorsMarked (blocks : List ℕ) (b : ℕ) (before after : List Bool) : Type 0 where
  pub size : length after ≡ length before
  pub marks : (a : ℕ) → get_or after a false ≡ (is_ancestor_by (parent_in blocks) a b || get_or before a false)

-- Some steps up the line of block b, to block top, each block left being marked: what is still to be marked is the line of top.
pub record Climbed (blocks : List ℕ) (b top : ℕ) (before after : List Bool) : Type 0 where
  pub markable : Markable blocks top after
  pub lower : (top ≡ 0 → ⊥) → top < b
  pub rest : (marks : List Bool) → AncestorsMarked blocks top after marks → AncestorsMarked blocks b before marks

-- Some steps up the line of block b toward block a, to block top: a is in the line of the one exactly if it is in that of the other.
pub record Neared (blocks : List ℕ) (a b top : ℕ) : Type 0 where
  pub walk : AncestryFits blocks top
  pub same : is_ancestor_by (parent_in blocks) a top ≡ is_ancestor_by (parent_in blocks) a b
  pub lower : a < top → top < b
