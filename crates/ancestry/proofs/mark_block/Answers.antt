use Rattle.ancestry.proofs.Marking.{block_marked}
use Rattle.ancestry.proofs.mark_block.Goals as goal

pub returns : goal.returns
returns c = rw c.parent.ensures (block_marked _ _ _ c.requires)
