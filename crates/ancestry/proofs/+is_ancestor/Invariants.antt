-- The block number falls on the way up.
use Rattle.ancestry.proofs.+is_ancestor.Given as goal

abbrev pub decreases-is_ancestor : goal.decreases-is_ancestor
decreases-is_ancestor l = l.b
