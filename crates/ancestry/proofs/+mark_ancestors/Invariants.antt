-- The block number falls on the way up.
use Rattle.ancestry.proofs.+mark_ancestors.Given as goal

abbrev pub decreases-mark_ancestors : goal.decreases-mark_ancestors
decreases-mark_ancestors l = l.b
