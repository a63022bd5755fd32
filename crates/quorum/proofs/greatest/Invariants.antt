-- The best one so far, and what is left of the list, give the greatest of the whole.
use Rattle.quorum.proofs.Passes.{Best}
use Rattle.quorum.proofs.greatest.Given as goal

abbrev pub invariant-loop-i : goal.invariant-loop-i
invariant-loop-i l = Best l.log l.list l.i l.best l.best_view
