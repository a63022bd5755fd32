use Rattle.quorum.proofs.Passes.{best_taken, best_kept, best_end}
use Rattle.quorum.proofs.greatest.Goals as goal
use Rattle.quorum.proofs.greatest.Goals.{then-best_view-of_view, else-best_view-of_view}

pub loop-i-preserved : goal.loop-i-preserved
loop-i-preserved c =
    let read = c.certificate_word-of_view.ensures in
    let l = c.loop-i in
    elim c.if-best_view-of_view.branch [ then-best_view-of_view w ↦ rw (w.best-is, w.best_view-is) (best_taken _ _ l.i l.best l.best_view l.invariant _ c.loop-i-test.true read w.if-best_view-of_view.true) | else-best_view-of_view w ↦ rw (w.best-is, w.best_view-is) (best_kept _ _ l.i l.best l.best_view l.invariant _ c.loop-i-test.true read w.if-best_view-of_view.false) ]

pub returns : goal.returns
returns c = best_end _ _ _ _ _ c.loop-i.invariant c.loop-i-test.false
