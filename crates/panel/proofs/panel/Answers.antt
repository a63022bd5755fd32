-- A replica that is there has a decided block that is there too, and the height kept with it is the number of steps to block 0.
use mathlib.Core.Path.{refl, ap}
use Rattle.protocol.specs.Memory.{memory}
use Rattle.protocol.specs.Outcome.{Outcome}
use Rattle.protocol.proofs.logic.Booleans.{tests}
use Rattle.protocol.proofs.memory.Formed.{sizes, height_kept}
use Rattle.form.proofs.Within.{block_within, replica_bounds}
use Rattle.checks.proofs.Passing.{start, accepts, stops, replica_known, found_replica}
use Rattle.panel.specs.Panel.{panel_rule, panel_answer}
use Rattle.panel.proofs.panel.Goals as goal

pub returns-in_err-r : goal.returns-in_err-r
unfolding panel_answer
returns-in_err-r c =
    let a = c.args in
    let m = memory a.table.now a.log.now a.blocks.now in
    ap (λ (o : Outcome). o.answer)
    (stops {s = m} _ _ _ _ (start (panel_rule m a.replica)) c.in_err-r.ensures.refusal c.from_residual.ensures)

pub height-requires : goal.height-requires
height-requires c =
    let known = replica_known _ _ c.in_ok-r.ensures.refusal c.in_ok-r.ensures.found in
    let b = replica_bounds _ known.ready.formed c.args.replica (omega (tests, known.ready.own)) in
    rw known.read (block_within _ (sizes _ known.ready.formed) _ b.decided_block)

pub returns : goal.returns
unfolding panel_answer
returns c =
    let a = c.args in
    let m = memory a.table.now a.log.now a.blocks.now in
    let found = found_replica m a.replica _ (start (panel_rule m a.replica)) c.in_ok-r.ensures.refusal c.in_ok-r.ensures.found in
    let b = replica_bounds m found.ready.formed a.replica (omega (tests, found.ready.own)) in
    let kept = height_kept m found.ready.formed _ b.decided_block in
    ap (λ (o : Outcome). o.answer)
    (accepts m {s' = m} found.at (rw (c.height.ensures, found.read, kept) at c.accepted.ensures) refl)
