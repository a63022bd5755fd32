use mathlib.Core.Path.{sym, ◌∙◌}
use Rattle.quorum.proofs.Passes.{passes_quorum, passes_step, passes_end}
use Rattle.quorum.proofs.is_quorum.Goals as goal

pub loop-number-init : goal.loop-number-init
loop-number-init g c = λ test h. passes_quorum test _

pub loop-number-preserved : goal.loop-number-preserved
loop-number-preserved g c =
    λ test h.
    let l = c.loop-number in
    let a = c.args in
    let same = h c.certificate_in-c.result c.wanted.result c.wanted.ensures in
    rw (same, c.is_seen.ensures, c.with_signer-seen.ensures, c.certificate_in-c.ensures)
    (passes_step test a.log.now a.list.now l.number-index l.seen l.ok c.loop-number-test.true)
    ∙ l.invariant test h

pub returns : goal.returns
returns g c =
    λ test h.
    let l = c.loop-number in
    let a = c.args in
    sym (passes_end test a.log.now a.list.now l.number-index l.seen l.ok c.loop-number-test.false) ∙ l.invariant test h
