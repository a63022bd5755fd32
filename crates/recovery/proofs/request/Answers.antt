-- Refused, or a REQ is issued, of the replica's lowest view and boot; what was found of the replica is what the rule speaks of.
use mathlib.Core.Path.{refl}
use Rattle.protocol.specs.Calls.{request as rule}
use Rattle.checks.proofs.Passing.{stops, need_stops, need_on}
use Rattle.issuing.proofs.Issues.{issuable, start, issues}
use Rattle.recovery.proofs.Found.{requesting}
use Rattle.recovery.proofs.request.Goals as goal

pub returns-in_err-r : goal.returns-in_err-r
unfolding rule
returns-in_err-r c = stops _ _ _ _ (start _ _ _ _ _ _ refl) c.in_err-r.ensures.refusal c.from_residual.ensures

pub returns-in_err-need : goal.returns-in_err-need
returns-in_err-need c =
    let found = requesting _ _ c.in_ok-r.ensures in
    need_stops _ _ found.at _ _ (rw (c.is.ensures, found.read) at c.in_err-need.ensures) c.from_residual-in_err-need.ensures

pub issue-requires-clause-issuable : goal.issue-requires-clause-issuable
issue-requires-clause-issuable c =
    let found = requesting _ _ c.in_ok-r.ensures in
    issuable _ _ found.ready

pub returns : goal.returns
unfolding rule
returns c =
    let found = requesting _ _ c.in_ok-r.ensures in
    let at_slot = need_on _ _ found.at (rw (c.is.ensures, found.read) at c.in_ok-need.ensures) in
    issues _ _ _ _ _ at_slot refl (rw found.read at c.req.ensures) (c.issue.ensures _)
