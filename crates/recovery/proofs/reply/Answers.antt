-- Refused, or a REPLY is issued, to the REQ's signer, boot and view; the lowest view rises to that view where it is below it.
use mathlib.Core.Path.{refl}
use Rattle.std.specs.Prelude.{Err}
use borrow.Author.Tests.{lt-ltb, le-ltb}
use Rattle.protocol.specs.Calls.{reply as rule}
use Rattle.certificate_log.proofs.Fits.{log_fits}
use Rattle.checks.proofs.Passing.{stops, on}
use Rattle.issuing.proofs.Issues.{issuable, start, issues}
use Rattle.recovery.proofs.Found.{replying, replying_to}
use Rattle.recovery.proofs.reply.Goals as goal

pub returns-in_err-r : goal.returns-in_err-r
unfolding rule
returns-in_err-r c = stops _ _ _ _ (start _ _ _ _ _ _ refl) c.in_err-r.ensures.refusal c.from_residual.ensures

pub find_certificate-found-requires : goal.find_certificate-found-requires
find_certificate-found-requires c =
    let found = replying _ _ c.in_ok-r.ensures c.args.number in
    log_fits _ found.ready.formed

pub returns-in_default : goal.returns-in_default
returns-in_default c =
    let found = replying _ _ c.in_ok-r.ensures c.args.number in
    stops (Err _) _ _ _ found.at (rw c.unwrap_err.ensures at c.find_certificate-found.ensures.refusal) (refl, refl)

pub returns-in_err-test_reply : goal.returns-in_err-test_reply
returns-in_err-test_reply c =
    let found = replying _ _ c.in_ok-r.ensures c.args.number in
    let asked = replying_to _ _ c.in_ok-r.ensures _ c.in-Ok.ensures in
    stops _ _ _ _ asked.at (rw (found.read, asked.read) at c.in_err-test_reply.ensures) c.from_residual-in_err-test_reply.ensures

pub issue-requires-clause-issuable : goal.issue-requires-clause-issuable
issue-requires-clause-issuable c =
    let found = replying _ _ c.in_ok-r.ensures c.args.number in
    issuable _ _ found.ready

pub returns-then-r-q : goal.returns-then-r-q
unfolding rule
returns-then-r-q c =
    let found = replying _ _ c.in_ok-r.ensures c.args.number in
    let asked = replying_to _ _ c.in_ok-r.ensures _ c.in-Ok.ensures in
    let at_slot = on _ _ refl asked.at (rw (found.read, asked.read) at c.in_ok-test_reply.ensures) in
    let rises = lt-ltb _ _ (rw (found.read, asked.read) at c.if-r-q.true) in
    issues _ _ _ _ _ at_slot (rw (rises, asked.read, c.word.ensures)) (rw (found.read, asked.read) at c.reply_to-answer.ensures) (c.issue.ensures _)

pub issue-requires-2-clause-issuable : goal.issue-requires-2-clause-issuable
issue-requires-2-clause-issuable c =
    let found = replying _ _ c.in_ok-r.ensures c.args.number in
    issuable _ _ found.ready

pub returns : goal.returns
unfolding rule
returns c =
    let found = replying _ _ c.in_ok-r.ensures c.args.number in
    let asked = replying_to _ _ c.in_ok-r.ensures _ c.in-Ok.ensures in
    let at_slot = on _ _ refl asked.at (rw (found.read, asked.read) at c.in_ok-test_reply.ensures) in
    let stays = le-ltb _ _ (rw (found.read, asked.read) at c.if-r-q.false) in
    issues _ _ _ _ _ at_slot (rw stays) (rw (found.read, asked.read) at c.reply_to-answer.ensures) (c.issue-2.ensures _)
