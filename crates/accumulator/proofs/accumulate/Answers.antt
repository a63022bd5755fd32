-- Refused by the form, the replica, the list or a need of its own; else an ACC is issued, of the greatest of-view.
use mathlib.Core.Path.{refl, ap, ◌∙◌}
use native.Mathlib.Omega.{arith}
use Rattle.protocol.specs.Memory.{Certificate}
use Rattle.protocol.specs.Calls.{accumulate as accumulate_rule}
use Rattle.certificate_log.specs.inner.Certificates.{certificate_from}
use Rattle.checks.proofs.Passing.{stops, need_stops, need_on}
use Rattle.issuing.proofs.Issues.{issuable, start, issues}
use Rattle.accumulator.proofs.Found.{accumulating, accumulating_list}
use Rattle.accumulator.proofs.accumulate.Goals as goal

pub returns-in_err-r : goal.returns-in_err-r
unfolding accumulate_rule
returns-in_err-r c = stops _ _ _ _ (start _ _ _ _ _ _ refl) c.in_err-r.ensures.refusal c.from_residual.ensures

pub test_list-requires : goal.test_list-requires
test_list-requires c =
    let found = accumulating c.args.list.now c.in_ok-r.ensures in
    omega (arith, found.ready.sizes)

pub returns-in_err-test_list : goal.returns-in_err-test_list
returns-in_err-test_list c =
    let found = accumulating c.args.list.now c.in_ok-r.ensures in
    stops _ _ _ _ found.at c.in_err-test_list.ensures c.from_residual-in_err-test_list.ensures

pub bounds-list-0 : goal.bounds-list-0
bounds-list-0 c =
    let listed = accumulating_list _ c.in_ok-r.ensures c.in_ok-test_list.ensures in
    listed.some

pub certificate_word-view-requires : goal.certificate_word-view-requires
certificate_word-view-requires c =
    let listed = accumulating_list _ c.in_ok-r.ensures c.in_ok-test_list.ensures in
    omega (arith, listed.there 0)

pub is_new_view_quorum-agreed-requires : goal.is_new_view_quorum-agreed-requires
is_new_view_quorum-agreed-requires c =
    let listed = accumulating_list _ c.in_ok-r.ensures c.in_ok-test_list.ensures in
    listed.all

pub returns-in_err-need : goal.returns-in_err-need
returns-in_err-need c =
    let listed = accumulating_list _ c.in_ok-r.ensures c.in_ok-test_list.ensures in
    need_stops _ _ listed.at _ _ (rw (c.is.ensures, listed.read) at c.in_err-need.ensures) c.from_residual-in_err-need.ensures

pub returns-in_err-need-2 : goal.returns-in_err-need-2
returns-in_err-need-2 c =
    let listed = accumulating_list _ c.in_ok-r.ensures c.in_ok-test_list.ensures in
    let view = c.certificate_word-view.ensures ∙ ap (λ (x : Certificate). x.view) listed.first in
    let live = need_on _ _ listed.at (rw (c.is.ensures, listed.read) at c.in_ok-need.ensures) in
    need_stops _ _ live _ _ (rw (c.is_new_view_quorum-agreed.ensures, view) at c.in_err-need-2.ensures)
    c.from_residual-in_err-need-2.ensures

pub greatest-best-requires : goal.greatest-best-requires
greatest-best-requires c =
    let listed = accumulating_list _ c.in_ok-r.ensures c.in_ok-test_list.ensures in
    (listed.all, listed.some)

pub certificate_in-c-requires : goal.certificate_in-c-requires
certificate_in-c-requires c =
    let listed = accumulating_list _ c.in_ok-r.ensures c.in_ok-test_list.ensures in
    listed.there c.greatest-best.result

pub issue-requires-clause-issuable : goal.issue-requires-clause-issuable
issue-requires-clause-issuable c =
    let listed = accumulating_list _ c.in_ok-r.ensures c.in_ok-test_list.ensures in
    issuable _ _ listed.ready

pub returns : goal.returns
unfolding accumulate_rule
returns c =
    let listed = accumulating_list _ c.in_ok-r.ensures c.in_ok-test_list.ensures in
    let view = c.certificate_word-view.ensures ∙ ap (λ (x : Certificate). x.view) listed.first in
    let best = c.certificate_in-c.ensures ∙ ap certificate_from c.greatest-best.ensures.is in
    let live = need_on _ _ listed.at (rw (c.is.ensures, listed.read) at c.in_ok-need.ensures) in
    let at_slot = need_on _ _ live (rw (c.is_new_view_quorum-agreed.ensures, view) at c.in_ok-need-2.ensures) in
    issues _ _ _ _ _ at_slot refl (simp (c.signed.ensures, view, best, listed.read)) (c.issue.ensures _)
