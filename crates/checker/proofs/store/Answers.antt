-- Refused, or a COMMIT is issued; what was found of the replica and of the PROP is what the rule speaks of.
use mathlib.Core.Path.{refl}
use Rattle.std.specs.Prelude.{Err}
use Rattle.protocol.specs.Calls.{store as store_rule}
use Rattle.protocol.proofs.logic.Booleans.{tests}
use Rattle.certificate_log.proofs.Fits.{log_fits}
use Rattle.checks.proofs.Passing.{stops, on}
use Rattle.issuing.proofs.Issues.{issuable, start, issues}
use Rattle.checker.proofs.Justifications.{view_bound, storing, storing_prop}
use Rattle.checker.proofs.store.Goals as goal

pub returns-in_err-r : goal.returns-in_err-r
unfolding store_rule
returns-in_err-r c = stops _ _ _ _ (start _ _ _ _ _ _ refl) c.in_err-r.ensures.refusal c.from_residual.ensures

pub find_certificate-found-requires : goal.find_certificate-found-requires
find_certificate-found-requires c =
    let found = storing _ _ c.in_ok-r.ensures c.args.number in
    log_fits _ found.ready.formed

pub returns-in_default : goal.returns-in_default
returns-in_default c =
    let found = storing _ _ c.in_ok-r.ensures c.args.number in
    stops (Err _) _ _ _ found.at (rw c.unwrap_err.ensures at c.find_certificate-found.ensures.refusal) (refl, refl)

pub bounds-table-0 : goal.bounds-table-0
bounds-table-0 c =
    let found = storing _ _ c.in_ok-r.ensures c.args.number in
    omega (tests, found.ready.sizes)

pub test_store-requires : goal.test_store-requires
test_store-requires c =
    let found = storing _ _ c.in_ok-r.ensures c.args.number in
    found.ready.sizes.faults_high

pub returns-in_err-test_store : goal.returns-in_err-test_store
returns-in_err-test_store c =
    let found = storing _ _ c.in_ok-r.ensures c.args.number in
    let prop = storing_prop _ _ c.in_ok-r.ensures _ c.in-Ok.ensures in
    stops _ _ _ _ prop.at (rw (found.read, prop.read) at c.in_err-test_store.ensures) c.from_residual-in_err-test_store.ensures

pub overflow_add-words : goal.overflow_add-words
overflow_add-words c =
    let found = storing _ _ c.in_ok-r.ensures c.args.number in
    let prop = storing_prop _ _ c.in_ok-r.ensures _ c.in-Ok.ensures in
    rw prop.read (record { fits = omega (tests, view_bound _ _ found.ready.formed prop.issued) })

pub issue-requires-clause-issuable : goal.issue-requires-clause-issuable
issue-requires-clause-issuable c =
    let found = storing _ _ c.in_ok-r.ensures c.args.number in
    issuable _ _ found.ready

pub returns : goal.returns
unfolding store_rule
returns c =
    let found = storing _ _ c.in_ok-r.ensures c.args.number in
    let prop = storing_prop _ _ c.in_ok-r.ensures _ c.in-Ok.ensures in
    let at_slot = on _ _ refl prop.at (rw (found.read, prop.read) at c.in_ok-test_store.ensures) in
    issues _ _ _ _ _ at_slot (rw (c.word.ensures, prop.read) refl) (rw (c.signed.ensures, prop.read, found.read) refl) (c.issue.ensures _)
