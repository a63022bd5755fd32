-- Refused; or the entry stands last, and its taker's words are written anew.
use native.Mathlib.Omega.{arith}
use mathlib.Core.Path.{refl}
use Rattle.protocol.specs.Memory.{memory}
use Rattle.protocol.proofs.logic.Booleans.{tests}
use Rattle.entries.specs.Waiting.{lent, waiting_rule, enter_rule, waiting_step}
use Rattle.entries.proofs.Slices.{slice_count}
use Rattle.checks.proofs.Needed.{needed}
use Rattle.checks.proofs.Passing.{stops, need_stops, need_on, accepts}
use Rattle.waiting.proofs.Calls.{to_enter, entering, none_waits}
use Rattle.waiting.proofs.Leaving.{entered_refreshable}
use Rattle.waiting.proofs.enter.Goals as goal

pub returns-in_err-replicas : goal.returns-in_err-replicas
unfolding waiting_step
returns-in_err-replicas c = stops _ _ _ _ (to_enter _ _) c.in_err-replicas.ensures.refusal c.from_residual.ensures

pub returns-in_err-need : goal.returns-in_err-need
unfolding waiting_step
returns-in_err-need c =
    let formed = entering _ c.in_ok-replicas.ensures.refusal c.args.e in
    need_stops _ _ formed.at _ _ (rw (c.is_allowed.ensures, c.in_ok-replicas.ensures.counted) at c.in_err-need.ensures)
    c.from_residual-in_err-need.ensures

pub bounds-waiting-0 : goal.bounds-waiting-0
bounds-waiting-0 c =
    let formed = entering _ c.in_ok-replicas.ensures.refusal c.args.e in
    omega (arith, formed.known.size)

pub find-same-requires : goal.find-same-requires
find-same-requires c =
    let formed = entering _ c.in_ok-replicas.ensures.refusal c.args.e in
    (omega (arith, formed.known.size, formed.known.few), omega (arith, formed.known.few))

pub returns-in_err-need-2 : goal.returns-in_err-need-2
unfolding waiting_step
returns-in_err-need-2 c =
    let formed = entering _ c.in_ok-replicas.ensures.refusal c.args.e in
    let allowed = need_on _ _ formed.at (rw (c.is_allowed.ensures, c.in_ok-replicas.ensures.counted) at c.in_ok-need.ensures) in
    let none = none_waits c.args.waiting.now _ _ _ c.find-same.ensures c.is_none.ensures in
    need_stops _ _ allowed _ _ (rw none at c.in_err-need-2.ensures) c.from_residual-in_err-need-2.ensures

pub returns-in_err-need-3 : goal.returns-in_err-need-3
unfolding waiting_step
returns-in_err-need-3 c =
    let formed = entering _ c.in_ok-replicas.ensures.refusal c.args.e in
    let allowed = need_on _ _ formed.at (rw (c.is_allowed.ensures, c.in_ok-replicas.ensures.counted) at c.in_ok-need.ensures) in
    let none = none_waits c.args.waiting.now _ _ _ c.find-same.ensures c.is_none.ensures in
    let fresh = need_on _ _ allowed (rw none at c.in_ok-need-2.ensures) in
    need_stops _ _ fresh _ _ (rw (slice_count c.args.waiting.now) at c.in_err-need-3.ensures) c.from_residual-in_err-need-3.ensures

pub append-requires : goal.append-requires
append-requires c =
    let formed = entering _ c.in_ok-replicas.ensures.refusal c.args.e in
    let room = needed _ _ c.in_ok-need-3.ensures in
    (formed.known.size, omega tests)

pub refresh-requires : goal.refresh-requires
refresh-requires c =
    let a = c.args in
    let formed = entering (lent (memory a.table.now a.log.now a.blocks.now) a.waiting.now) c.in_ok-replicas.ensures.refusal a.e in
    let allowed = needed _ _ (rw (c.is_allowed.ensures, c.in_ok-replicas.ensures.counted) at c.in_ok-need.ensures) in
    let room = needed _ _ c.in_ok-need-3.ensures in
    rw c.append.ensures (entered_refreshable _ formed.known a.e allowed (omega tests))

pub returns : goal.returns
unfolding waiting_step waiting_rule enter_rule
returns c =
    let formed = entering _ c.in_ok-replicas.ensures.refusal c.args.e in
    let allowed = need_on _ _ formed.at (rw (c.is_allowed.ensures, c.in_ok-replicas.ensures.counted) at c.in_ok-need.ensures) in
    let none = none_waits c.args.waiting.now _ _ _ c.find-same.ensures c.is_none.ensures in
    let fresh = need_on _ _ allowed (rw none at c.in_ok-need-2.ensures) in
    let room = need_on _ _ fresh (rw (slice_count c.args.waiting.now) at c.in_ok-need-3.ensures) in
    accepts _ room c.accepted.ensures (rw (c.refresh.ensures, c.append.ensures) refl)
