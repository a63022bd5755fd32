-- Refused; or the two words that are kept of the taker.
use mathlib.Core.Path.{refl}
use Rattle.protocol.proofs.logic.Booleans.{tests}
use Rattle.entries.specs.Waiting.{waiting_rule, ask_rule, waiting_step}
use Rattle.checks.proofs.Needed.{needed}
use Rattle.checks.proofs.Passing.{stops, need_stops, need_on, accepts}
use Rattle.waiting.proofs.Known.{replicas_few}
use Rattle.waiting.proofs.Calls.{to_ask, asking}
use Rattle.waiting.proofs.ask.Goals as goal

pub returns-in_err-replicas : goal.returns-in_err-replicas
unfolding waiting_step
returns-in_err-replicas c = stops _ _ _ _ (to_ask _ _) c.in_err-replicas.ensures.refusal c.from_residual.ensures

pub returns-in_err-need : goal.returns-in_err-need
unfolding waiting_step
returns-in_err-need c =
    let formed = asking _ c.in_ok-replicas.ensures.refusal c.args.taker in
    need_stops _ _ formed.at _ _ (rw c.in_ok-replicas.ensures.counted at c.in_err-need.ensures) c.from_residual-in_err-need.ensures

pub bounds-waiting-at : goal.bounds-waiting-at
bounds-waiting-at c =
    let formed = asking _ c.in_ok-replicas.ensures.refusal c.args.taker in
    let below = needed _ _ c.in_ok-need.ensures in
    omega (tests, c.taker_at-at.ensures, c.in_ok-replicas.ensures.counted, replicas_few _ formed.known, formed.known.size)

pub bounds-waiting-at-2 : goal.bounds-waiting-at-2
bounds-waiting-at-2 c =
    let formed = asking _ c.in_ok-replicas.ensures.refusal c.args.taker in
    let below = needed _ _ c.in_ok-need.ensures in
    omega (tests, c.taker_at-at.ensures, c.in_ok-replicas.ensures.counted, replicas_few _ formed.known, formed.known.size)

pub returns : goal.returns
unfolding waiting_step waiting_rule ask_rule
returns c =
    let formed = asking _ c.in_ok-replicas.ensures.refusal c.args.taker in
    let known = need_on _ _ formed.at (rw c.in_ok-replicas.ensures.counted at c.in_ok-need.ensures) in
    accepts _ known (rw c.taker_at-at.ensures at c.accepted.ensures) refl
