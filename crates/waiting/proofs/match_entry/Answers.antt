-- Refused; or the entry that is found leaves, and the place is used.
use native.Mathlib.Omega.{arith}
use mathlib.Core.Path.{refl, ap, ◌∙◌}
use mathlib.Core.List.{List, []}
use lib.ListN.{length}
use Prim.Native.Nat.{ℕ}
use Rattle.movements.proofs.Allowed.{list_short}
use Rattle.entries.specs.Waiting.{WaitingOutcome, MatchOutcome, waiting_rule, match_rule, waiting_step}
use Rattle.checks.proofs.Passing.{stops, need_stops, need_on, accepts}
use Rattle.waiting.proofs.Leaving.{leavable, left_length, left_departed}
use Rattle.waiting.proofs.Matching.{listed, fitting, to_match, naming, comparing}
use Rattle.waiting.proofs.match_entry.Goals as goal

-- The movements are as they were.
abbrev with : List ℕ → WaitingOutcome → MatchOutcome
with movements o = record { outcome = o; movements = movements }

pub returns-in_err-test_movements : goal.returns-in_err-test_movements
unfolding waiting_step
returns-in_err-test_movements c =
    ap (with _) (stops _ _ _ _ (to_match _ _ _ _ _) c.in_err-test_movements.ensures c.from_residual.ensures)

pub find_slot-requires : goal.find_slot-requires
find_slot-requires c = let known = (listed _ _ _ _ c.in_ok-test_movements.ensures).ready in (known.size, known.few)

pub returns-in_err-slot : goal.returns-in_err-slot
unfolding waiting_step
returns-in_err-slot c =
    let listed = naming _ _ _ _ _ c.in_ok-test_movements.ensures in
    ap (with _) (stops _ _ _ _ listed c.in_err-slot.ensures.refusal c.from_residual-in_err-slot.ensures)

pub movement_in-x-requires : goal.movement_in-x-requires
movement_in-x-requires c = omega (arith, (listed _ _ _ _ c.in_ok-test_movements.ensures).inside)

pub fits-fitting-requires : goal.fits-fitting-requires
fits-fitting-requires c = fitting _ _ _ _ (listed _ _ _ _ c.in_ok-test_movements.ensures) _ c.in_ok-slot.ensures.found.within

pub returns-in_err-need : goal.returns-in_err-need
unfolding waiting_step
returns-in_err-need c =
    let slot = c.in_ok-slot.ensures in
    let named = comparing _ _ _ _ _ _ slot.found c.in_ok-test_movements.ensures slot.refusal in
    ap (with _)
    (need_stops _ [] named _ _ (rw (c.fits-fitting.ensures, c.movement_in-x.ensures) at c.in_err-need.ensures)
    c.from_residual-in_err-need.ensures)

pub leave-requires : goal.leave-requires
leave-requires c = leavable _ (listed _ _ _ _ c.in_ok-test_movements.ensures).ready _ c.in_ok-slot.ensures.found.within

pub bounds-waiting-place_at : goal.bounds-waiting-place_at
bounds-waiting-place_at c =
    let h = listed _ _ _ _ c.in_ok-test_movements.ensures in
    let size = ap length c.leave.ensures ∙ left_length c.args.waiting.now _ in
    omega (arith, c.place_at.ensures, size, h.ready.size, h.inside, list_short c.args.movements.now h.list)

pub returns : goal.returns
unfolding waiting_step waiting_rule match_rule
returns c =
    let slot = c.in_ok-slot.ensures in
    let named = comparing _ _ _ _ _ _ slot.found c.in_ok-test_movements.ensures slot.refusal in
    let fits = need_on _ [] named (rw (c.fits-fitting.ensures, c.movement_in-x.ensures) at c.in_ok-need.ensures) in
    ap (with _) (accepts _ fits c.accepted.ensures (rw (c.leave.ensures, c.place_at.ensures, left_departed _ _ _ slot.found) refl))
