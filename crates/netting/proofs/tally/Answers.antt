use Prim.Native.Nat.{suc, ◌+◌}
use mathlib.Core.Path.{◌≡◌, sym, ◌∙◌}
use Rattle.netting.proofs.Moving.{taken, taken_fits, given, given_fits}
use native.Mathlib.Omega.{arith}
use Rattle.checks.proofs.Needed.{needed}
use Rattle.checks.proofs.Passing.{need_failed, handed_up}
use Rattle.netting.proofs.Tallying.{starts, step, goes_on, block_there, stops, giver_movable, taker_movable, moved_few}
use Rattle.netting.proofs.tally.Goals as goal

pub loop-place-init : goal.loop-place-init
loop-place-init c = starts _ _ _ _ _ c.requires

pub returns-in_err-need : goal.returns-in_err-need
returns-in_err-need c =
    let failed = need_failed _ _ _ c.in_err-need.ensures in
    rw (handed_up _ _ c.from_residual.ensures)
    (record {
      tallied = stops _ _ _ _ _ c.requires _ c.loop-place.place c.loop-place-test.true
          (rw c.movement_in-x.ensures at (sym c.is_allowed.ensures ∙ failed.0));
      refusal = failed.1;
    })

pub counted_pallets-pallets-requires : goal.counted_pallets-pallets-requires
counted_pallets-pallets-requires c =
    rw c.movement_in-x.ensures
    (block_there _ _ _ _ _ c.requires _ c.loop-place.place c.loop-place-test.true
    c.loop-place.invariant (rw c.movement_in-x.ensures at (sym c.is_allowed.ensures ∙ needed _ _ c.in_ok-need.ensures)))

pub overflow_cast-pallets : goal.overflow_cast-pallets
overflow_cast-pallets c =
    rw (c.counted_pallets-pallets.ensures, c.movement_in-x.ensures)
    (taken_fits _ (moved_few _ _ c.loop-place.place _
    (step _ _ _ _ _ c.requires _ c.loop-place.place c.loop-place-test.true
    c.loop-place.invariant (rw c.movement_in-x.ensures at (sym c.is_allowed.ensures ∙ needed _ _ c.in_ok-need.ensures)))))

pub overflow_sub-pallets : goal.overflow_sub-pallets
overflow_sub-pallets c =
    rw (c.counted_pallets-pallets.ensures, c.movement_in-x.ensures)
    (given_fits _ (moved_few _ _ c.loop-place.place _
    (step _ _ _ _ _ c.requires _ c.loop-place.place c.loop-place-test.true
    c.loop-place.invariant (rw c.movement_in-x.ensures at (sym c.is_allowed.ensures ∙ needed _ _ c.in_ok-need.ensures)))))

pub add-requires : goal.add-requires
add-requires c =
    let s = step _ _ _ _ _ c.requires _ c.loop-place.place c.loop-place-test.true
    c.loop-place.invariant (rw c.movement_in-x.ensures at (sym c.is_allowed.ensures ∙ needed _ _ c.in_ok-need.ensures)) in
    rw (c.counted_pallets-pallets.ensures, c.movement_in-x.ensures, given _ (moved_few _ _ c.loop-place.place _ s))
    (giver_movable _ _ c.loop-place.place _ s)

pub add-requires-in-loop-place : goal.add-requires-in-loop-place
add-requires-in-loop-place c =
    let s = step _ _ _ _ _ c.requires _ c.loop-place.place c.loop-place-test.true
    c.loop-place.invariant (rw c.movement_in-x.ensures at (sym c.is_allowed.ensures ∙ needed _ _ c.in_ok-need.ensures)) in
    let few = moved_few _ _ c.loop-place.place _ s in
    rw (c.add.ensures, c.counted_pallets-pallets.ensures, c.movement_in-x.ensures, given _ few, taken _ few)
    (taker_movable _ _ c.loop-place.place _ s)

pub loop-place-preserved : goal.loop-place-preserved
loop-place-preserved c =
    let h = c.loop-place.invariant in
    let within = c.loop-place-test.true in
    let next : c.loop-place.place + 1 ≡ suc c.loop-place.place = omega arith in
    let now = rw c.movement_in-x.ensures at (sym c.is_allowed.ensures ∙ needed _ _ c.in_ok-need.ensures) in
    let few = moved_few _ _ c.loop-place.place _ (step _ _ _ _ _ c.requires _ c.loop-place.place within h now) in
    rw (next, c.add-in-loop-place.ensures, c.add.ensures, c.counted_pallets-pallets.ensures, c.movement_in-x.ensures)
    (rw (given _ few, taken _ few) (goes_on _ _ _ _ _ c.requires _ c.loop-place.place within h now))
