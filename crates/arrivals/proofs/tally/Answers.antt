use Prim.Native.Nat.{◌-◌}
use native.Mathlib.Omega.{arith}
use Rattle.entries.specs.Entries.{waiting_count}
use Rattle.arrivals.proofs.Tallies.{none_tallied, one_tallied, few_pallets}
use Rattle.arrivals.proofs.tally.Goals as goal

pub loop-slot-init : goal.loop-slot-init
loop-slot-init c = none_tallied c.args.waiting.now c.args.taker (waiting_count c.args.waiting.now)

pub with_entry-so_far-requires : goal.with_entry-so_far-requires
with_entry-so_far-requires c =
    let h = c.requires in
    let w = c.args.waiting.now in
    let slot = c.loop-slot.slot in
    let own = h.pallets (slot - 1) (omega arith) in
    let rest = few_pallets w c.args.taker (waiting_count w - slot) slot (λ k l. h.pallets k (omega arith)) in
    rw (c.entry_in.ensures, c.loop-slot.invariant) (omega (arith, own, rest, h.few))

pub loop-slot-preserved : goal.loop-slot-preserved
loop-slot-preserved c =
    rw (c.with_entry-so_far.ensures, c.entry_in.ensures, c.loop-slot.invariant)
    (one_tallied c.args.waiting.now c.args.taker (waiting_count c.args.waiting.now) c.loop-slot.slot (omega arith) (omega arith))
