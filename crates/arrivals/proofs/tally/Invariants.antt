-- The tally so far is that of the entries passed, from the last on.
use mathlib.Core.Path.{◌≡◌}
use Rattle.entries.specs.Entries.{waiting_count}
use Rattle.arrivals.proofs.Tallies.{tally_from}
use Rattle.arrivals.proofs.tally.Given as goal

abbrev pub invariant-loop-slot : goal.invariant-loop-slot
invariant-loop-slot l = l.so_far ≡ tally_from l.waiting l.taker (waiting_count l.waiting) l.slot
