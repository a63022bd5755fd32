use mathlib.Core.Path.{refl}
use Rattle.entries.specs.Entries.{refreshed}
use Rattle.arrivals.proofs.refresh.Goals as goal

pub returns : goal.returns
unfolding refreshed
returns c = rw (c.taker_at-at.ensures, c.tally-kept.ensures) refl
