-- What the calls of the worked day tell, and what a full pass over it gives, by computation.
use mathlib.Core.Path.{refl}
use Rattle.entries.specs.Arrivals.{events_of, leaves, still_waiting, pallets_by, earliest_by, replicas_by, opens_among, used_by}
use Rattle.entries.specs.Arrivals.{ledger_history}
use Rattle.entries.specs.cases.Day.{DayTold, EventsHold}
use Rattle.entries.proofs.cases.Rows.{wrong}

pub day-told : DayTold
unfolding wrong DayTold events_of ledger_history
day-told = refl

pub events-hold : EventsHold
unfolding wrong EventsHold leaves still_waiting pallets_by earliest_by replicas_by opens_among used_by
events-hold = (refl, (refl, refl, refl, refl, refl, refl, refl), (refl, refl, refl, refl, refl, refl), (refl, refl, refl, refl, refl, refl))
