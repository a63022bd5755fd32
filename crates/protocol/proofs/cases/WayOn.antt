-- The worked cases of the way on, by computation.
use mathlib.Core.Path.{◌≡◌, refl}
use mathlib.Core.List.{List, [], ◌∷◌, map}
use Rattle.protocol.specs.Runs.{Invocation, answers}
use Rattle.protocol.specs.cases.Rows.{invocation_of}
use Rattle.protocol.specs.WayOn.{can_enter, can_all_enter, has_room, can_decide, way_on, counting, numbered_calls, numbered_answers}
use Rattle.protocol.specs.cases.Choices.{Can, Cannot, All, NumbersAre, able, unable}
use Rattle.protocol.specs.cases.WayOn.{Way, GoesBy, CountsTell, Reached, ByHand, Stopped, at_once, on_stored, on_stored_first}
use Rattle.protocol.specs.cases.WayOn.{after_recovery}
use Rattle.protocol.specs.cases.WayOn.{after_wedge, reached_ways, ReportsStand, found_before, first_of_two}
use Rattle.protocol.specs.cases.Stops.{one_slot_fewer, no_block_slot, proposed_there, leader_outside, at_the_limit, not_live, one_twice, too_few}
use Rattle.protocol.specs.cases.Stops.{stopped_ways, WayOnCasesHold}
use Rattle.protocol.proofs.cases.Rows.{wrong, right, ◌and◌}

-- Everything that the way on is made of opens with it.
unfoldable opened : Way → List Invocation
unfolding wrong can_decide can_all_enter has_room can_enter answers way_on counting numbered_calls numbered_answers
opened x = way_on x.chosen.start x.chosen.replicas x.chosen.view

numbers_are : NumbersAre
unfolding counting
numbers_are = (refl, refl, refl, refl, refl, refl)

all_able : All Can able
unfolding All Can opened
all_able = refl and refl and refl and refl and refl and refl and refl and refl and refl and refl and tt

all_unable : All Cannot unable
unfolding All Cannot opened
all_unable =
    refl and refl and refl and refl and refl and refl and refl and refl and refl and refl and refl and refl and
    refl and refl and refl and refl and refl and refl and refl and refl and refl and tt

goes_by : (x : Way) → way_on x.chosen.start x.chosen.replicas x.chosen.view ≡ map invocation_of x.rows
    → wrong (record { start = x.chosen.start; rows = x.rows } ∷ []) ≡ [] → GoesBy x
unfolding GoesBy
goes_by x calls rows = (calls, right (record { start = x.chosen.start; rows = x.rows }) rows)

all_reached : All Reached reached_ways
unfolding All Can CountsTell opened
all_reached =
    (refl, goes_by at_once refl refl, (refl, refl))
    and (refl, goes_by on_stored refl refl, (refl, refl))
    and (refl, goes_by on_stored_first refl refl, (refl, refl))
    and (refl, goes_by after_recovery refl refl, (refl, refl))
    and (refl, goes_by after_wedge refl refl, (refl, refl))
    and tt

reports_stand : ReportsStand
unfolding opened
reports_stand = refl

all_by_hand : All ByHand (found_before ∷ first_of_two ∷ [])
unfolding All Can opened
all_by_hand = (refl, goes_by found_before refl refl) and (refl, goes_by first_of_two refl refl) and tt

all_stopped : All Stopped stopped_ways
unfolding All Cannot opened
all_stopped =
    (refl, goes_by one_slot_fewer refl refl)
    and (refl, goes_by no_block_slot refl refl)
    and (refl, goes_by proposed_there refl refl)
    and (refl, goes_by leader_outside refl refl)
    and (refl, goes_by at_the_limit refl refl)
    and (refl, goes_by not_live refl refl)
    and (refl, goes_by one_twice refl refl)
    and (refl, goes_by too_few refl refl)
    and tt

pub way-on-cases-hold : WayOnCasesHold
unfolding WayOnCasesHold
way-on-cases-hold = (numbers_are, all_able, all_unable, all_reached, reports_stand, all_by_hand, all_stopped)
