-- What the calls of a way on are answered with where something does not last; then all its worked cases.
use Rattle.std.specs.Prelude.{List, [], ◌∷◌}
use Rattle.protocol.specs.declared.Call.TheVariants.{Block, Prepare, Store, View, Accumulate, Decide, Reboot, Reserve}
use Rattle.protocol.specs.declared.Justification.TheVariants.{Acc}
use Rattle.protocol.specs.Outcome.{accepted, refused, out_of_range, unknown_number, wrong_status, wrong_certificate, wrong_block, wrong_view}
use Rattle.protocol.specs.Outcome.{counter_limit, no_room}
use Rattle.protocol.specs.Runs.{plain, ◌on◌}
use Rattle.protocol.specs.cases.Rows.{◌gives◌}
use Rattle.protocol.specs.cases.Choices.{choice, Can, Cannot, All, NumbersAre, fresh, roomy, able, unable}
use Rattle.protocol.specs.cases.WayOn.{Way, Reached, ByHand, Stopped, reached_ways, ReportsStand, found_before, first_of_two}

-- ---- where something does not last, the first refusal

-- A slot fewer: of the last Store.
abbrev pub one_slot_fewer : Way
one_slot_fewer =
    record {
      chosen = choice (fresh 5 2) (0 ∷ 1 ∷ []) 2;
      rows =
          plain (View 0 2) gives accepted 0 0
          ∷ plain (View 1 2) gives accepted 1 0
          ∷ Accumulate 1 on (0 ∷ 1 ∷ []) gives accepted 2 0
          ∷ plain (Block 0) gives accepted 1 0
          ∷ plain (Prepare 1 1 (Acc 2)) gives accepted 3 0
          ∷ plain (Store 0 3) gives accepted 4 0
          ∷ plain (Store 1 3) gives refused no_room
          ∷ Decide 1 on (4 ∷ 0 ∷ []) gives refused wrong_certificate
          ∷ [];
    }

-- No slot for a block: of the Block.
abbrev pub no_block_slot : Way
no_block_slot =
    record {
      chosen = choice (fresh 6 1) (0 ∷ 1 ∷ []) 2;
      rows =
          plain (View 0 2) gives accepted 0 0
          ∷ plain (View 1 2) gives accepted 1 0
          ∷ Accumulate 1 on (0 ∷ 1 ∷ []) gives accepted 2 0
          ∷ plain (Block 0) gives refused no_room
          ∷ plain (Prepare 1 0 (Acc 2)) gives refused wrong_block
          ∷ plain (Store 0 0) gives refused wrong_certificate
          ∷ plain (Store 1 0) gives refused wrong_certificate
          ∷ Decide 1 on (0 ∷ 0 ∷ []) gives refused wrong_certificate
          ∷ [];
    }

-- The lowest view itself, in which replica 0 has proposed: of the Prepare, by the flag.
abbrev pub proposed_there : Way
proposed_there =
    record {
      chosen =
          choice
          (roomy
          (plain (View 0 1)
          ∷ plain (View 1 1)
          ∷ Accumulate 0 on (0 ∷ 1 ∷ [])
          ∷ plain (Block 0)
          ∷ plain (Prepare 0 1 (Acc 2))
          ∷ []))
          (0 ∷ 1 ∷ []) 1;
      rows =
          plain (View 0 1) gives accepted 0 1
          ∷ plain (View 1 1) gives accepted 1 1
          ∷ Accumulate 0 on (0 ∷ 1 ∷ []) gives accepted 2 1
          ∷ plain (Block 0) gives accepted 2 0
          ∷ plain (Prepare 0 2 (Acc 2)) gives refused wrong_view
          ∷ plain (Store 0 0) gives refused wrong_certificate
          ∷ plain (Store 1 0) gives refused wrong_certificate
          ∷ Decide 0 on (0 ∷ 0 ∷ []) gives refused wrong_certificate
          ∷ [];
    }

-- The leader is none of them and has not entered the view: of its Prepare.
abbrev pub leader_outside : Way
leader_outside =
    record {
      chosen = choice (fresh 6 2) (1 ∷ 2 ∷ []) 4;
      rows =
          plain (View 1 4) gives accepted 0 0
          ∷ plain (View 2 4) gives accepted 1 0
          ∷ Accumulate 0 on (0 ∷ 1 ∷ []) gives accepted 2 0
          ∷ plain (Block 0) gives accepted 1 0
          ∷ plain (Prepare 0 1 (Acc 2)) gives refused wrong_view
          ∷ plain (Store 1 0) gives refused wrong_certificate
          ∷ plain (Store 2 0) gives refused wrong_certificate
          ∷ Decide 0 on (0 ∷ 0 ∷ []) gives refused wrong_certificate
          ∷ [];
    }

-- A view at their limits: of the Views. A refused call has 0 for its first value, and so do the calls after it.
abbrev pub at_the_limit : Way
at_the_limit =
    record {
      chosen = choice (fresh 6 2) (0 ∷ 1 ∷ []) 64;
      rows =
          plain (View 0 64) gives refused counter_limit
          ∷ plain (View 1 64) gives refused counter_limit
          ∷ Accumulate 0 on (0 ∷ 0 ∷ []) gives refused unknown_number
          ∷ plain (Block 0) gives accepted 1 0
          ∷ plain (Prepare 0 1 (Acc 0)) gives refused unknown_number
          ∷ plain (Store 0 0) gives refused unknown_number
          ∷ plain (Store 1 0) gives refused unknown_number
          ∷ Decide 0 on (0 ∷ 0 ∷ []) gives refused unknown_number
          ∷ [];
    }

-- A replica that is recovering: of its View.
abbrev pub not_live : Way
not_live =
    record {
      chosen = choice (roomy (plain (Reboot 0) ∷ plain (Reserve 1) ∷ [])) (0 ∷ 1 ∷ []) 65;
      rows =
          plain (View 0 65) gives refused wrong_status
          ∷ plain (View 1 65) gives accepted 0 0
          ∷ Accumulate 1 on (0 ∷ 0 ∷ []) gives refused wrong_certificate
          ∷ plain (Block 0) gives accepted 1 0
          ∷ plain (Prepare 1 1 (Acc 0)) gives refused wrong_certificate
          ∷ plain (Store 0 0) gives refused wrong_status
          ∷ plain (Store 1 0) gives refused wrong_certificate
          ∷ Decide 1 on (0 ∷ 0 ∷ []) gives refused wrong_certificate
          ∷ [];
    }

-- One replica twice, and one alone: of the Accumulate.
abbrev pub one_twice : Way
one_twice =
    record {
      chosen = choice (fresh 6 2) (1 ∷ 1 ∷ []) 2;
      rows =
          plain (View 1 2) gives accepted 0 0
          ∷ plain (View 1 2) gives accepted 0 1
          ∷ Accumulate 1 on (0 ∷ 0 ∷ []) gives refused wrong_certificate
          ∷ plain (Block 0) gives accepted 1 0
          ∷ plain (Prepare 1 1 (Acc 0)) gives refused wrong_certificate
          ∷ plain (Store 1 0) gives refused wrong_certificate
          ∷ plain (Store 1 0) gives refused wrong_certificate
          ∷ Decide 1 on (0 ∷ 0 ∷ []) gives refused wrong_certificate
          ∷ [];
    }

abbrev pub too_few : Way
too_few =
    record {
      chosen = choice (fresh 6 2) (1 ∷ []) 2;
      rows =
          plain (View 1 2) gives accepted 0 0
          ∷ Accumulate 1 on (0 ∷ []) gives refused out_of_range
          ∷ plain (Block 0) gives accepted 1 0
          ∷ plain (Prepare 1 1 (Acc 0)) gives refused wrong_certificate
          ∷ plain (Store 1 0) gives refused wrong_certificate
          ∷ Decide 1 on (0 ∷ []) gives refused out_of_range
          ∷ [];
    }

abbrev pub stopped_ways : List Way
stopped_ways =
    one_slot_fewer ∷ no_block_slot ∷ proposed_there ∷ leader_outside ∷ at_the_limit ∷ not_live ∷ one_twice ∷ too_few ∷ []

-- ---- all of these

unfoldable pub WayOnCasesHold : Type 0
WayOnCasesHold =
    NumbersAre
    × All Can able
    × All Cannot unable
    × All Reached reached_ways
    × ReportsStand
    × All ByHand (found_before ∷ first_of_two ∷ [])
    × All Stopped stopped_ways
