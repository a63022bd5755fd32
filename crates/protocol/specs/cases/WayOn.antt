-- Worked ways on (document 02, #109): the calls with their answers, after an opening and some calls, and on memories made by hand.
use Rattle.std.specs.Prelude.{◌≡◌, List, [], ◌∷◌, ◌++◌, map, replicate}
use Rattle.protocol.specs.declared.Call.TheVariants.{Open, Block, Prepare, Store, View, Accumulate, Decide, Reboot, Reserve, Request}
use Rattle.protocol.specs.declared.Call.TheVariants.{Reply, Recover}
use Rattle.protocol.specs.declared.Justification.TheVariants.{Acc}
use Rattle.protocol.specs.Memory.{Memory, memory, words}
use Rattle.protocol.specs.Certificates.{new_view_of, acc_of, number_for}
use Rattle.protocol.specs.Outcome.{accepted}
use Rattle.protocol.specs.Runs.{plain, ◌on◌, run}
use Rattle.protocol.specs.Theorems.{table_word}
use Rattle.protocol.specs.WayOn.{way_on, report, numbered_calls, numbered_answers}
use Rattle.protocol.specs.cases.Rows.{Row, ◌gives◌, ◌reads◌, invocation_of, answer_of, RowsHold, overwritten}
use Rattle.protocol.specs.cases.Starts.{zeros, after_script, holding}
use Rattle.protocol.specs.cases.Choices.{Choice, choice, Can, Cannot, fresh, roomy, decided_once}

-- ---- what a case says

-- A choice, and its calls with their answers.
pub record Way : Type 0 where
  pub chosen : Choice
  pub rows : List Row

-- The way on is these calls, and they are answered so.
unfoldable pub GoesBy : Way → Type 0
GoesBy x =
    let c = x.chosen in
    (way_on c.start c.replicas c.view ≡ map invocation_of x.rows) × RowsHold c.start x.rows

-- Calls and answers are those that the counts tell.
unfoldable pub CountsTell : Way → Type 0
CountsTell x =
    let c = x.chosen in
    (numbered_calls c.start c.replicas c.view ≡ map invocation_of x.rows)
    × (numbered_answers c.start c.view ≡ map answer_of x.rows)

-- After an opening and some calls; on a memory made by hand; and where something does not last.
abbrev pub Reached : Way → Type 0
Reached x = Can x.chosen × GoesBy x × CountsTell x

abbrev pub ByHand : Way → Type 0
ByHand x = Can x.chosen × GoesBy x

abbrev pub Stopped : Way → Type 0
Stopped x = Cannot x.chosen × GoesBy x

-- ---- the calls

abbrev pub at_once : Way
at_once =
    record {
      chosen = choice (fresh 6 2) (0 ∷ 1 ∷ []) 2;
      rows =
          plain (View 0 2) gives accepted 0 0
          ∷ plain (View 1 2) gives accepted 1 0
          ∷ Accumulate 1 on (0 ∷ 1 ∷ []) gives accepted 2 0
          ∷ plain (Block 0) gives accepted 1 0
          ∷ plain (Prepare 1 1 (Acc 2)) gives accepted 3 0
          ∷ plain (Store 0 3) gives accepted 4 0
          ∷ plain (Store 1 3) gives accepted 5 0
          ∷ Decide 1 on (4 ∷ 5 ∷ []) gives accepted 1 2
          ∷ [];
    }

-- A second decision after it, by a replica that has stored nothing and one that has: the new block is on the stored one, in both orders.
abbrev pub on_stored : Way
on_stored =
    record {
      chosen = choice (decided_once 12 3) (2 ∷ 1 ∷ []) 5;
      rows =
          plain (View 2 5) gives accepted 6 0
          ∷ plain (View 1 5) gives accepted 7 0
          ∷ Accumulate 1 on (6 ∷ 7 ∷ []) gives accepted 8 0
          ∷ plain (Block 1) gives accepted 2 0
          ∷ plain (Prepare 1 2 (Acc 8)) gives accepted 9 0
          ∷ plain (Store 2 9) gives accepted 10 0
          ∷ plain (Store 1 9) gives accepted 11 0
          ∷ Decide 1 on (10 ∷ 11 ∷ []) gives accepted 2 5
          ∷ [];
    }

abbrev pub on_stored_first : Way
on_stored_first =
    record {
      chosen = choice (decided_once 12 3) (1 ∷ 2 ∷ []) 5;
      rows =
          plain (View 1 5) gives accepted 6 0
          ∷ plain (View 2 5) gives accepted 7 0
          ∷ Accumulate 1 on (6 ∷ 7 ∷ []) gives accepted 8 0
          ∷ plain (Block 1) gives accepted 2 0
          ∷ plain (Prepare 1 2 (Acc 8)) gives accepted 9 0
          ∷ plain (Store 1 9) gives accepted 10 0
          ∷ plain (Store 2 9) gives accepted 11 0
          ∷ Decide 1 on (10 ∷ 11 ∷ []) gives accepted 2 5
          ∷ [];
    }

-- For f = 1, after a cut and a recovery: replica 1 lost its power with block 1 stored and took it back from the replies. Those who replied
-- stand at their limits; one of them reserves.
abbrev recovered : Memory
recovered =
    run after_script
    (plain (Request 1) ∷ plain (Reply 0 6) ∷ plain (Reply 2 6) ∷ Recover 1 on (7 ∷ 8 ∷ []) ∷ plain (Reserve 0) ∷ [])

abbrev pub after_recovery : Way
after_recovery =
    record {
      chosen = choice recovered (0 ∷ 1 ∷ []) 65;
      rows =
          plain (View 0 65) gives accepted 9 0
          ∷ plain (View 1 65) gives accepted 10 0
          ∷ Accumulate 1 on (9 ∷ 10 ∷ []) gives accepted 11 0
          ∷ plain (Block 1) gives accepted 2 0
          ∷ plain (Prepare 1 2 (Acc 11)) gives accepted 12 0
          ∷ plain (Store 0 12) gives accepted 13 0
          ∷ plain (Store 1 12) gives accepted 14 0
          ∷ Decide 1 on (13 ∷ 14 ∷ []) gives accepted 2 65
          ∷ [];
    }

-- For f = 2, after all that might wedge it: replica 0 has proposed block 1 in view 1 and replica 1 block 2 in view 2, and both flags are
-- raised; only replica 1 has stored block 1, and nothing is decided; replica 4 has left for view 7; replica 2 lost its power and is recovering.
abbrev wedged : Memory
wedged =
    run (zeros 2 20 4)
    (plain (Open 2)
    ∷ plain (View 0 1)
    ∷ plain (View 1 1)
    ∷ plain (View 2 1)
    ∷ Accumulate 0 on (0 ∷ 1 ∷ 2 ∷ [])
    ∷ plain (Block 0)
    ∷ plain (Prepare 0 1 (Acc 3))
    ∷ plain (Store 1 4)
    ∷ plain (View 1 2)
    ∷ plain (View 2 2)
    ∷ plain (View 3 2)
    ∷ Accumulate 1 on (6 ∷ 7 ∷ 8 ∷ [])
    ∷ plain (Block 1)
    ∷ plain (Prepare 1 2 (Acc 9))
    ∷ plain (Reboot 2)
    ∷ plain (View 4 7)
    ∷ [])

abbrev pub after_wedge : Way
after_wedge =
    record {
      chosen = choice wedged (3 ∷ 1 ∷ 0 ∷ []) 4;
      rows =
          plain (View 3 4) gives accepted 12 0
          ∷ plain (View 1 4) gives accepted 13 0
          ∷ plain (View 0 4) gives accepted 14 0
          ∷ Accumulate 3 on (12 ∷ 13 ∷ 14 ∷ []) gives accepted 15 0
          ∷ plain (Block 1) gives accepted 3 0
          ∷ plain (Prepare 3 3 (Acc 15)) gives accepted 16 0
          ∷ plain (Store 3 16) gives accepted 17 0
          ∷ plain (Store 1 16) gives accepted 18 0
          ∷ plain (Store 0 16) gives accepted 19 0
          ∷ Decide 3 on (17 ∷ 18 ∷ 19 ∷ []) gives accepted 3 4
          ∷ [];
    }

abbrev pub reached_ways : List Way
reached_ways = at_once ∷ on_stored ∷ on_stored_first ∷ after_recovery ∷ after_wedge ∷ []

-- The NEWVIEW that a replica is said to issue is the one that stands in the log then, here of a replica at boot 1.
abbrev pub ReportsStand : Type 0
ReportsStand = number_for (run recovered (plain (View 1 65) ∷ [])) (words (report recovered 65 1)) ≡ 9

-- ---- on memory made by hand

-- NEWVIEWs and ACC of view 2 stand in the log already: they are found, under the numbers that they have.
abbrev pub found_before : Way
found_before =
    record {
      chosen = choice (holding (fresh 9 2) (acc_of 1 0 2 0 0 ∷ new_view_of 1 0 2 0 0 ∷ new_view_of 0 0 2 0 0 ∷ [])) (0 ∷ 1 ∷ []) 2;
      rows =
          plain (View 0 2) gives accepted 2 1
          ∷ plain (View 1 2) gives accepted 1 1
          ∷ Accumulate 1 on (2 ∷ 1 ∷ []) gives accepted 0 1
          ∷ plain (Block 0) gives accepted 1 0
          ∷ plain (Prepare 1 1 (Acc 0)) gives accepted 3 0
          ∷ plain (Store 0 3) gives accepted 4 0
          ∷ plain (Store 1 3) gives accepted 5 0
          ∷ Decide 1 on (4 ∷ 5 ∷ []) gives accepted 1 2
          ∷ [];
    }

-- Replicas 0 and 1 have stored in view 3, the one block 1 and the other block 2: the first of the list counts.
abbrev two_stored : Memory
two_stored =
    overwritten (roomy (plain (Block 0) ∷ plain (Block 0) ∷ []))
    (table_word 13 reads (4 ∷ []) ∷ table_word 16 reads (3 ∷ 1 ∷ []) ∷ table_word 22 reads (4 ∷ []) ∷ table_word 25 reads (3 ∷ 2 ∷ []) ∷ [])

abbrev one_more_slot : Memory → Memory
one_more_slot m = memory m.table m.log (m.blocks ++ replicate 2 0)

abbrev pub first_of_two : Way
first_of_two =
    record {
      chosen = choice (one_more_slot two_stored) (0 ∷ 1 ∷ []) 5;
      rows =
          plain (View 0 5) gives accepted 0 0
          ∷ plain (View 1 5) gives accepted 1 0
          ∷ Accumulate 1 on (0 ∷ 1 ∷ []) gives accepted 2 0
          ∷ plain (Block 1) gives accepted 3 0
          ∷ plain (Prepare 1 3 (Acc 2)) gives accepted 3 0
          ∷ plain (Store 0 3) gives accepted 4 0
          ∷ plain (Store 1 3) gives accepted 5 0
          ∷ Decide 1 on (4 ∷ 5 ∷ []) gives accepted 3 5
          ∷ [];
    }
