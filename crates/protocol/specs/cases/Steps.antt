-- Rows of the table of cases on a pool's own steps (document 02, #104).
use Rattle.std.specs.Prelude.{ℕ, List, [], ◌∷◌, ◌++◌, map, replicate}
use Rattle.protocol.specs.declared.Call.TheVariants.{Open, Block, Prepare, Store, View, Accumulate, Decide, Reboot}
use Rattle.protocol.specs.declared.Call.TheVariants.{Reserve, Request, Reply, Recover}
use Rattle.protocol.specs.declared.Justification.TheVariants.{Acc}
use Rattle.protocol.specs.Memory.{Memory, view_limit_at, ◌becomes◌, update}
use Rattle.protocol.specs.Outcome.{wrong_form, out_of_range, wrong_status, counter_limit, wrong_steps, accepted, refused}
use Rattle.protocol.specs.Runs.{plain, ◌on◌}
use Rattle.protocol.specs.cases.Rows.{Case, ◌gives◌}
use Rattle.protocol.specs.cases.Starts.{blank, from}

-- ---- lists beside an opening

abbrev pub own : List ℕ
own = 2 ∷ 3 ∷ 5 ∷ 7 ∷ 11 ∷ 13 ∷ 17 ∷ 19 ∷ []

-- Each pair of neighbours falls in one of these.
abbrev pub falling : List (List ℕ)
falling =
    (3 ∷ 2 ∷ 5 ∷ 7 ∷ 11 ∷ 13 ∷ 17 ∷ 19 ∷ [])
    ∷ (2 ∷ 5 ∷ 3 ∷ 7 ∷ 11 ∷ 13 ∷ 17 ∷ 19 ∷ [])
    ∷ (2 ∷ 3 ∷ 7 ∷ 5 ∷ 11 ∷ 13 ∷ 17 ∷ 19 ∷ [])
    ∷ (2 ∷ 3 ∷ 5 ∷ 11 ∷ 7 ∷ 13 ∷ 17 ∷ 19 ∷ [])
    ∷ (2 ∷ 3 ∷ 5 ∷ 7 ∷ 13 ∷ 11 ∷ 17 ∷ 19 ∷ [])
    ∷ (2 ∷ 3 ∷ 5 ∷ 7 ∷ 11 ∷ 17 ∷ 13 ∷ 19 ∷ [])
    ∷ (2 ∷ 3 ∷ 5 ∷ 7 ∷ 11 ∷ 13 ∷ 19 ∷ 17 ∷ [])
    ∷ []

-- A first step of 0, a last of 4,097, eight of 0; one, six, seven, nine, sixteen and thirty-one steps.
abbrev pub broken : List (List ℕ)
broken =
    (0 ∷ 3 ∷ 5 ∷ 7 ∷ 11 ∷ 13 ∷ 17 ∷ 19 ∷ [])
    ∷ (2 ∷ 3 ∷ 5 ∷ 7 ∷ 11 ∷ 13 ∷ 17 ∷ 4097 ∷ [])
    ∷ replicate 8 0
    ∷ replicate 1 5
    ∷ replicate 6 5
    ∷ replicate 7 5
    ∷ replicate 9 5
    ∷ replicate 16 5
    ∷ replicate 31 5
    ∷ falling

abbrev pub opened_with : List ℕ → Memory
opened_with steps = from (Open 1 on steps ∷ [])

-- ---- the counter

-- "The first bound is the first step." Replica 0 then reserves from 2 by 2, is cut at 4, and goes on from 7 by 3; replica 1 is cut at 2.
abbrev pub own_steps : Case
own_steps =
    record {
      start = blank 1;
      rows =
          Open 1 on own gives accepted 3 0
          ∷ plain (View 0 1) gives accepted 0 0
          ∷ plain (View 0 2) gives refused counter_limit
          ∷ plain (Reserve 0) gives accepted 4 0
          ∷ plain (View 0 3) gives accepted 1 0
          ∷ plain (Reboot 0) gives accepted 1 4
          ∷ plain (Reserve 0) gives accepted 10 0
          ∷ plain (View 1 2) gives refused counter_limit
          ∷ plain (Reboot 1) gives accepted 1 2
          ∷ plain (Reserve 1) gives accepted 8 0
          ∷ plain (Reserve 2) gives accepted 4 0
          ∷ [];
    }

-- The least steps: the lowest view, 1, is the limit too, until a reserve.
abbrev pub steps_of_one : Case
steps_of_one =
    record {
      start = blank 1;
      rows =
          Open 1 on replicate 8 1 gives accepted 3 0
          ∷ plain (View 0 1) gives refused counter_limit
          ∷ plain (Reserve 0) gives accepted 2 0
          ∷ plain (View 0 1) gives accepted 0 0
          ∷ plain (View 0 2) gives refused counter_limit
          ∷ [];
    }

-- The largest.
abbrev pub largest_steps : Case
largest_steps =
    record {
      start = blank 1;
      rows =
          Open 1 on replicate 8 4096 gives accepted 3 0
          ∷ plain (View 0 4095) gives accepted 0 0
          ∷ plain (View 0 4096) gives refused counter_limit
          ∷ plain (Reserve 0) gives accepted 8192 0
          ∷ plain (Reboot 0) gives accepted 1 8192
          ∷ [];
    }

-- "later boots use the last": the cuts to boots 7, 8 and 9, and the reserve then, move the limit by 8.
abbrev pub reboots_past_the_last : Case
reboots_past_the_last =
    record {
      start = blank 1;
      rows =
          Open 1 on (1 ∷ 2 ∷ 3 ∷ 4 ∷ 5 ∷ 6 ∷ 7 ∷ 8 ∷ []) gives accepted 3 0
          ∷ plain (Reboot 0) gives accepted 1 1
          ∷ plain (Reboot 0) gives accepted 2 3
          ∷ plain (Reboot 0) gives accepted 3 6
          ∷ plain (Reboot 0) gives accepted 4 10
          ∷ plain (Reboot 0) gives accepted 5 15
          ∷ plain (Reboot 0) gives accepted 6 21
          ∷ plain (Reboot 0) gives accepted 7 28
          ∷ plain (Reboot 0) gives accepted 8 36
          ∷ plain (Reboot 0) gives accepted 9 44
          ∷ plain (Reserve 0) gives accepted 60 0
          ∷ [];
    }

-- A step past 1,000,000, and one just to it.
abbrev pub own_steps_to_the_end : Case
own_steps_to_the_end =
    record {
      start = update (update (opened_with (replicate 8 4096)) 0 (view_limit_at becomes 995905 ∷ [])) 1 (view_limit_at becomes 995904 ∷ []);
      rows =
          plain (Reserve 0) gives refused counter_limit
          ∷ plain (Reboot 0) gives accepted 0 1
          ∷ plain (Reserve 0) gives refused wrong_status
          ∷ plain (Reboot 1) gives accepted 1 995904
          ∷ plain (Reserve 1) gives refused counter_limit
          ∷ [];
    }

-- With small steps a REQ may be above the limit of who is to reply,
abbrev pub reply_near_the_limit : Case
reply_near_the_limit =
    record {
      start = opened_with own;
      rows =
          plain (Reserve 0) gives accepted 4 0
          ∷ plain (Reboot 0) gives accepted 1 4
          ∷ plain (Request 0) gives accepted 0 0
          ∷ plain (Reply 1 0) gives refused counter_limit
          ∷ plain (Reserve 1) gives accepted 4 0
          ∷ plain (Reply 1 0) gives accepted 1 0
          ∷ [];
    }

-- and what others stored above the limit of who recovers.
abbrev pub recover_near_the_limit : Case
recover_near_the_limit =
    record {
      start = opened_with (replicate 8 1);
      rows =
          plain (Reserve 0) gives accepted 2 0
          ∷ plain (Reserve 0) gives accepted 3 0
          ∷ plain (Reserve 0) gives accepted 4 0
          ∷ plain (Reserve 0) gives accepted 5 0
          ∷ plain (Reserve 2) gives accepted 2 0
          ∷ plain (Reserve 2) gives accepted 3 0
          ∷ plain (Reserve 2) gives accepted 4 0
          ∷ plain (Reserve 2) gives accepted 5 0
          ∷ plain (View 0 4) gives accepted 0 0
          ∷ plain (View 2 4) gives accepted 1 0
          ∷ Accumulate 0 on (0 ∷ 1 ∷ []) gives accepted 2 0
          ∷ plain (Block 0) gives accepted 1 0
          ∷ plain (Prepare 0 1 (Acc 2)) gives accepted 3 0
          ∷ plain (Store 0 3) gives accepted 4 0
          ∷ plain (Reboot 1) gives accepted 1 1
          ∷ plain (Request 1) gives accepted 5 0
          ∷ plain (Reply 0 5) gives accepted 6 0
          ∷ plain (Reply 2 5) gives accepted 7 0
          ∷ Recover 1 on (6 ∷ 7 ∷ []) gives refused counter_limit
          ∷ plain (Reserve 1) gives accepted 3 0
          ∷ plain (Reserve 1) gives accepted 4 0
          ∷ plain (Reserve 1) gives accepted 5 0
          ∷ Recover 1 on (6 ∷ 7 ∷ []) gives accepted 5 4
          ∷ [];
    }

-- Document 01's script up to its decision, then the recovery and a reserve as it has them: what differs are the views that the counter sets,
-- 2 for 64.
abbrev pub script_with_own_steps : Case
script_with_own_steps =
    record {
      start = blank 1;
      rows =
          Open 1 on own gives accepted 3 0
          ∷ plain (View 0 1) gives accepted 0 0
          ∷ plain (View 1 1) gives accepted 1 0
          ∷ Accumulate 0 on (0 ∷ 1 ∷ []) gives accepted 2 0
          ∷ plain (Block 0) gives accepted 1 0
          ∷ plain (Prepare 0 1 (Acc 2)) gives accepted 3 0
          ∷ plain (Store 0 3) gives accepted 4 0
          ∷ plain (Reboot 1) gives accepted 1 2
          ∷ plain (Store 1 3) gives refused wrong_status
          ∷ plain (Store 2 3) gives accepted 5 0
          ∷ Decide 0 on (4 ∷ 5 ∷ []) gives accepted 1 1
          ∷ plain (Request 1) gives accepted 6 0
          ∷ plain (Reply 0 6) gives accepted 7 0
          ∷ plain (Reply 2 6) gives accepted 8 0
          ∷ Recover 1 on (7 ∷ 8 ∷ []) gives accepted 2 1
          ∷ plain (View 0 2) gives refused counter_limit
          ∷ plain (Reserve 0) gives accepted 4 0
          ∷ plain (View 0 2) gives accepted 9 0
          ∷ [];
    }

-- ---- openings

-- "12 for steps that break these rules or aren't eight". Nothing is opened.
abbrev pub broken_steps : Case
broken_steps =
    record {
      start = blank 1;
      rows = map (λ (steps : List ℕ). Open 1 on steps gives refused wrong_steps) broken ++ (plain (View 0 1) gives refused wrong_form ∷ []);
    }

-- "after opening's 2 and before its 1"
abbrev pub steps_between_faults_and_lengths : Case
steps_between_faults_and_lengths =
    record {
      start = blank 1;
      rows =
          Open 0 on replicate 7 5 gives refused out_of_range
          ∷ Open 31 on replicate 7 5 gives refused out_of_range
          ∷ Open 2 on replicate 7 5 gives refused wrong_steps
          ∷ Open 31 on (3 ∷ 2 ∷ 5 ∷ 7 ∷ 11 ∷ 13 ∷ 17 ∷ 19 ∷ []) gives refused out_of_range
          ∷ Open 2 on (3 ∷ 2 ∷ 5 ∷ 7 ∷ 11 ∷ 13 ∷ 17 ∷ 19 ∷ []) gives refused wrong_steps
          ∷ Open 2 on own gives refused wrong_form
          ∷ Open 1 on own gives accepted 3 0
          ∷ [];
    }

-- A refused opening leaves the steps.
abbrev pub refused_opening_leaves_steps : Case
refused_opening_leaves_steps =
    record {
      start = opened_with own;
      rows =
          Open 1 on (5 ∷ 5 ∷ 5 ∷ 5 ∷ 5 ∷ 5 ∷ 5 ∷ 4 ∷ []) gives refused wrong_steps
          ∷ Open 0 on replicate 8 5 gives refused out_of_range
          ∷ Open 2 on replicate 8 5 gives refused wrong_form
          ∷ plain (Open 2) gives refused wrong_form
          ∷ plain (Reserve 0) gives accepted 4 0
          ∷ plain (Reboot 0) gives accepted 1 4
          ∷ plain (Reserve 0) gives accepted 10 0
          ∷ [];
    }

-- "Opening without steps [..] writes the eight of 01", over a pool's own too.
abbrev pub opened_again_without_steps : Case
opened_again_without_steps =
    record {
      start = opened_with own;
      rows =
          plain (Open 1) gives accepted 3 0
          ∷ plain (Reboot 0) gives accepted 1 64
          ∷ plain (Reboot 0) gives accepted 2 128
          ∷ plain (Reboot 0) gives accepted 3 256
          ∷ plain (Reboot 0) gives accepted 4 384
          ∷ plain (Reboot 0) gives accepted 5 640
          ∷ plain (Reboot 0) gives accepted 6 896
          ∷ plain (Reboot 0) gives accepted 7 1408
          ∷ plain (Reboot 0) gives accepted 8 2432
          ∷ plain (Reserve 0) gives accepted 4480 0
          ∷ [];
    }

unfoldable pub step_cases : List Case
step_cases =
    own_steps
    ∷ steps_of_one
    ∷ largest_steps
    ∷ reboots_past_the_last
    ∷ own_steps_to_the_end
    ∷ reply_near_the_limit
    ∷ recover_near_the_limit
    ∷ script_with_own_steps
    ∷ broken_steps
    ∷ steps_between_faults_and_lengths
    ∷ refused_opening_leaves_steps
    ∷ opened_again_without_steps
    ∷ []
