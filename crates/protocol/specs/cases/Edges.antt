-- Rows of the table of cases that document 01 marks P ("Edges"), and some beside them.
use Rattle.std.specs.Prelude.{List, [], ◌∷◌}
use Rattle.protocol.specs.declared.Call.TheVariants.{Open, Block, Prepare, Store, View, Decide, Reboot, Reserve, Request}
use Rattle.protocol.specs.declared.Call.TheVariants.{Reply, Recover}
use Rattle.protocol.specs.declared.Justification.TheVariants.{Acc, Commits}
use Rattle.protocol.specs.Memory.{boot_at, view_limit_at, ◌becomes◌, update}
use Rattle.protocol.specs.Outcome.{wrong_form, out_of_range, wrong_status, wrong_certificate, wrong_block, wrong_view}
use Rattle.protocol.specs.Outcome.{counter_limit, no_room, accepted, refused}
use Rattle.protocol.specs.Runs.{run, plain, ◌on◌}
use Rattle.protocol.specs.cases.Rows.{Case, ◌gives◌}
use Rattle.protocol.specs.cases.Starts.{zeros, blank, script, after_script, opened, accumulated, committed}

-- "P: the script above."
abbrev pub worked_script : Case
worked_script = record { start = blank 1; rows = script }

-- "P: after it, request on 1 gives certificate 6, replies by 0 and 2 give 7 and 8, recover gives 64, 1. P: then View(0, 64) returns
-- 8; after reserve it passes."
abbrev pub recovery_after_it : Case
recovery_after_it =
    record {
      start = after_script;
      rows =
          plain (Request 1) gives accepted 6 0
          ∷ plain (Reply 0 6) gives accepted 7 0
          ∷ plain (Reply 2 6) gives accepted 8 0
          ∷ Recover 1 on (7 ∷ 8 ∷ []) gives accepted 64 1
          ∷ plain (View 0 64) gives refused counter_limit
          ∷ plain (Reserve 0) gives accepted 128 0
          ∷ plain (View 0 64) gives accepted 9 0
          ∷ [];
    }

-- "Mistakes to rule out: [..] replies taken from an earlier boot". The same replies, to a replica of the next boot that is recovering
-- at the same view: no list of calls leads there, so its boot is set by hand.
abbrev pub replies_of_an_earlier_boot : Case
replies_of_an_earlier_boot =
    record {
      start = update (run after_script (plain (Request 1) ∷ plain (Reply 0 6) ∷ plain (Reply 2 6) ∷ [])) 1 (boot_at becomes 2 ∷ []);
      rows = Recover 1 on (7 ∷ 8 ∷ []) gives refused wrong_certificate ∷ [];
    }

-- "P: f 0 and 31 return 2, 1 and 30 pass."
abbrev pub no_faults : Case
no_faults = record { start = blank 0; rows = plain (Open 0) gives refused out_of_range ∷ [] }

abbrev pub faults_above_the_most : Case
faults_above_the_most = record { start = blank 31; rows = plain (Open 31) gives refused out_of_range ∷ [] }

-- "Opening tests f before lengths."
abbrev pub faults_before_lengths : Case
faults_before_lengths =
    record {
      start = blank 1;
      rows =
          plain (Open 31) gives refused out_of_range
          ∷ plain (Open 2) gives refused wrong_form
          ∷ [];
    }

abbrev pub one_fault : Case
one_fault = record { start = blank 1; rows = plain (Open 1) gives accepted 3 0 ∷ [] }

abbrev pub thirty_faults : Case
thirty_faults = record { start = blank 30; rows = plain (Open 30) gives accepted 61 0 ∷ [] }

-- "P: fresh, View 63 passes, 64 returns 8."
abbrev pub fresh_view63 : Case
fresh_view63 = record { start = opened; rows = plain (View 0 63) gives accepted 0 0 ∷ [] }

abbrev pub fresh_view64 : Case
fresh_view64 = record { start = opened; rows = plain (View 0 64) gives refused counter_limit ∷ [] }

-- "P: a list naming one commit twice, 5."
abbrev pub one_commit_twice : Case
one_commit_twice =
    record {
      start = committed;
      rows =
          Decide 0 on (4 ∷ 4 ∷ []) gives refused wrong_certificate
          ∷ Prepare 1 1 (Commits 1 1) on (4 ∷ 4 ∷ []) gives refused wrong_certificate
          ∷ [];
    }

-- Commits justify a proposal of the view above theirs, once that is the leader's lowest view, and only if the call claims just their block.
-- The proposal can then be decided.
abbrev pub commits_justify : Case
commits_justify =
    record {
      start = committed;
      rows =
          plain (Block 1) gives accepted 2 0
          ∷ Prepare 1 2 (Commits 1 1) on (4 ∷ 5 ∷ []) gives accepted 6 0
          ∷ Prepare 1 2 (Commits 1 0) on (4 ∷ 5 ∷ []) gives refused wrong_certificate
          ∷ plain (Store 0 6) gives accepted 7 0
          ∷ plain (Store 2 6) gives accepted 8 0
          ∷ Decide 0 on (7 ∷ 8 ∷ []) gives accepted 2 2
          ∷ [];
    }

-- "P: block 0 on a ground of block 0, 6."
abbrev pub block_zero_proposed : Case
block_zero_proposed = record { start = accumulated; rows = plain (Prepare 0 0 (Acc 2)) gives refused wrong_block ∷ [] }

-- "P: second prepare in a view, 7."
abbrev pub second_proposal_in_a_view : Case
second_proposal_in_a_view =
    record {
      start = accumulated;
      rows =
          plain (Prepare 0 1 (Acc 2)) gives accepted 3 0
          ∷ plain (Prepare 0 1 (Acc 2)) gives refused wrong_view
          ∷ plain (Block 0) gives accepted 2 0
          ∷ plain (Prepare 0 2 (Acc 2)) gives refused wrong_view
          ∷ [];
    }

-- "P: a full book still answers a repeated View with its old number." And with 1, by document 02, #102: "01's cases with a repeat follow."
abbrev pub full_log : Case
full_log =
    record {
      start = zeros 1 1 1;
      rows =
          plain (Open 1) gives accepted 3 0
          ∷ plain (View 2 5) gives accepted 0 0
          ∷ plain (View 1 5) gives refused no_room
          ∷ plain (View 2 5) gives accepted 0 1
          ∷ [];
    }

-- "P: at boot 0 and bound 999,936 a reserve gives 1,000,000, the next returns 8, a reboot then gives spent." A
-- reboot that retires answers the old boot and low; a retired replica's reboot answers them again, and its reserve 4.
abbrev pub counter_ends : Case
counter_ends =
    record {
      start = update opened 0 (view_limit_at becomes 999936 ∷ []);
      rows =
          plain (Reserve 0) gives accepted 1000000 0
          ∷ plain (Reserve 0) gives refused counter_limit
          ∷ plain (Reboot 0) gives accepted 0 1
          ∷ plain (Reboot 0) gives accepted 0 1
          ∷ plain (Reserve 0) gives refused wrong_status
          ∷ [];
    }

unfoldable pub edge_cases : List Case
edge_cases =
    worked_script
    ∷ recovery_after_it
    ∷ replies_of_an_earlier_boot
    ∷ no_faults
    ∷ faults_above_the_most
    ∷ faults_before_lengths
    ∷ one_fault
    ∷ thirty_faults
    ∷ fresh_view63
    ∷ fresh_view64
    ∷ one_commit_twice
    ∷ commits_justify
    ∷ block_zero_proposed
    ∷ second_proposal_in_a_view
    ∷ full_log
    ∷ counter_ends
    ∷ []
