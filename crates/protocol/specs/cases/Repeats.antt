-- Rows of the table of cases on issuing calls made again. Document 02, #102: "1 for a certificate found, 0 for one added."
use Rattle.std.specs.Prelude.{ℕ, List, [], ◌∷◌, ◌++◌, set}
use Rattle.protocol.specs.declared.Call.TheVariants.{Open, Block, Prepare, Store, View, Accumulate, Reboot, Request, Reply}
use Rattle.protocol.specs.declared.Call.TheVariants.{Recover}
use Rattle.protocol.specs.declared.Justification.TheVariants.{Acc, Commits}
use Rattle.protocol.specs.Memory.{certificate_count_at, min_view_at, flag_at, stored_view_at, stored_block_at, lowered, ◌becomes◌, update}
use Rattle.protocol.specs.Outcome.{wrong_view, accepted, refused}
use Rattle.protocol.specs.Runs.{run, plain, ◌on◌}
use Rattle.protocol.specs.cases.Rows.{Case, ◌gives◌}
use Rattle.protocol.specs.cases.Starts.{zeros, after_script, opened, accumulated, committed}

-- A View made again is found, also after other replicas' Views; one of another view or replica is added.
abbrev pub views_repeated : Case
views_repeated =
    record {
      start = opened;
      rows =
          plain (View 0 1) gives accepted 0 0
          ∷ plain (View 1 2) gives accepted 1 0
          ∷ plain (View 2 1) gives accepted 2 0
          ∷ plain (View 0 1) gives accepted 0 1
          ∷ plain (View 2 1) gives accepted 2 1
          ∷ plain (View 0 2) gives accepted 3 0
          ∷ [];
    }

-- An Accumulate made again is found, also from its list in another order; another replica's is added. A Block made again is another block:
-- it issues no certificate, and its second value stays 0.
abbrev pub accs_and_blocks_repeated : Case
accs_and_blocks_repeated =
    record {
      start = accumulated;
      rows =
          Accumulate 0 on (0 ∷ 1 ∷ []) gives accepted 2 1
          ∷ Accumulate 0 on (1 ∷ 0 ∷ []) gives accepted 2 1
          ∷ Accumulate 1 on (0 ∷ 1 ∷ []) gives accepted 3 0
          ∷ plain (Block 0) gives accepted 2 0
          ∷ [];
    }

-- A Request and a Reply made again are found. What is issued after a cut is added: the ACC, and the Request of the next boot.
abbrev pub requests_and_replies_repeated : Case
requests_and_replies_repeated =
    record {
      start = committed;
      rows =
          plain (Reboot 0) gives accepted 1 64
          ∷ plain (Request 0) gives accepted 6 0
          ∷ plain (Request 0) gives accepted 6 1
          ∷ plain (Reply 1 6) gives accepted 7 0
          ∷ plain (Reply 1 6) gives accepted 7 1
          ∷ plain (Reply 2 6) gives accepted 8 0
          ∷ Recover 0 on (7 ∷ 8 ∷ []) gives accepted 64 1
          ∷ Accumulate 0 on (0 ∷ 1 ∷ []) gives accepted 9 0
          ∷ plain (Reboot 0) gives accepted 2 128
          ∷ plain (Request 0) gives accepted 10 0
          ∷ [];
    }

-- The second value of a Recover is the view of what it brought back: with nothing stored it is 0.
abbrev pub nothing_stored : Case
nothing_stored =
    record {
      start = opened;
      rows =
          plain (Reboot 0) gives accepted 1 64
          ∷ plain (Request 0) gives accepted 0 0
          ∷ plain (Reply 1 0) gives accepted 1 0
          ∷ plain (Reply 2 0) gives accepted 2 0
          ∷ Recover 0 on (1 ∷ 2 ∷ []) gives accepted 64 0
          ∷ [];
    }

-- A Prepare or a Store made again is refused, and no list of calls leads to one that finds its certificate (`ProposalsNeverRepeat`,
-- `CommitsNeverRepeat` in specs/Repeats.antt). So the flag is lowered by hand, and the lowest and the stored view are set back. What is
-- found changes the replica's words as on a first issue: the next one is refused again.
abbrev pub proposal_repeated : Case
proposal_repeated =
    record {
      start = update (run accumulated (plain (Prepare 0 1 (Acc 2)) ∷ [])) 0 (flag_at becomes lowered ∷ []);
      rows =
          plain (Prepare 0 1 (Acc 2)) gives accepted 3 1
          ∷ plain (Prepare 0 1 (Acc 2)) gives refused wrong_view
          ∷ [];
    }

abbrev pub proposal_on_commits_repeated : Case
proposal_on_commits_repeated =
    let again = Prepare 1 2 (Commits 1 1) on (4 ∷ 5 ∷ []) in
    record {
      start = update (run committed (plain (Block 1) ∷ again ∷ [])) 1 (flag_at becomes lowered ∷ []);
      rows =
          again gives accepted 6 1
          ∷ again gives refused wrong_view
          ∷ [];
    }

abbrev pub commit_repeated : Case
commit_repeated =
    record {
      start = update committed 1 (stored_view_at becomes 0 ∷ min_view_at becomes 1 ∷ []);
      rows =
          plain (Store 1 3) gives accepted 5 1
          ∷ plain (Store 1 3) gives refused wrong_view
          ∷ [];
    }

-- A View, in a full log too, and a Reply also change the replica's words where they are found: the lowest view, set back by hand, rises
-- again.
abbrev pub found_in_a_full_log_raises : Case
found_in_a_full_log_raises =
    record {
      start = update (run (zeros 1 1 1) (plain (Open 1) ∷ plain (View 2 5) ∷ [])) 2 (min_view_at becomes 1 ∷ []);
      rows =
          plain (View 2 5) gives accepted 0 1
          ∷ plain (View 2 4) gives refused wrong_view
          ∷ [];
    }

abbrev pub found_reply_raises : Case
found_reply_raises =
    record {
      start = update (run after_script (plain (Request 1) ∷ plain (Reply 0 6) ∷ [])) 0 (min_view_at becomes 2 ∷ []);
      rows =
          plain (Reply 0 6) gives accepted 7 1
          ∷ plain (View 0 2) gives refused wrong_view
          ∷ [];
    }

-- "Equal now means equal in all eight" (document 02, #107), in the log's own words: kind (3 a NEWVIEW, 2 a COMMIT), signer, view, block,
-- of-view, subject, its boot, the signer's boot. Each of the first eight differs in one word from what replica 0 issues, the next two are
-- equal, and the eleventh, past the count, is just that.
abbrev nearly_equal : List ℕ
nearly_equal =
    (2 ∷ 0 ∷ 5 ∷ 1 ∷ 3 ∷ 0 ∷ 0 ∷ 0 ∷ [])
    ++ (3 ∷ 1 ∷ 5 ∷ 1 ∷ 3 ∷ 0 ∷ 0 ∷ 0 ∷ [])
    ++ (3 ∷ 0 ∷ 6 ∷ 1 ∷ 3 ∷ 0 ∷ 0 ∷ 0 ∷ [])
    ++ (3 ∷ 0 ∷ 5 ∷ 0 ∷ 3 ∷ 0 ∷ 0 ∷ 0 ∷ [])
    ++ (3 ∷ 0 ∷ 5 ∷ 1 ∷ 2 ∷ 0 ∷ 0 ∷ 0 ∷ [])
    ++ (3 ∷ 0 ∷ 5 ∷ 1 ∷ 3 ∷ 1 ∷ 0 ∷ 0 ∷ [])
    ++ (3 ∷ 0 ∷ 5 ∷ 1 ∷ 3 ∷ 0 ∷ 1 ∷ 0 ∷ [])
    ++ (3 ∷ 0 ∷ 5 ∷ 1 ∷ 3 ∷ 0 ∷ 0 ∷ 1 ∷ [])
    ++ (3 ∷ 2 ∷ 5 ∷ 0 ∷ 0 ∷ 0 ∷ 0 ∷ 0 ∷ [])
    ++ (3 ∷ 2 ∷ 5 ∷ 0 ∷ 0 ∷ 0 ∷ 0 ∷ 0 ∷ [])
    ++ (3 ∷ 0 ∷ 5 ∷ 1 ∷ 3 ∷ 0 ∷ 0 ∷ 0 ∷ [])

-- The first of two equal ones is found; where only one word differs the certificate is added.
abbrev pub equal_in_all_words : Case
equal_in_all_words =
    let stored =
    update (run (zeros 1 11 2) (plain (Open 1) ∷ plain (Block 0) ∷ [])) 0
    (min_view_at becomes 5 ∷ stored_view_at becomes 3 ∷ stored_block_at becomes 1 ∷ []) in
    record {
      start = record { table = set stored.table certificate_count_at 10; log = nearly_equal; blocks = stored.blocks };
      rows =
          plain (View 2 5) gives accepted 8 1
          ∷ plain (View 0 5) gives accepted 10 0
          ∷ plain (View 0 5) gives accepted 10 1
          ∷ [];
    }

unfoldable pub repeat_cases : List Case
repeat_cases =
    views_repeated
    ∷ accs_and_blocks_repeated
    ∷ requests_and_replies_repeated
    ∷ nothing_stored
    ∷ proposal_repeated
    ∷ proposal_on_commits_repeated
    ∷ commit_repeated
    ∷ found_in_a_full_log_raises
    ∷ found_reply_raises
    ∷ equal_in_all_words
    ∷ []
