-- Rows of the table of cases on whose turn it is. Document 02, #103: "The leader of view v is (v−1) mod n. View 0 has no leader".
use Rattle.std.specs.Prelude.{ℕ, List, [], ◌∷◌}
use Rattle.protocol.specs.declared.Call.TheVariants.{Open, Block, Prepare, Store, View, Accumulate}
use Rattle.protocol.specs.declared.Justification.TheVariants.{Acc, Commits}
use Rattle.protocol.specs.Memory.{Memory, Certificate, min_view_at, view_limit_at, ◌becomes◌, update}
use Rattle.protocol.specs.Certificates.{prop_of, commit_of, acc_of}
use Rattle.protocol.specs.Outcome.{wrong_certificate, wrong_view, counter_limit, accepted, refused}
use Rattle.protocol.specs.Runs.{run, plain, ◌on◌}
use Rattle.protocol.specs.cases.Rows.{Case, ◌gives◌}
use Rattle.protocol.specs.cases.Starts.{blank, with_block, holding, committed}

-- The turn goes round: on COMMITs of view 1 only replica 1 can propose, on those of view 2 replica 2, on those of view 3 replica 0.
abbrev pub turn_goes_round : Case
turn_goes_round =
    record {
      start = run committed (plain (Store 2 3) ∷ plain (Block 1) ∷ plain (Block 2) ∷ plain (Block 3) ∷ []);
      rows =
          Prepare 0 2 (Commits 1 1) on (4 ∷ 5 ∷ []) gives refused wrong_certificate
          ∷ Prepare 2 2 (Commits 1 1) on (4 ∷ 5 ∷ []) gives refused wrong_certificate
          ∷ Prepare 1 2 (Commits 1 1) on (4 ∷ 5 ∷ []) gives accepted 7 0
          ∷ plain (Store 0 7) gives accepted 8 0
          ∷ plain (Store 1 7) gives accepted 9 0
          ∷ plain (Store 2 7) gives accepted 10 0
          ∷ Prepare 0 3 (Commits 2 2) on (8 ∷ 9 ∷ []) gives refused wrong_certificate
          ∷ Prepare 1 3 (Commits 2 2) on (8 ∷ 9 ∷ []) gives refused wrong_certificate
          ∷ Prepare 2 3 (Commits 2 2) on (8 ∷ 9 ∷ []) gives accepted 11 0
          ∷ plain (Store 0 11) gives accepted 12 0
          ∷ plain (Store 1 11) gives accepted 13 0
          ∷ plain (Store 2 11) gives accepted 14 0
          ∷ Prepare 1 4 (Commits 3 3) on (12 ∷ 13 ∷ []) gives refused wrong_certificate
          ∷ Prepare 2 4 (Commits 3 3) on (12 ∷ 13 ∷ []) gives refused wrong_certificate
          ∷ Prepare 0 4 (Commits 3 3) on (12 ∷ 13 ∷ []) gives accepted 15 0
          ∷ [];
    }

-- Among five the last replica leads view 5, and replica 0 view 6. By document 01's rule view 5 was replica 0's: its own ACC does not help it.
abbrev pub turn_of_five : Case
turn_of_five =
    record {
      start = run (blank 2) (plain (Open 2) ∷ plain (Block 0) ∷ []);
      rows =
          plain (View 0 5) gives accepted 0 0
          ∷ plain (View 1 5) gives accepted 1 0
          ∷ plain (View 4 5) gives accepted 2 0
          ∷ Accumulate 0 on (0 ∷ 1 ∷ 2 ∷ []) gives accepted 3 0
          ∷ Accumulate 4 on (0 ∷ 1 ∷ 2 ∷ []) gives accepted 4 0
          ∷ plain (Prepare 0 1 (Acc 3)) gives refused wrong_certificate
          ∷ plain (Prepare 4 1 (Acc 4)) gives accepted 5 0
          ∷ plain (View 0 6) gives accepted 6 0
          ∷ plain (View 1 6) gives accepted 7 0
          ∷ plain (View 4 6) gives accepted 8 0
          ∷ Accumulate 0 on (6 ∷ 7 ∷ 8 ∷ []) gives accepted 9 0
          ∷ plain (Prepare 0 1 (Acc 9)) gives accepted 10 0
          ∷ [];
    }

-- No list of calls issues a certificate of view 0, so the rows below start with certificates put into the log by hand.

-- "View 0 has no leader, so a PROP of view 0 returns 5 at store." If its signer led it, the store would return 7, as view 0 is below every
-- lowest view.
abbrev pub view_zero_at_store : Case
view_zero_at_store =
    record {
      start = holding with_block (prop_of 0 0 0 1 ∷ prop_of 1 0 0 1 ∷ prop_of 2 0 0 1 ∷ []);
      rows =
          plain (Store 0 0) gives refused wrong_certificate
          ∷ plain (Store 0 1) gives refused wrong_certificate
          ∷ plain (Store 0 2) gives refused wrong_certificate
          ∷ [];
    }

-- Nor does anyone propose on an ACC of view 0.
abbrev pub view_zero_at_prepare : Case
view_zero_at_prepare =
    record {
      start = holding with_block (acc_of 0 0 0 0 0 ∷ acc_of 1 0 0 0 0 ∷ acc_of 2 0 0 0 0 ∷ []);
      rows =
          plain (Prepare 0 1 (Acc 0)) gives refused wrong_certificate
          ∷ plain (Prepare 1 1 (Acc 1)) gives refused wrong_certificate
          ∷ plain (Prepare 2 1 (Acc 2)) gives refused wrong_certificate
          ∷ [];
    }

-- COMMITs of view 0 justify view 1: "the founder, box 0, leads view 1."
abbrev pub commits_of_view_zero : Case
commits_of_view_zero =
    record {
      start = holding with_block (commit_of 1 0 0 0 ∷ commit_of 2 0 0 0 ∷ []);
      rows =
          Prepare 1 1 (Commits 0 0) on (0 ∷ 1 ∷ []) gives refused wrong_certificate
          ∷ Prepare 2 1 (Commits 0 0) on (0 ∷ 1 ∷ []) gives refused wrong_certificate
          ∷ Prepare 0 1 (Commits 0 0) on (0 ∷ 1 ∷ []) gives accepted 2 0
          ∷ plain (Store 1 2) gives accepted 3 0
          ∷ [];
    }

-- ACCs, PROPs and COMMITs of the counter's last views.
abbrev of_last_views : List Certificate
of_last_views =
    acc_of 2 0 999999 0 0
    ∷ acc_of 0 0 1000000 0 0
    ∷ acc_of 1 0 1000000 0 0
    ∷ acc_of 2 0 1000000 0 0
    ∷ prop_of 0 0 1000000 1
    ∷ prop_of 1 0 1000000 1
    ∷ prop_of 2 0 1000000 1
    ∷ commit_of 0 0 1000000 0
    ∷ commit_of 1 0 1000000 0
    ∷ []

-- The memory with a replica's lowest view set, and its limit at the counter's end.
abbrev late : Memory → ℕ → ℕ → Memory
late m i lowest = update m i (min_view_at becomes lowest ∷ view_limit_at becomes 1000000 ∷ [])

-- Replica 2 leads view 999,999, the last in which a block can be proposed and stored. Replica 0 leads view 1,000,000, which is below no
-- limit: 8. COMMITs of view 1,000,000 justify view 1,000,001, which replica 1 leads, and which is above every lowest view: 7.
abbrev pub last_views : Case
last_views =
    record {
      start = late (late (late (holding with_block of_last_views) 0 1000000) 1 1000000) 2 999999;
      rows =
          plain (Prepare 2 1 (Acc 0)) gives accepted 9 0
          ∷ plain (Store 2 9) gives accepted 10 0
          ∷ plain (Prepare 0 1 (Acc 1)) gives refused counter_limit
          ∷ plain (Prepare 1 1 (Acc 2)) gives refused wrong_certificate
          ∷ plain (Prepare 2 1 (Acc 3)) gives refused wrong_certificate
          ∷ plain (Store 0 4) gives refused counter_limit
          ∷ plain (Store 0 5) gives refused wrong_certificate
          ∷ plain (Store 0 6) gives refused wrong_certificate
          ∷ Prepare 0 1 (Commits 1000000 0) on (7 ∷ 8 ∷ []) gives refused wrong_certificate
          ∷ Prepare 1 1 (Commits 1000000 0) on (7 ∷ 8 ∷ []) gives refused wrong_view
          ∷ Prepare 2 1 (Commits 1000000 0) on (7 ∷ 8 ∷ []) gives refused wrong_certificate
          ∷ [];
    }

unfoldable pub turn_cases : List Case
turn_cases = turn_goes_round ∷ turn_of_five ∷ view_zero_at_store ∷ view_zero_at_prepare ∷ commits_of_view_zero ∷ last_views ∷ []
