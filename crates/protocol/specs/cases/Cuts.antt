-- Rows of the table of cases on certificates before and after a cut. Document 02, #107: "A certificate before a cut isn't the one after it."
use Rattle.std.specs.Prelude.{ℕ, List, [], ◌∷◌, ◌++◌, map, replicate}
use Rattle.protocol.specs.declared.Call.TheVariants.{Open, Prepare, Store, View, Accumulate, Decide, Reboot}
use Rattle.protocol.specs.declared.Call.TheVariants.{Reserve, Request, Reply, Recover}
use Rattle.protocol.specs.declared.Justification.TheVariants.{Acc, Commits}
use Rattle.protocol.specs.Memory.{Memory, Certificate, memory, boot_at, ◌becomes◌, update}
use Rattle.protocol.specs.Certificates.{REQ, prop_of, commit_of, new_view_of, acc_of, req_of, reply_of}
use Rattle.protocol.specs.Outcome.{wrong_form, wrong_certificate, wrong_block, wrong_view, accepted, refused}
use Rattle.protocol.specs.Runs.{run, plain, ◌on◌}
use Rattle.protocol.specs.cases.Rows.{Case, ◌gives◌}
use Rattle.protocol.specs.cases.Starts.{blank, with_block, holding, every_call_refused}

-- "An ACC made again after a restart is found in the book today and passes as the old one." Now it gets a number of its own. No call tests
-- the new word: a Prepare takes the ACC from before the cut.
abbrev pub acc_after_a_cut : Case
acc_after_a_cut =
    record {
      start = with_block;
      rows =
          plain (Reserve 1) gives accepted 128 0
          ∷ plain (Reserve 2) gives accepted 128 0
          ∷ plain (View 1 64) gives accepted 0 0
          ∷ plain (View 2 64) gives accepted 1 0
          ∷ Accumulate 0 on (0 ∷ 1 ∷ []) gives accepted 2 0
          ∷ Accumulate 0 on (0 ∷ 1 ∷ []) gives accepted 2 1
          ∷ plain (Reboot 0) gives accepted 1 64
          ∷ plain (Request 0) gives accepted 3 0
          ∷ plain (Reply 1 3) gives accepted 4 0
          ∷ plain (Reply 2 3) gives accepted 5 0
          ∷ Recover 0 on (4 ∷ 5 ∷ []) gives accepted 64 0
          ∷ Accumulate 0 on (0 ∷ 1 ∷ []) gives accepted 6 0
          ∷ Accumulate 0 on (0 ∷ 1 ∷ []) gives accepted 6 1
          ∷ plain (Prepare 0 1 (Acc 2)) gives accepted 7 0
          ∷ plain (Prepare 0 1 (Acc 6)) gives refused wrong_view
          ∷ [];
    }

-- A REPLY too: replica 0 answers replica 1's REQ, loses power, recovers, and answers it again. "Signers in a list differ by box, never by
-- boot": its two REPLYs count for one.
abbrev pub reply_after_a_cut : Case
reply_after_a_cut =
    record {
      start = blank 2;
      rows =
          plain (Open 2) gives accepted 5 0
          ∷ plain (Reboot 1) gives accepted 1 64
          ∷ plain (Request 1) gives accepted 0 0
          ∷ plain (Reply 0 0) gives accepted 1 0
          ∷ plain (Reply 0 0) gives accepted 1 1
          ∷ plain (Reboot 0) gives accepted 1 64
          ∷ plain (Request 0) gives accepted 2 0
          ∷ plain (Reply 2 2) gives accepted 3 0
          ∷ plain (Reply 3 2) gives accepted 4 0
          ∷ plain (Reply 4 2) gives accepted 5 0
          ∷ Recover 0 on (3 ∷ 4 ∷ 5 ∷ []) gives accepted 64 0
          ∷ plain (Reply 0 0) gives accepted 6 0
          ∷ plain (Reply 0 0) gives accepted 6 1
          ∷ plain (Reply 2 0) gives accepted 7 0
          ∷ plain (Reply 3 0) gives accepted 8 0
          ∷ Recover 1 on (1 ∷ 6 ∷ 7 ∷ []) gives refused wrong_certificate
          ∷ Recover 1 on (7 ∷ 1 ∷ 8 ∷ []) gives accepted 64 0
          ∷ [];
    }

-- The same of COMMITs and of NEWVIEWs of one view, the second of each pair of a later boot, which no list of calls issues: the two count for
-- one, and beside another replica's each of them is taken. For the Prepare, 6 shows that its commits were taken: block 1 is no child of
-- block 1.
abbrev pub signers_differ_by_replica : Case
signers_differ_by_replica =
    record {
      start = holding with_block
          (commit_of 0 0 1 1
          ∷ commit_of 0 1 1 1
          ∷ commit_of 1 0 1 1
          ∷ new_view_of 0 0 1 0 0
          ∷ new_view_of 0 1 1 0 0
          ∷ new_view_of 1 0 1 0 0
          ∷ []);
      rows =
          Decide 2 on (0 ∷ 1 ∷ []) gives refused wrong_certificate
          ∷ Prepare 1 1 (Commits 1 1) on (0 ∷ 1 ∷ []) gives refused wrong_certificate
          ∷ Accumulate 2 on (3 ∷ 4 ∷ []) gives refused wrong_certificate
          ∷ Decide 2 on (1 ∷ 2 ∷ []) gives accepted 1 1
          ∷ Decide 2 on (0 ∷ 2 ∷ []) gives accepted 1 1
          ∷ Prepare 1 1 (Commits 1 1) on (1 ∷ 2 ∷ []) gives refused wrong_block
          ∷ Prepare 1 1 (Commits 1 1) on (0 ∷ 2 ∷ []) gives refused wrong_block
          ∷ Accumulate 2 on (4 ∷ 5 ∷ []) gives accepted 6 0
          ∷ Accumulate 2 on (3 ∷ 5 ∷ []) gives accepted 6 1
          ∷ [];
    }

-- Of REPLYs with the same of-view the first in the list counts, whatever their boots: block 0 is brought back, as the View shows.
abbrev pub replies_of_any_boot : Case
replies_of_any_boot =
    record {
      start = holding (run with_block (plain (Reboot 0) ∷ []))
          (reply_of 1 0 64 0 0 0 1 ∷ reply_of 1 4 64 0 0 0 1 ∷ reply_of 2 9 64 1 0 0 1 ∷ new_view_of 0 1 64 0 0 ∷ []);
      rows =
          Recover 0 on (0 ∷ 1 ∷ []) gives refused wrong_certificate
          ∷ Recover 0 on (1 ∷ 2 ∷ []) gives accepted 64 0
          ∷ plain (View 0 64) gives accepted 3 1
          ∷ [];
    }

-- And of NEWVIEWs: the ACC is on block 0, and is found.
abbrev pub new_views_of_any_boot : Case
new_views_of_any_boot =
    record {
      start = holding with_block (new_view_of 0 1 1 0 0 ∷ new_view_of 1 2 1 1 0 ∷ acc_of 2 0 1 0 0 ∷ []);
      rows = Accumulate 2 on (0 ∷ 1 ∷ []) gives accepted 2 1 ∷ [];
    }

-- A REQ that names one boot as its subject's and another as its signer's, though these are one replica.
abbrev two_boots_req : ℕ → ℕ → ℕ → ℕ → Certificate
two_boots_req signer view subject_boot signer_boot =
    record {
      kind = REQ;
      signer = signer;
      view = view;
      block = 0;
      of_view = 0;
      subject = signer;
      subject_boot = subject_boot;
      signer_boot = signer_boot;
    }

-- What replica 1 issues below, once of boot 2 and once of boot 3, and what it needs for that: replica 2's NEWVIEW, replica 0's PROP and REQ,
-- its own ACC of view 2, all of other boots. Last its REQs of boot 4, one with another eighth word.
abbrev of_two_boots : List Certificate
of_two_boots =
    new_view_of 1 2 1 0 0
    ∷ new_view_of 1 3 1 0 0
    ∷ new_view_of 2 7 1 0 0
    ∷ acc_of 1 2 1 0 0
    ∷ acc_of 1 3 1 0 0
    ∷ prop_of 0 2 1 1
    ∷ commit_of 1 2 1 1
    ∷ commit_of 1 3 1 1
    ∷ acc_of 1 9 2 0 0
    ∷ prop_of 1 2 2 1
    ∷ prop_of 1 3 2 1
    ∷ two_boots_req 0 1 5 6
    ∷ reply_of 1 2 1 1 1 0 5
    ∷ reply_of 1 3 1 1 1 0 5
    ∷ two_boots_req 1 64 4 2
    ∷ req_of 1 4 64
    ∷ []

-- "the boot of its signer when it was issued": at boot 3 each call of replica 1 finds the one of boot 3, and takes what was signed at any
-- boot. A Request after a cut finds that of boot 4.
abbrev pub signed_at_its_boot : Case
signed_at_its_boot =
    let at_boot : ℕ → ℕ → Memory → Memory = λ i boot m. update m i (boot_at becomes boot ∷ []) in
    record {
      start = at_boot 0 2 (at_boot 1 3 (at_boot 2 7 (holding with_block of_two_boots)));
      rows =
          plain (View 1 1) gives accepted 1 1
          ∷ Accumulate 1 on (0 ∷ 2 ∷ []) gives accepted 4 1
          ∷ plain (Store 1 5) gives accepted 7 1
          ∷ plain (Prepare 1 1 (Acc 8)) gives accepted 10 1
          ∷ plain (Reply 1 11) gives accepted 13 1
          ∷ plain (Reboot 1) gives accepted 4 64
          ∷ plain (Request 1) gives accepted 15 1
          ∷ [];
    }

-- "The form test bounds the new word at 1,000,000."
abbrev pub greatest_boot : Case
greatest_boot = record { start = holding with_block (prop_of 0 1000000 1 1 ∷ []); rows = plain (Store 0 0) gives accepted 1 0 ∷ [] }

-- One above it is too much in a certificate of any kind; an opening reads none.
abbrev holding_one : Certificate → Case
holding_one c =
    record {
      start = holding with_block (c ∷ []);
      rows = every_call_refused ++ (plain (Open 1) gives accepted 3 0 ∷ plain (View 0 1) gives accepted 0 0 ∷ []);
    }

abbrev pub boots_above_the_greatest : List Case
boots_above_the_greatest =
    map holding_one
    (prop_of 0 1000001 1 1
    ∷ commit_of 0 1000001 1 1
    ∷ new_view_of 0 1000001 1 0 0
    ∷ acc_of 0 1000001 1 0 0
    ∷ two_boots_req 0 1 0 1000001
    ∷ reply_of 0 1000001 1 0 0 1 0
    ∷ [])

-- "Length a multiple of 7", now of 8, at most 4,096 slots: 32,768 words.
abbrev log_of_length : ℕ → Case
log_of_length words =
    record { start = memory (blank 1).table (replicate words 0) (blank 1).blocks; rows = plain (Open 1) gives refused wrong_form ∷ [] }

abbrev pub most_certificates : Case
most_certificates =
    record {
      start = memory (blank 1).table (replicate 32768 0) (blank 1).blocks;
      rows =
          plain (Open 1) gives accepted 3 0
          ∷ plain (View 0 1) gives accepted 0 0
          ∷ [];
    }

abbrev pub broken_logs : List Case
broken_logs = map log_of_length (1 ∷ 4 ∷ 7 ∷ 9 ∷ 14 ∷ 32767 ∷ 32776 ∷ [])

unfoldable pub cut_cases : List Case
cut_cases =
    acc_after_a_cut
    ∷ reply_after_a_cut
    ∷ signers_differ_by_replica
    ∷ replies_of_any_boot
    ∷ new_views_of_any_boot
    ∷ signed_at_its_boot
    ∷ greatest_boot
    ∷ most_certificates
    ∷ boots_above_the_greatest ++ broken_logs
