-- Rows of the table of cases with the words that each call leaves, by slice and index, in the documents' order: "Table: f, certificates
-- issued, blocks added;" the eight steps, "then nine words a box: status (0 live, 1 waiting, 2 spent), boot, low, bound, flag, stored view,
-- stored block, shown view, shown block"; "kind, signer, view, block, of-view, subject, boot", and the boot of the signer; "parent and
-- height". Each call is made on memory where every word that it sets is another before, but for an opening with steps after another opening.
use Rattle.std.specs.Prelude.{ℕ, List, [], ◌∷◌, replicate}
use Rattle.protocol.specs.declared.Call.TheVariants.{Open, Block, Prepare, Store, View, Accumulate, Decide, Reboot}
use Rattle.protocol.specs.declared.Call.TheVariants.{Reserve, Request, Reply, Recover}
use Rattle.protocol.specs.declared.Justification.TheVariants.{Acc, Commits}
use Rattle.protocol.specs.Memory.{Memory, memory}
use Rattle.protocol.specs.Runs.{Invocation, plain, ◌on◌}
use Rattle.protocol.specs.Theorems.{table_word, log_word, block_word}
use Rattle.protocol.specs.Outcome.{accepted}
use Rattle.protocol.specs.cases.Rows.{Row, ◌gives◌leaving◌, ◌reads◌, Case, overwritten, Stretch}

-- ---- a ledger word by word

-- f = 1, nine certificates, six blocks; eight steps; replicas 0 and 1, which are live, and replica 2, which is recovering.
abbrev table_before : List ℕ
table_before =
    1 ∷ 9 ∷ 6
    ∷ 2 ∷ 3 ∷ 5 ∷ 7 ∷ 11 ∷ 13 ∷ 17 ∷ 19
    ∷ 0 ∷ 3 ∷ 7 ∷ 25 ∷ 0 ∷ 5 ∷ 1 ∷ 4 ∷ 2
    ∷ 0 ∷ 5 ∷ 8 ∷ 30 ∷ 1 ∷ 7 ∷ 4 ∷ 6 ∷ 3
    ∷ 1 ∷ 4 ∷ 12 ∷ 20 ∷ 0 ∷ 10 ∷ 2 ∷ 7 ∷ 3
    ∷ []

-- "Kinds: 1 PROP, 2 COMMIT, 3 NEWVIEW, 4 ACC, 5 REQ, 6 REPLY." The last two slots are free.
abbrev log_before : List ℕ
log_before =
    3 ∷ 0 ∷ 8 ∷ 1 ∷ 2 ∷ 0 ∷ 0 ∷ 1
    ∷ 3 ∷ 2 ∷ 8 ∷ 3 ∷ 6 ∷ 0 ∷ 0 ∷ 2
    ∷ 4 ∷ 1 ∷ 8 ∷ 1 ∷ 7 ∷ 0 ∷ 0 ∷ 5
    ∷ 1 ∷ 0 ∷ 10 ∷ 3 ∷ 0 ∷ 0 ∷ 0 ∷ 3
    ∷ 2 ∷ 0 ∷ 7 ∷ 1 ∷ 0 ∷ 0 ∷ 0 ∷ 3
    ∷ 2 ∷ 2 ∷ 7 ∷ 1 ∷ 0 ∷ 0 ∷ 0 ∷ 4
    ∷ 5 ∷ 2 ∷ 11 ∷ 0 ∷ 0 ∷ 2 ∷ 3 ∷ 3
    ∷ 6 ∷ 0 ∷ 12 ∷ 1 ∷ 9 ∷ 2 ∷ 4 ∷ 3
    ∷ 6 ∷ 1 ∷ 12 ∷ 5 ∷ 14 ∷ 2 ∷ 4 ∷ 5
    ∷ 77 ∷ 77 ∷ 77 ∷ 77 ∷ 77 ∷ 77 ∷ 77 ∷ 77
    ∷ 77 ∷ 77 ∷ 77 ∷ 77 ∷ 77 ∷ 77 ∷ 77 ∷ 77
    ∷ []

-- Blocks 1, 2 and 4 are of one line, 3 and 5 of another; two slots are free.
abbrev blocks_before : List ℕ
blocks_before =
    0 ∷ 0
    ∷ 0 ∷ 1
    ∷ 1 ∷ 2
    ∷ 0 ∷ 1
    ∷ 2 ∷ 3
    ∷ 3 ∷ 2
    ∷ 77 ∷ 77
    ∷ 77 ∷ 77
    ∷ []

-- Replica 1's words stand from 20 on, replica 2's from 29 on. The first free slots are those of certificate 9, from 72 on, and of block 6,
-- from 12 on.
abbrev ledger : Memory
ledger = memory table_before log_before blocks_before

abbrev on_ledger : Row → Case
on_ledger row = record { start = ledger; rows = row ∷ [] }

-- One certificate more, the tenth, of these words.
abbrev filed : List ℕ → List Stretch
filed certificate = table_word 1 reads (10 ∷ []) ∷ log_word 72 reads certificate ∷ []

-- ---- the twelve calls

-- "Open(f): boxes live, boot 0, low 1, bound 64, all else 0; one block, number 0, whose parent word becomes 0; no certificates. [..] The
-- book and the other block words aren't touched." Document 02, #104: "The steps are kept after the header in the table [..]. The first
-- bound is the first step. Opening without steps [..] writes the eight of 01." #105: "opening writes both words of block 0."
abbrev pub open_leaves : Case
open_leaves =
    record {
      start = memory (replicate 38 77) (replicate 16 77) (replicate 4 77);
      rows =
          plain (Open 1) gives accepted 3 0 leaving
          (table_word 0 reads
          (1 ∷ 0 ∷ 1
          ∷ 64 ∷ 64 ∷ 128 ∷ 128 ∷ 256 ∷ 256 ∷ 512 ∷ 1024
          ∷ 0 ∷ 0 ∷ 1 ∷ 64 ∷ 0 ∷ 0 ∷ 0 ∷ 0 ∷ 0
          ∷ 0 ∷ 0 ∷ 1 ∷ 64 ∷ 0 ∷ 0 ∷ 0 ∷ 0 ∷ 0
          ∷ 0 ∷ 0 ∷ 1 ∷ 64 ∷ 0 ∷ 0 ∷ 0 ∷ 0 ∷ 0
          ∷ [])
          ∷ block_word 0 reads (0 ∷ 0 ∷ [])
          ∷ [])
          ∷ Open 1 on (2 ∷ 3 ∷ 5 ∷ 7 ∷ 11 ∷ 13 ∷ 17 ∷ 19 ∷ []) gives accepted 3 0 leaving
          (table_word 3 reads (2 ∷ 3 ∷ 5 ∷ 7 ∷ 11 ∷ 13 ∷ 17 ∷ 19 ∷ [])
          ∷ table_word 14 reads (2 ∷ [])
          ∷ table_word 23 reads (2 ∷ [])
          ∷ table_word 32 reads (2 ∷ [])
          ∷ [])
          ∷ [];
    }

-- "Block(parent): values new number, 0." Document 02, #105: "two words, parent and height", the height "one more than its parent".
abbrev pub block_leaves : Case
block_leaves =
    on_ledger (plain (Block 5) gives accepted 6 0 leaving (table_word 2 reads (7 ∷ []) ∷ block_word 12 reads (5 ∷ 3 ∷ []) ∷ []))

-- "Sets flag 1, issues PROP(w, block)", on an ACC and on commits. Replica 1's flag is lowered first, by hand.
abbrev flag_lowered : Memory
flag_lowered = overwritten ledger (table_word 24 reads (0 ∷ []) ∷ [])

abbrev preparing : Invocation → Case
preparing call =
    record {
      start = flag_lowered;
      rows = call gives accepted 9 0 leaving (table_word 24 reads (1 ∷ []) ∷ filed (1 ∷ 1 ∷ 8 ∷ 2 ∷ 0 ∷ 0 ∷ 0 ∷ 5 ∷ [])) ∷ [];
    }

abbrev pub prepare_on_acc_leaves : Case
prepare_on_acc_leaves = preparing (plain (Prepare 1 2 (Acc 2)))

abbrev pub prepare_on_commits_leaves : Case
prepare_on_commits_leaves = preparing (Prepare 1 2 (Commits 7 1) on (4 ∷ 5 ∷ []))

-- "Stored becomes v and the block, low v+1, flag 0. Issues COMMIT(v, block)."
abbrev pub store_leaves : Case
store_leaves =
    on_ledger
    (plain (Store 1 3) gives accepted 9 0 leaving
    (table_word 22 reads (11 ∷ []) ∷ table_word 24 reads (0 ∷ 10 ∷ 3 ∷ []) ∷ filed (2 ∷ 1 ∷ 10 ∷ 3 ∷ 0 ∷ 0 ∷ 0 ∷ 5 ∷ [])))

-- "Flag 0 if w > low; then low is w. Issues NEWVIEW(w, stored block, of-view = stored view)."
abbrev pub view_leaves : Case
view_leaves =
    on_ledger
    (plain (View 1 9) gives accepted 9 0 leaving
    (table_word 22 reads (9 ∷ []) ∷ table_word 24 reads (0 ∷ []) ∷ filed (3 ∷ 1 ∷ 9 ∷ 4 ∷ 7 ∷ 0 ∷ 0 ∷ 5 ∷ [])))

-- "Issues ACC with that view and the block and of-view of the greatest of-view"
abbrev pub accumulate_leaves : Case
accumulate_leaves =
    on_ledger (Accumulate 1 on (0 ∷ 1 ∷ []) gives accepted 9 0 leaving filed (4 ∷ 1 ∷ 8 ∷ 3 ∷ 6 ∷ 0 ∷ 0 ∷ 5 ∷ []))

-- "If the view is above the shown view, both shown words are set."
abbrev pub decide_leaves : Case
decide_leaves = on_ledger (Decide 1 on (4 ∷ 5 ∷ []) gives accepted 1 7 leaving (table_word 27 reads (7 ∷ 1 ∷ []) ∷ []))

abbrev pub decide_of_shown_view_leaves : Case
decide_of_shown_view_leaves = on_ledger (Decide 2 on (4 ∷ 5 ∷ []) gives accepted 1 7 leaving [])

-- "boot + 1, low is the old bound, bound grows by the new boot's step, flag and stored words 0, waiting; shown stays."
abbrev pub reboot_leaves : Case
reboot_leaves =
    on_ledger
    (plain (Reboot 1) gives accepted 6 30 leaving (table_word 20 reads (1 ∷ 6 ∷ 30 ∷ 47 ∷ 0 ∷ 0 ∷ 0 ∷ []) ∷ []))

-- "If boot or bound would pass 1,000,000, [..] only the status becomes 2." The bound is set by hand: with the step of boot 6, 17, it would.
abbrev pub retiring_reboot_leaves : Case
retiring_reboot_leaves =
    record {
      start = overwritten ledger (table_word 23 reads (999984 ∷ []) ∷ []);
      rows = plain (Reboot 1) gives accepted 5 8 leaving (table_word 20 reads (2 ∷ []) ∷ []) ∷ [];
    }

-- "bound grows by its boot's step."
abbrev pub reserve_leaves : Case
reserve_leaves = on_ledger (plain (Reserve 1) gives accepted 43 0 leaving (table_word 23 reads (43 ∷ []) ∷ []))

-- "Issues REQ(view = low, subject = box, boot)."
abbrev pub request_leaves : Case
request_leaves = on_ledger (plain (Request 2) gives accepted 9 0 leaving filed (5 ∷ 2 ∷ 12 ∷ 0 ∷ 0 ∷ 2 ∷ 4 ∷ 4 ∷ []))

-- "If low is below that view, low rises to it and flag is 0; else both stay. Issues REPLY(that view, stored block, of-view = stored view,
-- subject = the REQ's signer, its boot)."
abbrev pub reply_leaves : Case
reply_leaves =
    on_ledger
    (plain (Reply 1 6) gives accepted 9 0 leaving
    (table_word 22 reads (11 ∷ []) ∷ table_word 24 reads (0 ∷ []) ∷ filed (6 ∷ 1 ∷ 11 ∷ 4 ∷ 7 ∷ 2 ∷ 3 ∷ 5 ∷ [])))

-- "With g the greatest of-view [..]: stored becomes g and its block, low the larger of low and g+1, [..]; live."
abbrev pub recover_leaves : Case
recover_leaves =
    on_ledger
    (Recover 2 on (7 ∷ 8 ∷ []) gives accepted 15 14 leaving
    (table_word 29 reads (0 ∷ []) ∷ table_word 31 reads (15 ∷ []) ∷ table_word 34 reads (14 ∷ 5 ∷ []) ∷ []))

unfoldable pub word_cases : List Case
word_cases =
    open_leaves
    ∷ block_leaves
    ∷ prepare_on_acc_leaves
    ∷ prepare_on_commits_leaves
    ∷ store_leaves
    ∷ view_leaves
    ∷ accumulate_leaves
    ∷ decide_leaves
    ∷ decide_of_shown_view_leaves
    ∷ reboot_leaves
    ∷ retiring_reboot_leaves
    ∷ reserve_leaves
    ∷ request_leaves
    ∷ reply_leaves
    ∷ recover_leaves
    ∷ []
