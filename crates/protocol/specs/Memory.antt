-- The memory of a ledger (document 01, "Memory"): three lists of words, and where each word stands. "Numbers are decimal, words are
-- 32-bit unsigned": here a word is any number, so that what is proved holds for any contents.
use Rattle.std.specs.Prelude.{ℕ, ◌+◌, ◌*◌, List, [], ◌∷◌, get_or, set}
use Rattle.std.proofs.lemmas.List.Edits.{sets}

-- "Three word slices are lent." Document 01's table, book and blocks.
pub record Memory : Type 0 where
  pub table : List ℕ
  pub log : List ℕ
  pub blocks : List ℕ

abbrev pub memory : List ℕ → List ℕ → List ℕ → Memory
memory t l b = record { table = t; log = l; blocks = b }

-- "f is 1 to 30"
abbrev pub max_fault_bound : ℕ
max_fault_bound = 30

-- "n = 2f+1 boxes, 0 to n−1": the number of replicas
abbrev pub replica_count : ℕ → ℕ
replica_count f = 2 * f + 1

-- The largest view, view limit and boot.
abbrev pub ceiling : ℕ
ceiling = 1000000

-- ---- the table

-- "Table: f, certificates issued, blocks added;"
abbrev pub header_words : ℕ
header_words = 3

abbrev pub fault_bound_at : ℕ
fault_bound_at = 0

abbrev pub certificate_count_at : ℕ
certificate_count_at = 1

abbrev pub block_count_at : ℕ
block_count_at = 2

abbrev pub fault_bound : Memory → ℕ
fault_bound m = get_or m.table fault_bound_at 0

abbrev pub certificate_count : Memory → ℕ
certificate_count m = get_or m.table certificate_count_at 0

abbrev pub block_count : Memory → ℕ
block_count m = get_or m.table block_count_at 0

-- Document 02, #104: "The steps are kept after the header in the table": the counter's eight, by their number from 0.
abbrev pub steps_at : ℕ
steps_at = header_words

abbrev pub step_count : ℕ
step_count = 8

abbrev pub last_step : ℕ
last_step = 7

abbrev pub step_at : ℕ → ℕ
step_at k = steps_at + k

abbrev pub kept_step : Memory → ℕ → ℕ
kept_step m k = get_or m.table (step_at k) 0

-- The replicas' words come after the steps, nine a replica.
abbrev pub row_start : ℕ
row_start = step_at step_count

abbrev pub replica_words : ℕ
replica_words = 9

abbrev pub row_at : ℕ → ℕ
row_at i = row_start + replica_words * i

-- "then nine words a box: status (0 live, 1 waiting, 2 spent), boot, low, bound, flag, stored view, stored block, shown view, shown block."
-- Here low is min_view, the lowest view that the replica may still propose, store or enter in; bound is view_limit, the first that it may
-- not before its counter is moved; shown is decided; waiting is recovering and spent is retired.
abbrev pub status_at : ℕ
status_at = 0

abbrev pub boot_at : ℕ
boot_at = 1

abbrev pub min_view_at : ℕ
min_view_at = 2

abbrev pub view_limit_at : ℕ
view_limit_at = 3

abbrev pub flag_at : ℕ
flag_at = 4

abbrev pub stored_view_at : ℕ
stored_view_at = 5

abbrev pub stored_block_at : ℕ
stored_block_at = 6

abbrev pub decided_view_at : ℕ
decided_view_at = 7

abbrev pub decided_block_at : ℕ
decided_block_at = 8

abbrev pub live : ℕ
live = 0

abbrev pub recovering : ℕ
recovering = 1

abbrev pub retired : ℕ
retired = 2

-- The flag: raised once the replica has proposed in the view min_view.
abbrev pub lowered : ℕ
lowered = 0

abbrev pub raised : ℕ
raised = 1

pub record Replica : Type 0 where
  pub status : ℕ
  pub boot : ℕ
  pub min_view : ℕ
  pub view_limit : ℕ
  pub flag : ℕ
  pub stored_view : ℕ
  pub stored_block : ℕ
  pub decided_view : ℕ
  pub decided_block : ℕ

abbrev pub replica_word : Memory → ℕ → ℕ → ℕ
replica_word m i k = get_or m.table (row_at i + k) 0

abbrev pub replica : Memory → ℕ → Replica
replica m i =
    record {
      status = replica_word m i status_at;
      boot = replica_word m i boot_at;
      min_view = replica_word m i min_view_at;
      view_limit = replica_word m i view_limit_at;
      flag = replica_word m i flag_at;
      stored_view = replica_word m i stored_view_at;
      stored_block = replica_word m i stored_block_at;
      decided_view = replica_word m i decided_view_at;
      decided_block = replica_word m i decided_block_at;
    }

-- "Its length is 3+9n.", and 8 more with the steps of document 02, #104.
abbrev pub table_length : ℕ → ℕ
table_length f = row_at (replica_count f)

-- ---- the certificate log (document 01: book)

-- "Book: 7 words a certificate: kind, signer, view, block, of-view, subject, boot." Document 02, #107: "The record gets an eighth word, the
-- boot of its signer when it was issued. [..] The subject's boot in REQ and REPLY stays the seventh."
abbrev pub certificate_words : ℕ
certificate_words = 8

abbrev pub certificate_at : ℕ → ℕ
certificate_at c = certificate_words * c

abbrev pub kind_at : ℕ
kind_at = 0

abbrev pub signer_at : ℕ
signer_at = 1

abbrev pub view_at : ℕ
view_at = 2

abbrev pub proposed_block_at : ℕ
proposed_block_at = 3

abbrev pub of_view_at : ℕ
of_view_at = 4

abbrev pub subject_at : ℕ
subject_at = 5

abbrev pub subject_boot_at : ℕ
subject_boot_at = 6

abbrev pub signer_boot_at : ℕ
signer_boot_at = 7

pub record Certificate : Type 0 where
  pub kind : ℕ
  pub signer : ℕ
  pub view : ℕ
  pub block : ℕ
  pub of_view : ℕ
  pub subject : ℕ
  pub subject_boot : ℕ
  pub signer_boot : ℕ

abbrev pub certificate_word : Memory → ℕ → ℕ → ℕ
certificate_word m c k = get_or m.log (certificate_at c + k) 0

abbrev pub certificate : Memory → ℕ → Certificate
certificate m c =
    record {
      kind = certificate_word m c kind_at;
      signer = certificate_word m c signer_at;
      view = certificate_word m c view_at;
      block = certificate_word m c proposed_block_at;
      of_view = certificate_word m c of_view_at;
      subject = certificate_word m c subject_at;
      subject_boot = certificate_word m c subject_boot_at;
      signer_boot = certificate_word m c signer_boot_at;
    }

-- The words of a certificate, as they stand in the log.
abbrev pub words : Certificate → List ℕ
words c = c.kind ∷ c.signer ∷ c.view ∷ c.block ∷ c.of_view ∷ c.subject ∷ c.subject_boot ∷ c.signer_boot ∷ []

-- "Length a multiple of 7, at most 4,096 places." With #107 a multiple of 8.
abbrev pub max_certificates : ℕ
max_certificates = 4096

-- ---- the blocks

-- "Blocks: the parent of each, 1 to 4,096 places." For that, document 02, #105: "Each block record becomes two words, parent and height, in
-- a slice of even length, and the places stay 4,096."
abbrev pub block_words : ℕ
block_words = 2

abbrev pub block_at : ℕ → ℕ
block_at b = block_words * b

abbrev pub parent_at : ℕ
parent_at = 0

abbrev pub height_at : ℕ
height_at = 1

-- "Block 0 has parent 0; any other has a parent below its own number." Document 02, #105: "Block 0 has height 0 and any other one more than
-- its parent". The form tests both.
abbrev pub parent : Memory → ℕ → ℕ
parent m b = get_or m.blocks (block_at b + parent_at) 0

abbrev pub kept_height : Memory → ℕ → ℕ
kept_height m b = get_or m.blocks (block_at b + height_at) 0

-- The words of a block's record, as they stand in the slice.
abbrev pub block_record : ℕ → ℕ → List ℕ
block_record parent height = parent ∷ height ∷ []

abbrev pub max_blocks : ℕ
max_blocks = 4096

-- ---- changes

-- A word of a replica, by its offset in the row, and its new value.
pub data Assignment : Type 0 where
  ◌becomes◌ : ℕ → ℕ → Assignment

infix 68 ◌becomes◌
-- The words with the assignments made, one after the other, in the row that starts at an index.
abbrev pub assign : List ℕ → ℕ → List Assignment → List ℕ
assign t at [] = t
assign t at ((k becomes v) ∷ rest) = assign (set t (at + k) v) at rest

-- The memory with words of one replica changed.
unfoldable pub update : Memory → ℕ → List Assignment → Memory
update m i changes = record { table = assign m.table (row_at i) changes; log = m.log; blocks = m.blocks }

-- The memory with one certificate more, at the log's next slot.
unfoldable pub append_certificate : Memory → List ℕ → Memory
append_certificate m ws =
    record {
      table = set m.table certificate_count_at (certificate_count m + 1);
      log = sets m.log (certificate_at (certificate_count m)) ws;
      blocks = m.blocks;
    }

-- The memory with one block more, its record at the next slot.
unfoldable pub append_block : Memory → List ℕ → Memory
append_block m ws =
    record {
      table = set m.table block_count_at (block_count m + 1);
      log = m.log;
      blocks = sets m.blocks (block_at (block_count m)) ws;
    }
