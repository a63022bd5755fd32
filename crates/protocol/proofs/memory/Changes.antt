-- Reading the memory after each of the three changes: words of a replica, a certificate more, a block more.
use Prim.Native.Nat.{ℕ, ◌+◌, ◌≤◌, ◌<◌}
use mathlib.Core.Path.{◌≡◌, refl, ap}
use mathlib.Core.Bool.{true}
use mathlib.Core.Logic.{◌≢◌}
use mathlib.Core.List.{List}
use native.Mathlib.Omega.{arith}
use lib.ListN.{length, get_or, length-set}
use lib.Seq.{get_or-set_same, get_or-set_other, length-sets}
use Rattle.protocol.specs.Memory.{Memory, Replica, Certificate, Assignment, certificate_count_at, block_count_at}
use Rattle.protocol.specs.Memory.{certificate_count, block_count, row_start, row_at, replica_words, replica_word, replica, status_at}
use Rattle.protocol.specs.Memory.{boot_at, min_view_at, view_limit_at, flag_at, stored_view_at, stored_block_at, decided_view_at}
use Rattle.protocol.specs.Memory.{decided_block_at, certificate_words, certificate_at, certificate_word, certificate, kind_at}
use Rattle.protocol.specs.Memory.{signer_at, view_at, proposed_block_at, of_view_at, subject_at, subject_boot_at, signer_boot_at, block_words}
use Rattle.protocol.specs.Memory.{block_at}
use Rattle.protocol.specs.Memory.{parent_at, parent, update, append_certificate, append_block}
use Rattle.protocol.specs.Theorems.{SameLengths}
use Rattle.protocol.proofs.memory.Words.{assigned, within_row, avoids_row, length_assign, assign_elsewhere, assign_at}
use Rattle.protocol.proofs.memory.Words.{sets_elsewhere, sets_at}

-- A replica and a certificate, by their words.
abbrev replica_by : ((k : ℕ) → k < replica_words → ℕ) → Replica
replica_by word =
    record {
      status = word status_at (omega arith);
      boot = word boot_at (omega arith);
      min_view = word min_view_at (omega arith);
      view_limit = word view_limit_at (omega arith);
      flag = word flag_at (omega arith);
      stored_view = word stored_view_at (omega arith);
      stored_block = word stored_block_at (omega arith);
      decided_view = word decided_view_at (omega arith);
      decided_block = word decided_block_at (omega arith);
    }

abbrev certificate_by : ((k : ℕ) → k < certificate_words → ℕ) → Certificate
certificate_by word =
    record {
      kind = word kind_at (omega arith);
      signer = word signer_at (omega arith);
      view = word view_at (omega arith);
      block = word proposed_block_at (omega arith);
      of_view = word of_view_at (omega arith);
      subject = word subject_at (omega arith);
      subject_boot = word subject_boot_at (omega arith);
      signer_boot = word signer_boot_at (omega arith);
    }

-- They are as before where their words are.
pub replica_same : (m m' : Memory) (i : ℕ) → ((k : ℕ) → k < replica_words → replica_word m i k ≡ replica_word m' i k)
    → replica m i ≡ replica m' i
replica_same m m' i h = λ d. replica_by (λ k l. h k l d)

pub certificate_same : (m m' : Memory) (c : ℕ) → ((k : ℕ) → k < certificate_words → certificate_word m c k ≡ certificate_word m' c k)
    → certificate m c ≡ certificate m' c
certificate_same m m' c h = λ d. certificate_by (λ k l. h k l d)

-- A parent is as before where the blocks are.
pub same_parent : (m m' : Memory) → m'.blocks ≡ m.blocks → (b : ℕ) → parent m' b ≡ parent m b
same_parent m m' e b = ap (λ (bs : List ℕ). get_or bs (block_at b + parent_at) 0) e

-- ---- words of a replica

-- The replica once the assignments are made.
abbrev pub changed : List Assignment → Replica → Replica
changed cs r =
    record {
      status = assigned cs status_at r.status;
      boot = assigned cs boot_at r.boot;
      min_view = assigned cs min_view_at r.min_view;
      view_limit = assigned cs view_limit_at r.view_limit;
      flag = assigned cs flag_at r.flag;
      stored_view = assigned cs stored_view_at r.stored_view;
      stored_block = assigned cs stored_block_at r.stored_block;
      decided_view = assigned cs decided_view_at r.decided_view;
      decided_block = assigned cs decided_block_at r.decided_block;
    }

pub update_lengths : (m : Memory) (i : ℕ) (cs : List Assignment) → SameLengths (update m i cs) m
unfolding update
update_lengths m i cs = record { table = length_assign cs m.table (row_at i); log = refl; blocks = refl }

module _ (m : Memory) (i : ℕ) (cs : List Assignment) (within : within_row cs ≡ true) where
  pub update_header : (k : ℕ) → k < row_start → get_or (update m i cs).table k 0 ≡ get_or m.table k 0
  unfolding update
  update_header k h = assign_elsewhere cs m.table (row_at i) k (avoids_row cs (row_at i) k within (λ le. omega arith))

  pub update_other : (j : ℕ) → j ≢ i → replica (update m i cs) j ≡ replica m j
  unfolding update
  update_other j q =
      replica_same (update m i cs) m j
      (λ k h. assign_elsewhere cs m.table (row_at i) (row_at j + k) (avoids_row cs (row_at i) (row_at j + k) within (λ le. omega arith)))

  pub update_own : row_at i + replica_words ≤ length m.table → replica (update m i cs) i ≡ changed cs (replica m i)
  unfolding update
  update_own room = λ d. replica_by (λ k l. assign_at cs m.table (row_at i) k within room d)

-- ---- a certificate more

-- The certificate that a list of words is.
abbrev pub certificate_from : List ℕ → Certificate
certificate_from ws = certificate_by (λ k l. get_or ws k 0)

-- A certificate of the log is that of its words.
pub certificate-of : (m : Memory) (c : ℕ) (ws : List ℕ) → ((k : ℕ) → k < certificate_words → certificate_word m c k ≡ get_or ws k 0)
    → certificate m c ≡ certificate_from ws
certificate-of m c ws h = λ d. certificate_by (λ k l. h k l d)

module _ (m : Memory) (ws : List ℕ) (whole : length ws ≡ certificate_words) where
  pub append_lengths : SameLengths (append_certificate m ws) m
  unfolding append_certificate
  append_lengths =
      record {
        table = simp length-set;
        log = length-sets m.log (certificate_at (certificate_count m)) ws;
        blocks = refl;
      }

  pub append_table : (k : ℕ) → k ≢ certificate_count_at → get_or (append_certificate m ws).table k 0 ≡ get_or m.table k 0
  unfolding append_certificate
  append_table k q = get_or-set_other m.table certificate_count_at k _ 0 q

  pub append_count : certificate_count_at < length m.table → certificate_count (append_certificate m ws) ≡ certificate_count m + 1
  unfolding append_certificate
  append_count h = get_or-set_same m.table certificate_count_at (certificate_count m + 1) 0 h

  pub append_replica : (i : ℕ) → replica (append_certificate m ws) i ≡ replica m i
  append_replica i = replica_same (append_certificate m ws) m i (λ k h. append_table (row_at i + k) (omega arith))

  pub append_old : (c : ℕ) → c < certificate_count m → certificate (append_certificate m ws) c ≡ certificate m c
  unfolding append_certificate
  append_old c h =
      certificate_same (append_certificate m ws) m c
      (λ k l. sets_elsewhere ws m.log (certificate_at (certificate_count m)) (certificate_at c + k) (λ le. omega arith))

  pub append_new : certificate_at (certificate_count m) + certificate_words ≤ length m.log
      → certificate (append_certificate m ws) (certificate_count m) ≡ certificate_from ws
  unfolding append_certificate
  append_new room =
      certificate-of (append_certificate m ws) (certificate_count m) ws
      (λ k l. sets_at ws m.log (certificate_at (certificate_count m)) k (omega arith) (omega arith))

-- ---- a block more

module _ (m : Memory) (ws : List ℕ) (whole : length ws ≡ block_words) where
  pub block_lengths : SameLengths (append_block m ws) m
  unfolding append_block
  block_lengths =
      record {
        table = length-set m.table block_count_at (block_count m + 1);
        log = refl;
        blocks = length-sets m.blocks (block_at (block_count m)) ws;
      }

  pub block_table : (k : ℕ) → k ≢ block_count_at → get_or (append_block m ws).table k 0 ≡ get_or m.table k 0
  unfolding append_block
  block_table k q = get_or-set_other m.table block_count_at k (block_count m + 1) 0 q

  pub block-count : block_count_at < length m.table → block_count (append_block m ws) ≡ block_count m + 1
  unfolding append_block
  block-count h = get_or-set_same m.table block_count_at (block_count m + 1) 0 h

  pub block_replica : (i : ℕ) → replica (append_block m ws) i ≡ replica m i
  block_replica i = replica_same (append_block m ws) m i (λ k h. block_table (row_at i + k) (omega arith))

  -- A word of a record.
  pub block_old : (b k : ℕ) → b < block_count m → k < block_words
      → get_or (append_block m ws).blocks (block_at b + k) 0 ≡ get_or m.blocks (block_at b + k) 0
  unfolding append_block
  block_old b k h l = sets_elsewhere ws m.blocks (block_at (block_count m)) (block_at b + k) (λ le. omega arith)

  pub block_new : (k : ℕ) → k < block_words → block_at (block_count m) + block_words ≤ length m.blocks
      → get_or (append_block m ws).blocks (block_at (block_count m) + k) 0 ≡ get_or ws k 0
  unfolding append_block
  block_new k l room = sets_at ws m.blocks (block_at (block_count m)) k (omega arith) (omega arith)
