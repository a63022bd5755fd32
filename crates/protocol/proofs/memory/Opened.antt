-- What opening leaves: a header, the steps, fresh replicas, one block; so the form, whatever the memory held.
use Prim.Native.Nat.{ℕ, zero, suc, ◌+◌, ◌≤◌, ◌<◌}
use mathlib.Core.Path.{◌≡◌, refl, ap, ◌∙◌}
use mathlib.Core.Bool.{true}
use mathlib.Core.List.{List}
use native.Mathlib.Omega.{arith}
use lib.ListN.{length, get_or, set, length-set}
use lib.Seq.{get_or-set_same, get_or-set_other, length-sets}
use lib.Dec.{eqb}
use Rattle.protocol.specs.Memory.{Memory, Replica, replica_count, header_words, fault_bound_at, certificate_count_at, block_count_at}
use Rattle.protocol.specs.Memory.{fault_bound}
use Rattle.protocol.specs.Memory.{certificate_count, block_count, step_count, step_at, kept_step, row_start, row_at, replica, live, lowered}
use Rattle.protocol.specs.Memory.{block_words, block_at, parent_at, height_at, parent, kept_height, block_record, update}
use Rattle.protocol.specs.Form.{is_fault_bound, lengths_fit, replica_formed}
use Rattle.protocol.specs.Counter.{steps_from, steps_allowed}
use Rattle.protocol.specs.Calls.{fresh_replica, fresh_replicas, fresh_header, keep_steps, opening}
use Rattle.protocol.specs.Theorems.{SameLengths}
use Rattle.protocol.proofs.logic.Booleans.{tests, by-test, each, all-hold}
use Rattle.protocol.proofs.memory.Words.{sets_elsewhere, sets_at}
use Rattle.protocol.proofs.memory.Blocks.{root-formed}
use Rattle.protocol.proofs.memory.Changes.{update_lengths, update_header, update_other, update_own}
use Rattle.protocol.proofs.memory.Formed.{Formed, step_bounds, steps_same}
use Rattle.protocol.proofs.memory.Keeps.{lengths_same, counts-fit}

-- A replica as opening leaves it.
abbrev pub fresh : ℕ → Replica
fresh limit =
    record {
      status = live;
      boot = 0;
      min_view = 1;
      view_limit = limit;
      flag = lowered;
      stored_view = 0;
      stored_block = 0;
      decided_view = 0;
      decided_block = 0;
    }

module _ (m : Memory) (limit : ℕ) where
  pub fresh_lengths : (k : ℕ) → SameLengths (fresh_replicas m limit k) m
  unfolding fresh_replicas update
  fresh_lengths zero = record { table = refl; log = refl; blocks = refl }
  fresh_lengths (suc k) =
      let s = fresh_lengths k in
      let u = update_lengths (fresh_replicas m limit k) k (fresh_replica limit) in
      record { table = u.table ∙ s.table; log = s.log; blocks = s.blocks }

  pub fresh_log : (k : ℕ) → (fresh_replicas m limit k).log ≡ m.log
  unfolding fresh_replicas update
  fresh_log zero = refl
  fresh_log (suc k) = fresh_log k

  pub fresh_blocks : (k : ℕ) → (fresh_replicas m limit k).blocks ≡ m.blocks
  unfolding fresh_replicas update
  fresh_blocks zero = refl
  fresh_blocks (suc k) = fresh_blocks k

  pub fresh-header : (k j : ℕ) → j < row_start → get_or (fresh_replicas m limit k).table j 0 ≡ get_or m.table j 0
  unfolding fresh_replicas
  fresh-header zero j h = refl
  fresh-header (suc k) j h = update_header (fresh_replicas m limit k) k (fresh_replica limit) refl j h ∙ fresh-header k j h

  pub fresh-row : (k i : ℕ) → i < k → row_at k ≤ length m.table → replica (fresh_replicas m limit k) i ≡ fresh limit
  unfolding fresh_replicas
  fresh-row zero i h room = absurd (omega arith)
  fresh-row (suc k) i h room =
      let s = fresh_lengths k in
      by-test (eqb i k)
      (λ e. let q : i ≡ k = omega tests in rw q (update_own (fresh_replicas m limit k) k (fresh_replica limit) refl (omega arith)))
      (λ e. update_other (fresh_replicas m limit k) k (fresh_replica limit) refl i (omega tests) ∙ fresh-row k i (omega tests) (omega arith))

-- ---- the header

pub header_lengths : (m : Memory) (f : ℕ) → SameLengths (fresh_header m f) m
header_lengths m f = record { table = simp length-set; log = refl; blocks = length-sets m.blocks (block_at 0) (block_record 0 0) }

pub record Header (m : Memory) (f : ℕ) : Type 0 where
  pub faults : fault_bound m ≡ f
  pub certificates : certificate_count m ≡ 0
  pub blocks : block_count m ≡ 1

-- The three words, whatever is written there.
header-words : (t : List ℕ) (f certificates blocks : ℕ) → block_count_at < length t
    → let t' = set (set (set t fault_bound_at f) certificate_count_at certificates) block_count_at blocks in
    (get_or t' fault_bound_at 0 ≡ f) × (get_or t' certificate_count_at 0 ≡ certificates) × (get_or t' block_count_at 0 ≡ blocks)
header-words t f certificates blocks h =
    let bounded = set t fault_bound_at f in
    let counted = set bounded certificate_count_at certificates in (
      get_or-set_other counted block_count_at fault_bound_at blocks 0 (omega arith)
          ∙ get_or-set_other bounded certificate_count_at fault_bound_at certificates 0 (omega arith)
          ∙ get_or-set_same t fault_bound_at f 0 (omega arith),
      get_or-set_other counted block_count_at certificate_count_at blocks 0 (omega arith)
          ∙ get_or-set_same bounded certificate_count_at certificates 0 (simp length-set (omega arith)),
      get_or-set_same counted block_count_at blocks 0 (simp length-set (omega arith)),
    )

pub header : (m : Memory) (f : ℕ) → lengths_fit m f ≡ true → Header (fresh_header m f) f
unfolding lengths_fit
header m f fit =
    let h = each _ fit in
    let w = header-words m.table f _ _ (omega tests) in
    record { faults = w.0; certificates = w.1; blocks = w.2 }

-- ---- the steps

keep_lengths : (m : Memory) (steps : List ℕ) → SameLengths (keep_steps m steps) m
keep_lengths m steps = record { table = length-sets m.table (step_at 0) steps; log = refl; blocks = refl }

-- The header stands before them.
pub keep_header : (m : Memory) (steps : List ℕ) (k : ℕ) → k < header_words → get_or (keep_steps m steps).table k 0 ≡ get_or m.table k 0
keep_header m steps k h = sets_elsewhere steps m.table (step_at 0) k (λ le. absurd (omega arith))

-- ---- what opening leaves

pub opening_lengths : (m : Memory) (f : ℕ) (list : List ℕ) → SameLengths (opening m f list).after m
unfolding opening
opening_lengths m f list =
    let steps = steps_from list in
    let r = fresh_lengths (keep_steps (fresh_header m f) steps) (get_or steps 0 0) (replica_count f) in
    let k = keep_lengths (fresh_header m f) steps in
    let h = header_lengths m f in
    record { table = r.table ∙ k.table ∙ h.table; log = r.log; blocks = r.blocks ∙ h.blocks }

-- With these steps, named: everything that the form and the later argument about lists of calls need to know of it.
pub record Opened (m : Memory) (f : ℕ) (given : List ℕ) (o : Memory) : Type 0 where
  pub lengths : SameLengths o m
  pub header : Header o f
  pub steps : (k : ℕ) → k < step_count → kept_step o k ≡ get_or given k 0
  pub root : parent o 0 ≡ 0
  pub root_height : kept_height o 0 ≡ 0
  pub rows : (i : ℕ) → i < replica_count f → replica o i ≡ fresh (get_or given 0 0)

pub opened : (m : Memory) (f : ℕ) (list : List ℕ) → steps_allowed list ≡ true → lengths_fit m f ≡ true
    → Opened m f (steps_from list) (opening m f list).after
unfolding opening lengths_fit steps_allowed
opened m f list allowed fit =
    let eight = each _ allowed in
    let h = each _ fit in
    let steps = steps_from list in
    let limit = get_or steps 0 0 in
    let kept = keep_steps (fresh_header m f) steps in
    let l = keep_lengths (fresh_header m f) steps in
    let s = header_lengths m f in
    let head = header m f fit in
    let rows = fresh-header kept limit (replica_count f) in
    let record-word : (k : ℕ) → k < block_words → get_or (opening m f list).after.blocks (block_at 0 + k) 0 ≡ get_or (block_record 0 0) k 0 =
    λ k inside. rw (fresh_blocks kept limit (replica_count f)) (sets_at (block_record 0 0) m.blocks (block_at 0) k (omega arith) (omega tests)) in
    let same : (k : ℕ) → k < header_words → get_or (opening m f list).after.table k 0 ≡ get_or (fresh_header m f).table k 0 =
    λ k h. rows k (omega arith) ∙ keep_header (fresh_header m f) steps k h in
    record {
      lengths = opening_lengths m f list;
      header =
          record {
            faults = same fault_bound_at (omega arith) ∙ head.faults;
            certificates = same certificate_count_at (omega arith) ∙ head.certificates;
            blocks = same block_count_at (omega arith) ∙ head.blocks;
          };
      steps = λ k l. rows (step_at k) (omega arith) ∙ sets_at steps _ (step_at 0) k (omega tests) (simp length-set (omega tests));
      root = record-word parent_at (omega arith);
      root_height = record-word height_at (omega arith);
      rows = λ i own. fresh-row kept limit (replica_count f) i own (omega tests);
    }

pub opened_formed : (m : Memory) (f : ℕ) (list : List ℕ) (o : Memory) → is_fault_bound f ≡ true → steps_allowed list ≡ true
    → lengths_fit m f ≡ true → Opened m f (steps_from list) o → Formed o
unfolding lengths_fit steps_allowed replica_formed
opened_formed m f list o bound allowed fit h =
    let a = each _ fit in
    let formed = (each _ allowed).1.0 in
    let first = step_bounds _ formed 0 (omega arith) in
    let head = h.header in
    let s = h.lengths in
    record {
      faults = rw head.faults bound;
      lengths = rw head.faults (lengths_same o m f s ∙ fit);
      counts = counts-fit o (omega tests) (omega tests) (omega tests);
      steps = steps_same _ _ h.steps ∙ formed;
      blocks = λ x l. let q : x ≡ 0 = omega arith in rw q (root-formed (parent o) (kept_height o) h.root h.root_height);
      rows = λ i l. ap (replica_formed (block_count o)) (h.rows i (omega arith)) ∙ all-hold _ (omega tests);
      log = λ x l. absurd (omega arith);
    }
