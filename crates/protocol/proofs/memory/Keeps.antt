-- What keeps the form: words of a replica that stay in their ranges, a certificate in its ranges, a block on an added one.
use Prim.Native.Nat.{ℕ, ◌+◌, ◌≤◌, ◌<◌}
use mathlib.Core.Path.{◌≡◌, refl, sym, ap, ◌∙◌}
use mathlib.Core.Bool.{true}
use mathlib.Core.List.{List, [], ◌∷◌}
use native.Mathlib.Omega.{arith}
use lib.ListN.{length}
use lib.Dec.{eqb}
use Rattle.protocol.specs.Memory.{Memory, Replica, Certificate, Assignment, replica_count, fault_bound_at, certificate_count_at}
use Rattle.protocol.specs.Memory.{block_count_at, fault_bound, certificate_count, block_count, step_at, kept_step, replica, certificate_words}
use Rattle.protocol.specs.Memory.{certificate_at, certificate, words, block_at, parent_at, height_at, parent, kept_height, block_record}
use Rattle.protocol.specs.Memory.{update, append_certificate, append_block}
use Rattle.protocol.specs.Form.{lengths_fit, counts_fit, replica_formed, certificate_formed}
use Rattle.protocol.specs.Certificates.{can_file, file, log_has_room}
use Rattle.protocol.specs.Outcome.{Need, ◌else◌, no_room}
use Rattle.protocol.specs.FirstNeeds.{is_replica}
use Rattle.protocol.specs.Calls.{issuing}
use Rattle.protocol.specs.Theorems.{SameLengths}
use Rattle.protocol.proofs.logic.Booleans.{tests, by-test, each, all-hold}
use Rattle.protocol.proofs.calls.Needs.{Holds, holds_both}
use Rattle.protocol.proofs.memory.Words.{within_row}
use Rattle.protocol.proofs.memory.Blocks.{child_formed, forms_same}
use Rattle.protocol.proofs.memory.Formed.{Formed, steps_same, sizes}
use Rattle.protocol.proofs.memory.Filing.{file_cases, must_have_room, file_table, file_replica}
use Rattle.protocol.proofs.memory.Changes.{changed, certificate_from, update_lengths, update_header, update_other, update_own}
use Rattle.protocol.proofs.memory.Changes.{append_lengths, append_table, append_count, append_replica, append_old, append_new}
use Rattle.protocol.proofs.memory.Changes.{block_lengths, block_table, block-count, block_replica, block_old, block_new}

-- ---- the parts

pub lengths_same : (m m' : Memory) (f : ℕ) → SameLengths m m' → lengths_fit m f ≡ lengths_fit m' f
unfolding lengths_fit
lengths_same m m' f s = rw (s.table, s.log, s.blocks) refl

pub counts-fit : (m : Memory) → certificate_at (certificate_count m) ≤ length m.log → block_at (block_count m) ≤ length m.blocks
    → 1 ≤ block_count m → counts_fit m ≡ true
unfolding counts_fit
counts-fit m a b c = all-hold _ (omega tests)

pub row_grows : (a b : ℕ) (r : Replica) → a ≤ b → replica_formed a r ≡ true → replica_formed b r ≡ true
unfolding replica_formed
row_grows a b r le e = let h = each _ e in all-hold _ (omega tests)

pub certificate_grows : (n a b : ℕ) (c : Certificate) → a ≤ b → certificate_formed n a c ≡ true → certificate_formed n b c ≡ true
unfolding certificate_formed
certificate_grows n a b c le e = let h = each _ e in all-hold _ (omega tests)

-- ---- words of a replica

-- Assignments within the row that leave the replica in its ranges.
pub record Suits (m : Memory) (i : ℕ) (cs : List Assignment) : Type 0 where
  pub within : within_row cs ≡ true
  pub row : replica_formed (block_count m) (changed cs (replica m i)) ≡ true

pub update_keeps : (m : Memory) (i : ℕ) (cs : List Assignment) → Formed m → is_replica m i ≡ true → Suits m i cs
    → Formed (update m i cs)
unfolding update
update_keeps m i cs h own suits =
    let within = suits.within in
    let z = sizes m h in
    let f = update_header m i cs within fault_bound_at (omega arith) in
    let c = update_header m i cs within certificate_count_at (omega arith) in
    let b = update_header m i cs within block_count_at (omega arith) in
    let same = lengths_same (update m i cs) m (fault_bound m) (update_lengths m i cs) in
    record {
      faults = rw f h.faults;
      lengths = rw f (same ∙ h.lengths);
      counts = counts-fit (update m i cs) (omega arith) (omega arith) (omega arith);
      steps = steps_same _ (kept_step m) (λ k l. update_header m i cs within (step_at k) (omega arith)) ∙ h.steps;
      blocks = λ x l. h.blocks x (omega arith);
      rows =
          λ j l.
          rw b
          (by-test (eqb j i)
          (λ e.
          let q : j ≡ i = omega tests in
          rw q (ap (replica_formed (block_count m)) (update_own m i cs within (omega tests)) ∙ suits.row))
          (λ e. ap (replica_formed (block_count m)) (update_other m i cs within j (omega tests)) ∙ h.rows j (omega arith)));
      log = λ x l. rw (f, b) (h.log x (omega arith));
    }

-- ---- a certificate more

pub append_keeps : (m : Memory) (ws : List ℕ) → length ws ≡ certificate_words → Formed m → log_has_room m ≡ true
    → certificate_formed (replica_count (fault_bound m)) (block_count m) (certificate_from ws) ≡ true → Formed (append_certificate m ws)
unfolding append_certificate
append_keeps m ws whole h room good =
    let z = sizes m h in
    let f = append_table m ws whole fault_bound_at (omega arith) in
    let c = append_count m ws whole (omega arith) in
    let b = append_table m ws whole block_count_at (omega arith) in
    let s = append_lengths m ws whole in
    let fits : certificate_at (certificate_count m) + certificate_words ≤ length m.log = omega tests in
    record {
      faults = rw f h.faults;
      lengths = rw f (lengths_same (append_certificate m ws) m (fault_bound m) s ∙ h.lengths);
      counts = counts-fit (append_certificate m ws) (omega arith) (omega arith) (omega arith);
      steps = steps_same _ (kept_step m) (λ k l. append_table m ws whole (step_at k) (omega arith)) ∙ h.steps;
      blocks = λ x l. h.blocks x (omega arith);
      rows = λ j l. rw b (ap (replica_formed (block_count m)) (append_replica m ws whole j) ∙ h.rows j (omega arith));
      log =
          λ x l.
          rw (f, b)
          (by-test (eqb x (certificate_count m))
          (λ e.
          let q : x ≡ certificate_count m = omega tests in
          rw q (ap (certificate_formed _ _) (append_new m ws whole fits) ∙ good))
          (λ e. ap (certificate_formed _ _) (append_old m ws whole x (omega tests)) ∙ h.log x (omega tests)));
    }

-- Filing, where it is found or has room.
pub file_keeps : (m : Memory) (c : Certificate) → Formed m → can_file m (words c) ≡ true
    → certificate_formed (replica_count (fault_bound m)) (block_count m) c ≡ true → Formed (file m (words c))
file_keeps m c h can good =
    file_cases Formed m (words c) (λ e. h) (λ e. append_keeps m (words c) refl h (must_have_room m (words c) can e) good)

-- ---- a block more

pub block_keeps : (m : Memory) (p : ℕ) → Formed m → p < block_count m → block_at (block_count m) < length m.blocks
    → Formed (append_block m (block_record p (kept_height m p + 1)))
unfolding append_block
block_keeps m p h known room =
    let ws = block_record p (kept_height m p + 1) in
    let m' = append_block m ws in
    let z = sizes m h in
    let f = block_table m ws refl fault_bound_at (omega arith) in
    let c = block_table m ws refl certificate_count_at (omega arith) in
    let b = block-count m ws refl (omega arith) in
    let s = block_lengths m ws refl in
    let height-old : (x : ℕ) → x < block_count m → kept_height m' x ≡ kept_height m x = λ x l. block_old m ws refl x height_at l (omega arith) in
    record {
      faults = rw f h.faults;
      lengths = rw f (lengths_same m' m (fault_bound m) s ∙ h.lengths);
      counts = counts-fit m' (omega arith) (omega arith) (omega arith);
      steps = steps_same _ (kept_step m) (λ k l. block_table m ws refl (step_at k) (omega arith)) ∙ h.steps;
      blocks =
          λ x l.
          by-test (eqb x (block_count m))
          (λ e.
          let q : x ≡ block_count m = omega tests in
          let parent_is = block_new m ws refl parent_at (omega arith) (omega arith) in
          let height-is = block_new m ws refl height_at (omega arith) (omega arith) in
          rw q
          (child_formed (parent m') (kept_height m') (block_count m) (omega arith) (omega arith)
          (height-is ∙ ap (λ (y : ℕ). y + 1) (sym (ap (kept_height m') parent_is ∙ height-old p known)))))
          (λ e.
          forms_same (parent m') (kept_height m') (parent m) (kept_height m) (block_count m)
          (λ y l. block_old m ws refl y parent_at l (omega arith)) height-old x (omega tests)
          ∙ h.blocks x (omega tests));
      rows =
          λ j l.
          row_grows (block_count m) (block_count m') (replica m' j) (omega arith)
          (ap (replica_formed (block_count m)) (block_replica m ws refl j) ∙ h.rows j (omega arith));
      log =
          λ x l.
          rw f (certificate_grows _ (block_count m) (block_count m') (certificate m x) (omega arith) (h.log x (omega arith)));
    }

-- ---- an issuing call: the certificate filed, words of the replica changed

-- The needs of an issuing call, and that its certificate can be filed.
pub issuing_needs : (m : Memory) (needs : List Need) (i : ℕ) (cs : List Assignment) (c : Certificate)
    → Holds (issuing m needs i cs c).needs → Holds needs × (can_file m (words c) ≡ true)
unfolding issuing
issuing_needs m needs i cs c h = let both = holds_both needs (can_file m (words c) else no_room ∷ []) h in (both.0, both.1.0)

pub issuing_keeps : (m : Memory) (needs : List Need) (i : ℕ) (cs : List Assignment) (c : Certificate)
    → Holds (issuing m needs i cs c).needs → Formed m → is_replica m i ≡ true
    → certificate_formed (replica_count (fault_bound m)) (block_count m) c ≡ true → Suits m i cs
    → Formed (issuing m needs i cs c).after
unfolding issuing
issuing_keeps m needs i cs c hold h own certificate suits =
    let f = file_table m (words c) refl fault_bound_at (omega arith) in
    let b = file_table m (words c) refl block_count_at (omega arith) in
    let can = (issuing_needs m needs i cs c hold).1 in
    update_keeps (file m (words c)) i cs (file_keeps m c h can certificate) (omega tests)
    (record {
      within = suits.within;
      row = rw b (ap (λ (r : Replica). replica_formed (block_count m) (changed cs r)) (file_replica m (words c) refl i) ∙ suits.row);
    })
