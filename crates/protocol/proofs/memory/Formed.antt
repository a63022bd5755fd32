-- The form, both ways: what it tells, and what shows it; how large steps are, that parents fall and heights are kept, and the numbers that it
-- tells.
use Prim.Native.Nat.{ℕ, suc, ◌≤◌, ◌<◌, ◌%◌}
use mathlib.Core.Path.{◌≡◌, refl}
use mathlib.Core.Bool.{true}
use mathlib.Core.List.{[], ◌∷◌}
use native.Mathlib.Omega.{arith}
use lib.ListN.{length}
use lib.Dec.{leb}
use Rattle.protocol.specs.Memory.{Memory, max_fault_bound, replica_count, fault_bound, certificate_count, block_count, step_count}
use Rattle.protocol.specs.Memory.{last_step, kept_step, table_length, replica, certificate_words, certificate_at, certificate, block_at}
use Rattle.protocol.specs.Memory.{block_words, parent, kept_height, max_blocks}
use Rattle.protocol.specs.Ancestry.{Falls, height}
use Rattle.protocol.specs.Form.{all_hold, is_fault_bound, lengths_fit, counts_fit, max_step, steps_formed, block_formed, replica_formed}
use Rattle.protocol.specs.Form.{certificate_formed, well_formed}
use Rattle.protocol.proofs.logic.Booleans.{tests, each, all-hold, at_below, all-below, same_below}
use Rattle.protocol.proofs.memory.Blocks.{parents_fall, kept-height}

pub record Formed (m : Memory) : Type 0 where
  pub faults : is_fault_bound (fault_bound m) ≡ true
  pub lengths : lengths_fit m (fault_bound m) ≡ true
  pub counts : counts_fit m ≡ true
  pub steps : steps_formed (kept_step m) ≡ true
  pub blocks : (b : ℕ) → b < block_count m → block_formed (parent m) (kept_height m) b ≡ true
  pub rows : (i : ℕ) → i < replica_count (fault_bound m) → replica_formed (block_count m) (replica m i) ≡ true
  pub log : (c : ℕ) → c < certificate_count m
      → certificate_formed (replica_count (fault_bound m)) (block_count m) (certificate m c) ≡ true

pub formed : (m : Memory) → well_formed m ≡ true → Formed m
unfolding well_formed
formed m e =
    let h = each _ e in
    record {
      faults = h.0;
      lengths = h.1.0;
      counts = h.1.1.0;
      steps = h.1.1.1.0;
      blocks = at_below _ _ h.1.1.1.1.0;
      rows = at_below _ _ h.1.1.1.1.1.0;
      log = at_below _ _ h.1.1.1.1.1.1.0;
    }

pub form : (m : Memory) → Formed m → well_formed m ≡ true
unfolding well_formed
form m h =
    all-hold _ (
      h.faults,
      (
        h.lengths,
        (
          h.counts,
          (h.steps, (all-below _ _ h.blocks, (all-below _ _ h.rows, (all-below _ _ h.log, tt)))),
        ),
      ),
    )

-- A step of their form moves the counter, and by at most 4,096.
pub record StepBounds (step : ℕ) : Type 0 where
  pub low : 1 ≤ step
  pub high : step ≤ max_step

pub step_bounds : (step : ℕ → ℕ) → steps_formed step ≡ true → (k : ℕ) → k < step_count → StepBounds (step k)
unfolding steps_formed
step_bounds step e k l = let h = each _ (at_below _ _ (each _ e).0 k l) in omega tests

-- Steps that are the same have the same form.
pub steps_same : (s t : ℕ → ℕ) → ((k : ℕ) → k < step_count → s k ≡ t k) → steps_formed s ≡ steps_formed t
unfolding steps_formed
steps_same s t h =
    let ranges =
    same_below step_count (λ k. all_hold (leb 1 (s k) ∷ leb (s k) max_step ∷ [])) (λ k. all_hold (leb 1 (t k) ∷ leb (t k) max_step ∷ []))
    (λ k l. rw (h k l) refl) in
    let order =
    same_below last_step (λ k. leb (s k) (s (suc k))) (λ k. leb (t k) (t (suc k)))
    (λ k l. rw (h k (omega arith), h (suc k) (omega arith)) refl) in
    rw (ranges, order) refl

-- Well-formed parents fall, and heights are kept.
pub falls : (m : Memory) → Formed m → Falls (parent m) (block_count m)
falls m h = parents_fall (parent m) (kept_height m) (block_count m) h.blocks

pub height_kept : (m : Memory) → Formed m → (b : ℕ) → b < block_count m → kept_height m b ≡ height m b
height_kept m h = kept-height (parent m) (kept_height m) (block_count m) h.blocks

-- The numbers that the form tells.
pub record Sizes (m : Memory) : Type 0 where
  pub faults_low : 1 ≤ fault_bound m
  pub faults_high : fault_bound m ≤ max_fault_bound
  pub table : length m.table ≡ table_length (fault_bound m)
  pub log_whole : length m.log % certificate_words ≡ 0
  pub certificates_fit : certificate_at (certificate_count m) ≤ length m.log
  pub blocks_whole : length m.blocks % block_words ≡ 0
  pub blocks_most : length m.blocks ≤ block_at max_blocks
  pub blocks_fit : block_at (block_count m) ≤ length m.blocks
  pub blocks_some : 1 ≤ block_count m

pub sizes : (m : Memory) → Formed m → Sizes m
unfolding lengths_fit counts_fit
sizes m h =
    let a = each _ h.faults in
    let b = each _ h.lengths in
    let c = each _ h.counts in
    omega tests
