-- Two memories that differ only in words past their counts: what is read of them is the same, and what a change leaves differs so again.
use Prim.Native.Nat.{ℕ, zero, suc, ◌+◌, ◌<◌}
use mathlib.Core.Path.{◌≡◌, refl, sym, ap, ◌∙◌}
use mathlib.Core.Bool.{Bool, true, false, cond}
use mathlib.Core.List.{List}
use native.Mathlib.Omega.{arith}
use lib.ListN.{length, get_or}
use lib.Seq.{length-sets}
use lib.Dec.{ltb, eqb}
use Rattle.protocol.specs.Memory.{Memory, Assignment, replica_count, certificate_count_at, block_count_at, fault_bound, certificate_count}
use Rattle.protocol.specs.Memory.{block_count, row_at, certificate_words, certificate_at, certificate_word, certificate, block_words}
use Rattle.protocol.specs.Memory.{block_at}
use Rattle.protocol.specs.Memory.{parent_at, height_at, parent, kept_height, assign, update, append_certificate, append_block}
use Rattle.protocol.specs.Form.{counts_fit, block_formed, certificate_formed, well_formed}
use Rattle.protocol.specs.Certificates.{first_below, has_words, number_for, is_filed, can_file, file}
use Rattle.protocol.specs.Quorum.{is_issued, all_issued, certificates_of}
use Rattle.protocol.specs.FirstNeeds.{is_block}
use Rattle.protocol.specs.Theorems.{SameLengths, Alike}
use Rattle.protocol.proofs.logic.Booleans.{tests, by-test, same_below}
use Rattle.protocol.proofs.memory.Words.{within_row, sets_alike}
use Rattle.protocol.proofs.memory.Blocks.{forms_same}
use Rattle.protocol.proofs.memory.Changes.{certificate_same, update_header, append_table, append_count, block_table}
use Rattle.protocol.proofs.memory.Changes.{block-count}
use Rattle.protocol.proofs.memory.Formed.{Formed, sizes}
use Rattle.protocol.proofs.memory.Keeps.{lengths_same}
use Rattle.protocol.proofs.memory.Lists.{same_named}

-- A memory with the same table and another log and other blocks.
abbrev pub twin : Memory → List ℕ → List ℕ → Memory
twin m l b = record { table = m.table; log = l; blocks = b }

pub same_first : (k : ℕ) (s t : ℕ → Bool) → ((i : ℕ) → i < k → s i ≡ t i) → first_below k s ≡ first_below k t
unfolding first_below
same_first zero s t h = refl
same_first (suc k) s t h = rw (same_first k s t (λ i l. h i (omega arith)), h k (omega arith)) refl

module _ (m : Memory) (l b : List ℕ) (a : Alike m (twin m l b)) where
  pub lengths_alike : SameLengths m (twin m l b)
  lengths_alike = record { table = refl; log = a.log_length; blocks = a.blocks_length }

  pub word_same : (c k : ℕ) → is_issued m c ≡ true → ltb k certificate_words ≡ true
      → certificate_word m c k ≡ certificate_word (twin m l b) c k
  word_same c k h j = a.log (certificate_at c + k) (omega tests)

  pub parent_same : (x : ℕ) → is_block m x ≡ true → parent m x ≡ parent (twin m l b) x
  parent_same x h = a.blocks (block_at x + parent_at) (omega tests)

  pub kept_same : (x : ℕ) → is_block m x ≡ true → kept_height m x ≡ kept_height (twin m l b) x
  kept_same x h = a.blocks (block_at x + height_at) (omega tests)

  pub named_same : (list : List ℕ) → all_issued m list ≡ true → certificates_of m list ≡ certificates_of (twin m l b) list
  named_same list e =
      sym
      (same_named m (twin m l b)
      (λ x h. certificate_same (twin m l b) m x (λ k j. sym (word_same x k (omega tests) (omega tests)))) list e)

  pub form_same : well_formed m ≡ well_formed (twin m l b)
  unfolding well_formed counts_fit
  form_same =
      let fit = lengths_same m (twin m l b) (fault_bound m) lengths_alike in
      let blocks =
      same_below (block_count m) (block_formed (parent m) (kept_height m)) (block_formed (parent (twin m l b)) (kept_height (twin m l b)))
      (forms_same (parent m) (kept_height m) (parent (twin m l b)) (kept_height (twin m l b)) (block_count m) (λ x h. parent_same x (omega tests))
      (λ x h. kept_same x (omega tests))) in
      let log =
      same_below (certificate_count m) (λ c. certificate_formed (replica_count (fault_bound m)) (block_count m) (certificate m c))
      (λ c. certificate_formed (replica_count (fault_bound m)) (block_count m) (certificate (twin m l b) c))
      (λ c h. ap (certificate_formed _ _) (certificate_same m (twin m l b) c (λ k j. word_same c k (omega tests) (omega tests)))) in
      rw (fit, a.log_length, a.blocks_length, blocks, log) refl

  pub number_same : (ws : List ℕ) → number_for m ws ≡ number_for (twin m l b) ws
  unfolding number_for has_words
  number_same ws =
      same_first (certificate_count m) _ _
      (λ c h. same_below certificate_words _ _ (λ k j. ap (λ (x : ℕ). eqb x (get_or ws k 0)) (word_same c k (omega tests) (omega tests))))

  pub filed_same : (ws : List ℕ) → is_filed m ws ≡ is_filed (twin m l b) ws
  unfolding is_filed
  filed_same ws = rw number_same refl

  pub can_same : (ws : List ℕ) → can_file m ws ≡ can_file (twin m l b) ws
  unfolding can_file
  can_same ws = rw (filed_same, a.log_length) refl

  pub append_alike : (ws : List ℕ) → length ws ≡ certificate_words → Formed m
      → Alike (append_certificate m ws) (append_certificate (twin m l b) ws)
  unfolding append_certificate
  append_alike ws whole formed =
      let z = sizes m formed in
      let more = append_count m ws whole (omega arith) in
      let same = append_table m ws whole block_count_at (omega arith) in
      let at = certificate_at (certificate_count m) in
      record {
        table = refl;
        log_length = length-sets m.log at ws ∙ a.log_length ∙ sym (length-sets l at ws);
        blocks_length = a.blocks_length;
        log =
            λ k h.
            sets_alike ws m.log l at k a.log_length
            (λ far.
            by-test (ltb k at) (λ e. a.log k (omega tests))
            (λ e. let beyond = far (omega tests) in absurd (omega arith)));
        blocks = λ k h. a.blocks k (omega arith);
      }

  pub file_alike : (ws : List ℕ) → length ws ≡ certificate_words → Formed m → Alike (file m ws) (file (twin m l b) ws)
  unfolding file
  file_alike ws whole formed = rw (← filed_same ws) (go (is_filed m ws))
    where
      go : (t : Bool) → Alike (cond t m (append_certificate m ws)) (cond t (twin m l b) (append_certificate (twin m l b) ws))
      go true = a
      go false = append_alike ws whole formed

  pub block_alike : (ws : List ℕ) → length ws ≡ block_words → Formed m → Alike (append_block m ws) (append_block (twin m l b) ws)
  unfolding append_block
  block_alike ws whole formed =
      let z = sizes m formed in
      let more = block-count m ws whole (omega arith) in
      let same = block_table m ws whole certificate_count_at (omega arith) in
      let at = block_at (block_count m) in
      record {
        table = refl;
        log_length = a.log_length;
        blocks_length = length-sets m.blocks at ws ∙ a.blocks_length ∙ sym (length-sets b at ws);
        log = λ k h. a.log k (omega arith);
        blocks =
            λ k h.
            sets_alike ws m.blocks b at k a.blocks_length
            (λ far.
            by-test (ltb k at) (λ e. a.blocks k (omega tests))
            (λ e. let beyond = far (omega tests) in absurd (omega arith)));
      }

pub update_alike : (m m' : Memory) (i : ℕ) (cs : List Assignment) → within_row cs ≡ true → Alike m m'
    → Alike (update m i cs) (update m' i cs)
unfolding update
update_alike m m' i cs within a =
    let c = update_header m i cs within certificate_count_at (omega arith) in
    let b = update_header m i cs within block_count_at (omega arith) in
    record {
      table = ap (λ (t : List ℕ). assign t (row_at i) cs) a.table;
      log_length = a.log_length;
      blocks_length = a.blocks_length;
      log = λ k h. a.log k (omega arith);
      blocks = λ k h. a.blocks k (omega arith);
    }
