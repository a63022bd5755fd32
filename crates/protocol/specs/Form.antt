-- The form that every call but opening tests (document 01, "Memory", the paragraph "Form").
use Rattle.std.specs.Prelude.{ℕ, zero, suc, ◌+◌, ◌%◌, Bool, true, cond, ◌&&◌, List, [], ◌∷◌, length, ltb, leb, eqb}
use Rattle.protocol.specs.Memory.{Memory, Replica, Certificate, max_fault_bound, replica_count, ceiling, fault_bound}
use Rattle.protocol.specs.Memory.{certificate_count, block_count, step_count, last_step, kept_step, table_length, retired, raised}
use Rattle.protocol.specs.Memory.{replica, certificate_words, certificate_at, certificate, max_certificates, block_words, block_at}
use Rattle.protocol.specs.Memory.{parent, kept_height, max_blocks}

-- All tests of a list hold.
unfoldable pub all_hold : List Bool → Bool
all_hold [] = true
all_hold (t ∷ ts) = t && all_hold ts

-- A test holds of every number below a count.
unfoldable pub all_below : ℕ → (ℕ → Bool) → Bool
all_below zero test = true
all_below (suc k) test = all_below k test && test k

-- "f 1 to 30"
abbrev pub is_fault_bound : ℕ → Bool
is_fault_bound f = all_hold (leb 1 f ∷ leb f max_fault_bound ∷ [])

-- "lengths as above": the table for f, the log whole certificates and at most 4,096, the blocks whole records and 1 to 4,096.
unfoldable pub lengths_fit : Memory → ℕ → Bool
lengths_fit m f =
    all_hold
    (eqb (length m.table) (table_length f)
    ∷ eqb (length m.log % certificate_words) 0
    ∷ leb (length m.log) (certificate_at max_certificates)
    ∷ eqb (length m.blocks % block_words) 0
    ∷ leb (block_at 1) (length m.blocks)
    ∷ leb (length m.blocks) (block_at max_blocks)
    ∷ [])

-- "counts within places, at least one block"
unfoldable pub counts_fit : Memory → Bool
counts_fit m =
    all_hold
    (leb (certificate_at (certificate_count m)) (length m.log)
    ∷ leb (block_at (block_count m)) (length m.blocks)
    ∷ leb 1 (block_count m)
    ∷ [])

-- Document 02, #104, of the steps by their number: "Each is 1 to 4,096 and none is smaller than the one before."
abbrev pub max_step : ℕ
max_step = 4096

unfoldable pub steps_formed : (ℕ → ℕ) → Bool
steps_formed step =
    all_hold
    (all_below step_count (λ k. all_hold (leb 1 (step k) ∷ leb (step k) max_step ∷ []))
    ∷ all_below last_step (λ k. leb (step k) (step (suc k)))
    ∷ [])

-- "block 0's parent is 0 and every other added block's parent is below it"; document 02, #105: "Block 0 has height 0 and any other one more
-- than its parent; the form test checks this for each block". Of the parents and heights by block number.
unfoldable pub block_formed : (ℕ → ℕ) → (ℕ → ℕ) → ℕ → Bool
block_formed parent_of height_of b =
    cond (eqb b 0) (all_hold (eqb (parent_of b) 0 ∷ eqb (height_of b) 0 ∷ []))
    (all_hold (ltb (parent_of b) b ∷ eqb (height_of b) (height_of (parent_of b) + 1) ∷ []))

-- "status ≤ 2, flag ≤ 1; 1 ≤ low ≤ bound ≤ 1,000,000; stored view < low; shown view and boot ≤ 1,000,000; named blocks added"
unfoldable pub replica_formed : ℕ → Replica → Bool
replica_formed added r =
    all_hold
    (leb r.status retired
    ∷ leb r.flag raised
    ∷ leb 1 r.min_view
    ∷ leb r.min_view r.view_limit
    ∷ leb r.view_limit ceiling
    ∷ ltb r.stored_view r.min_view
    ∷ leb r.decided_view ceiling
    ∷ leb r.boot ceiling
    ∷ ltb r.stored_block added
    ∷ ltb r.decided_block added
    ∷ [])

abbrev pub last_kind : ℕ
last_kind = 6

-- "in an issued certificate, kind 1 to 6, signer and subject below n, view, of-view and boot ≤ 1,000,000"; its block is a named one.
-- Document 02, #107: "The form test bounds the new word at 1,000,000."
unfoldable pub certificate_formed : ℕ → ℕ → Certificate → Bool
certificate_formed replicas added c =
    all_hold
    (leb 1 c.kind
    ∷ leb c.kind last_kind
    ∷ ltb c.signer replicas
    ∷ ltb c.subject replicas
    ∷ leb c.view ceiling
    ∷ leb c.of_view ceiling
    ∷ leb c.subject_boot ceiling
    ∷ leb c.signer_boot ceiling
    ∷ ltb c.block added
    ∷ [])

-- "Form", whole. "Words past the counts are neither read nor changed, except where a new item goes. Every call but opening tests the form
-- of the whole memory": it is the first need of each rule but opening's. Of the steps, document 02, #104: "the form test covers them".
unfoldable pub well_formed : Memory → Bool
well_formed m =
    all_hold
    (is_fault_bound (fault_bound m)
    ∷ lengths_fit m (fault_bound m)
    ∷ counts_fit m
    ∷ steps_formed (kept_step m)
    ∷ all_below (block_count m) (block_formed (parent m) (kept_height m))
    ∷ all_below (replica_count (fault_bound m)) (λ i. replica_formed (block_count m) (replica m i))
    ∷ all_below (certificate_count m) (λ c. certificate_formed (replica_count (fault_bound m)) (block_count m) (certificate m c))
    ∷ [])
