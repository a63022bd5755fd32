-- Only the words named for a call change, and lengths never do.
use Prim.Native.Nat.{ℕ, zero, suc, ◌+◌, ◌≤◌}
use mathlib.Core.Path.{◌≡◌, refl, sym, ap, ◌∙◌}
use mathlib.Core.List.{List, [], ◌∷◌, map, Memᴰ}
use native.Mathlib.Nat.{zero-add}
use native.Mathlib.Omega.{arith}
use lib.ListN.{length, get_or, get_or-eq_default}
use lib.Seq.{sets}
use lib.Dec.{ltb}
use Rattle.protocol.specs.declared.Call.{Call}
use Rattle.protocol.specs.declared.Call.TheVariants.{Open, Block, Prepare, Store, View, Accumulate, Decide, Reboot}
use Rattle.protocol.specs.declared.Call.TheVariants.{Reserve, Request, Reply, Recover}
use Rattle.protocol.specs.Memory.{Memory, Certificate, Assignment, ◌becomes◌, replica_count, certificate_count, row_at}
use Rattle.protocol.specs.Memory.{certificate_words, certificate_at, certificate, words, replica, update, append_certificate}
use Rattle.protocol.specs.Memory.{block_count, block_words, block_at, block_record, append_block}
use Rattle.protocol.specs.Certificates.{file}
use Rattle.protocol.specs.Counter.{steps_from}
use Rattle.protocol.specs.Quorum.{certificates_of, first_of}
use Rattle.protocol.specs.Outcome.{Need}
use Rattle.protocol.specs.Calls.{issuing, fresh_header, keep_steps, opening, block, prepare, store, view}
use Rattle.protocol.specs.Calls.{accumulate, decide, reboot, reserve, request, reply, recover}
use Rattle.protocol.specs.Runs.{rule_of, step}
use Rattle.protocol.specs.Theorems.{Address, table_word, log_word, block_word, word_at, below, certificate_addresses, block_addresses}
use Rattle.protocol.specs.Theorems.{record_addresses, named, SameLengths, OnlyNamedChange, LengthsStay}
use Rattle.protocol.proofs.calls.LeavesForm.{reboot_retires}
use Rattle.protocol.proofs.logic.Booleans.{by_cond}
use Rattle.protocol.proofs.calls.Needs.{outcome_state}
use Rattle.protocol.proofs.memory.Words.{Avoids, assign_elsewhere, sets_elsewhere}
use Rattle.protocol.proofs.memory.Changes.{update_lengths, append_table, block_lengths, block_table}
use Rattle.protocol.proofs.memory.Filing.{file_cases, file_lengths}
use Rattle.protocol.proofs.memory.Opened.{fresh_log, fresh_blocks, opening_lengths}

-- An address that is none of a list.
abbrev Apart : Address → List Address → Type 0
Apart a [] = Unit {0}
Apart a (x ∷ xs) = (a ≡ x → ⊥) × Apart a xs

apart : (a : Address) (xs : List Address) → (Memᴰ a xs → ⊥) → Apart a xs
apart a [] h = tt
apart a (x ∷ xs) h = (λ e. h (Memᴰ.head e), apart a xs (λ w. h (Memᴰ.tail w)))

-- An index past a run of words from an index on.
past_run : (word : ℕ → Address) (n at j : ℕ) → Apart (word j) (map (λ k. word (at + k)) (below n)) → at ≤ j → at + n ≤ j
past_run word zero at j h le = omega arith
past_run word (suc n) at j h le =
    let more = past_run word n at j h.1 le in
    let other : j ≡ at + n → ⊥ = λ e. h.0 (ap word e) in
    omega arith

-- ---- the changes

-- An address that no assignment to a replica names.
abbrev AwayFrom : ℕ → Address → List Assignment → Type 0
AwayFrom i a [] = Unit {0}
AwayFrom i a ((o becomes v) ∷ rest) = (a ≡ table_word (row_at i + o) → ⊥) × AwayFrom i a rest

avoids : (i j : ℕ) (cs : List Assignment) → AwayFrom i (table_word j) cs → Avoids (row_at i) cs j
avoids i j [] h = tt
avoids i j ((o becomes v) ∷ rest) h = (λ e. h.0 (ap table_word e), avoids i j rest h.1)

update_frame : (m : Memory) (i : ℕ) (cs : List Assignment) (a : Address) → AwayFrom i a cs → word_at (update m i cs) a ≡ word_at m a
unfolding word_at update
update_frame m i cs (table_word j) h = assign_elsewhere cs m.table (row_at i) j (avoids i j cs h)
update_frame m i cs (log_word j) h = refl
update_frame m i cs (block_word j) h = refl

append_frame : (m : Memory) (ws : List ℕ) → length ws ≡ certificate_words → (a : Address) → Apart a (certificate_addresses m)
    → word_at (append_certificate m ws) a ≡ word_at m a
unfolding word_at append_certificate
append_frame m ws whole (table_word j) h = append_table m ws whole j (λ e. h.0 (ap table_word e))
append_frame m ws whole (log_word j) h =
    sets_elsewhere ws m.log (certificate_at (certificate_count m)) j
    (λ le. let far = past_run log_word certificate_words (certificate_at (certificate_count m)) j h.1 le in omega arith)
append_frame m ws whole (block_word j) h = refl

issuing_frame : (m : Memory) (needs : List Need) (i : ℕ) (cs : List Assignment) (c : Certificate) (a : Address) → AwayFrom i a cs
    → Apart a (certificate_addresses m) → word_at (issuing m needs i cs c).after a ≡ word_at m a
unfolding issuing
issuing_frame m needs i cs c a away new =
    update_frame (file m (words c)) i cs a away
    ∙ file_cases (λ x. word_at x a ≡ word_at m a) m (words c) (λ e. refl) (λ e. append_frame m (words c) refl a new)

-- A word of the blocks that is none of a record's.
record_frame : (blocks ws : List ℕ) → length ws ≡ block_words → (b j : ℕ) → Apart (block_word j) (record_addresses b)
    → get_or (sets blocks (block_at b) ws) j 0 ≡ get_or blocks j 0
record_frame blocks ws whole b j h =
    sets_elsewhere ws blocks (block_at b) j (λ le. let far = past_run block_word block_words (block_at b) j h le in omega arith)

block_frame : (m : Memory) (ws : List ℕ) → length ws ≡ block_words → (a : Address) → Apart a (block_addresses m)
    → word_at (append_block m ws) a ≡ word_at m a
unfolding word_at append_block
block_frame m ws whole (table_word j) h = block_table m ws whole j (λ e. h.0 (ap table_word e))
block_frame m ws whole (log_word j) h = refl
block_frame m ws whole (block_word j) h = record_frame m.blocks ws whole (block_count m) j h.1

opening_frame : (m : Memory) (f : ℕ) (list : List ℕ) (a : Address) → Apart a (named m (Open f))
    → word_at (opening m f list).after a ≡ word_at m a
unfolding opening word_at named
opening_frame m f list (table_word j) h =
    let far = past_run table_word (length m.table) 0 j (simp zero-add h.1.1) (omega arith) in
    let s = opening_lengths m f list in
    get_or-eq_default (opening m f list).after.table 0 {n = j} (omega arith)
    ∙ sym (get_or-eq_default m.table 0 {n = j} (omega arith))
opening_frame m f list (log_word j) h =
    ap (λ (l : List ℕ). get_or l j 0) (fresh_log (keep_steps (fresh_header m f) (steps_from list)) _ (replica_count f))
opening_frame m f list (block_word j) h =
    ap (λ (l : List ℕ). get_or l j 0) (fresh_blocks (keep_steps (fresh_header m f) (steps_from list)) _ (replica_count f))
    ∙ record_frame m.blocks (block_record 0 0) refl 0 j (h.0, (h.1.0, tt))

-- ---- the calls

frame : (m : Memory) (call : Call) (list : List ℕ) (a : Address) → Apart a (named m call)
    → word_at (rule_of m call list).after a ≡ word_at m a
unfolding rule_of named opening block prepare store view accumulate decide reboot reserve request reply recover
frame m (Open f) list a h = opening_frame m f list a h
frame m (Block p) list a h = block_frame m _ refl a h
frame m (Prepare i b justification) list a h = issuing_frame m _ i _ _ a (h.0, tt) h.1
frame m (Store i number) list a h = issuing_frame m _ i _ _ a (h.0, (h.1.0, (h.1.1.0, (h.1.1.1.0, tt)))) h.1.1.1.1
frame m (View i w) list a h = issuing_frame m _ i _ _ a (h.0, (h.1.0, tt)) h.1.1
frame m (Accumulate i) list a h = issuing_frame m _ i _ _ a tt h
frame m (Decide i) list a h =
    update_frame m i _ a
    (by_cond (AwayFrom i a) (ltb (replica m i).decided_view (first_of (certificates_of m list)).view) (λ e. h) (λ e. tt))
frame m (Reboot i) list a h = update_frame m i _ a (by_cond (AwayFrom i a) (reboot_retires m i) (λ e. (h.0, tt)) (λ e. h))
frame m (Reserve i) list a h = update_frame m i _ a h
frame m (Request i) list a h = issuing_frame m _ i _ _ a tt h
frame m (Reply i number) list a h =
    issuing_frame m _ i _ _ a
    (by_cond (AwayFrom i a) (ltb (replica m i).min_view (certificate m number).view) (λ e. (h.0, (h.1.0, tt))) (λ e. tt)) h.1.1
frame m (Recover i) list a h = update_frame m i _ a h

pub only-named-change : OnlyNamedChange
unfolding OnlyNamedChange step
only-named-change m call list a h =
    outcome_state m (rule_of m call list) (λ x. word_at x a ≡ word_at m a) refl
    (λ e. frame m call list a (apart a (named m call) h))

pub issuing_lengths : (m : Memory) (needs : List Need) (i : ℕ) (cs : List Assignment) (c : Certificate)
    → SameLengths (issuing m needs i cs c).after m
unfolding issuing
issuing_lengths m needs i cs c =
    let u = update_lengths (file m (words c)) i cs in
    let f = file_lengths m (words c) refl in
    record { table = u.table ∙ f.table; log = u.log ∙ f.log; blocks = u.blocks ∙ f.blocks }

lengths_after : (m : Memory) (call : Call) (list : List ℕ) → SameLengths (rule_of m call list).after m
unfolding rule_of opening block prepare store view accumulate decide reboot reserve request reply recover
lengths_after m (Open f) list = opening_lengths m f list
lengths_after m (Block p) list = block_lengths m _ refl
lengths_after m (Prepare i b justification) list = issuing_lengths m _ i _ _
lengths_after m (Store i number) list = issuing_lengths m _ i _ _
lengths_after m (View i w) list = issuing_lengths m _ i _ _
lengths_after m (Accumulate i) list = issuing_lengths m _ i _ _
lengths_after m (Decide i) list = update_lengths m i _
lengths_after m (Reboot i) list = update_lengths m i _
lengths_after m (Reserve i) list = update_lengths m i _
lengths_after m (Request i) list = issuing_lengths m _ i _ _
lengths_after m (Reply i number) list = issuing_lengths m _ i _ _
lengths_after m (Recover i) list = update_lengths m i _

pub lengths-stay : LengthsStay
unfolding LengthsStay step
lengths-stay m call list =
    outcome_state m (rule_of m call list) (λ x. SameLengths x m) (record { table = refl; log = refl; blocks = refl })
    (λ e. lengths_after m call list)
