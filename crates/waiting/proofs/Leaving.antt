-- Slices that a taker's words may be written from; and what an entry's leaving leaves.
use Prim.Native.Nat.{ℕ, ◌+◌, ◌-◌, ◌≤◌, ◌<◌}
use mathlib.Core.Path.{◌≡◌, refl, ◌∙◌}
use mathlib.Core.Bool.{true}
use mathlib.Core.List.{List, [], ◌∷◌, ◌++◌}
use native.Mathlib.Omega.{arith}
use lib.ListN.{length}
use Rattle.protocol.specs.Memory.{replica_count, fault_bound}
use Rattle.movements.specs.Movements.{max_pallets}
use Rattle.entries.specs.declared.Entry.{Entry}
use Rattle.entries.specs.Entries.{max_waiting, max_replicas, waiting_words, waiting_count, entry, entries_from, entries, entry_allowed}
use Rattle.entries.specs.Entries.{holding}
use Rattle.entries.specs.Waiting.{Lent, departed}
use Rattle.entries.proofs.Words.{entries_held, holding_length, holding_count, refreshed_length}
use Rattle.entries.proofs.Lists.{All, all_joined, all_from, from_all}
use Rattle.entries.proofs.Slices.{is-allowed, slice_count, joined_length}
use Rattle.arrivals.specs.inner.Found.{FirstWith, closed_up, Removable, Refreshable}
use Rattle.arrivals.proofs.Holding.{closed_length}
use Rattle.arrivals.proofs.Finding.{found_entry, found_others}
use Rattle.waiting.specs.inner.Parts.{Leavable, left_by}
use Rattle.waiting.proofs.Known.{Known, replicas_few, few_each, taker_each}

abbrev pub Few : List Entry → Type 0
Few = All (λ e. e.pallets ≤ max_pallets)

few_both : (es fs : List Entry) → Few es → Few fs → Few (es ++ fs)
few_both [] fs h g = g
few_both (e ∷ es) fs h g = (h.0, few_both es fs h.1 g)

pub refreshable : (w : List ℕ) (es : List Entry) (taker : ℕ) → length w ≡ waiting_words → length es ≤ max_waiting → Few es
    → taker < max_replicas → Refreshable (holding w es) taker
refreshable w es taker size most few known =
    let count = holding_count w es (omega arith) in
    record {
      size = holding_length w es ∙ size;
      few = rw count most;
      pallets =
          λ k l.
          from_all (λ e. e.pallets ≤ max_pallets) (holding w es) 0 (waiting_count (holding w es))
          (rw (entries_held w es most size) few) k (omega arith) (omega arith);
      known = known;
    }

module _ (w : List ℕ) (slot : ℕ) (h : Leavable w slot) where
  pub removable : Removable w slot
  removable = record { size = h.size; few = h.few; there = h.there }

  pub left_refreshable : Refreshable (holding w (closed_up w slot)) (entry w slot).taker
  left_refreshable =
      let there = h.there in
      let most = h.few in
      let size = closed_length w slot removable in
      let P : Entry → Type 0 = λ e. e.pallets ≤ max_pallets in
      refreshable w (closed_up w slot) (entry w slot).taker h.size (omega arith)
      (few_both (entries_from w 0 slot) (entries_from w (slot + 1) (waiting_count w - (slot + 1)))
      (all_from P w 0 slot (λ i from below. h.pallets i (omega arith)))
      (all_from P w (slot + 1) (waiting_count w - (slot + 1)) (λ i from below. h.pallets i (omega arith))))
      h.known

pub left_length : (w : List ℕ) (slot : ℕ) → length (left_by w slot) ≡ length w
left_length w slot = refreshed_length (holding w (closed_up w slot)) (entry w slot).taker ∙ holding_length w (closed_up w slot)

pub leavable : (s : Lent) → Known s → (slot : ℕ) → slot < waiting_count s.waiting → Leavable s.waiting slot
leavable s h slot l = record { size = h.size; few = h.few; pallets = few_each s h; there = l; known = taker_each s h slot l }

pub entered_refreshable : (s : Lent) → Known s → (e : Entry) → entry_allowed (replica_count (fault_bound s.memory)) e ≡ true
    → waiting_count s.waiting < max_waiting → Refreshable (holding s.waiting (entries s.waiting ++ (e ∷ []))) e.taker
entered_refreshable s h e allowed room =
    let own = is-allowed _ e allowed in
    let count = slice_count s.waiting in
    let most = replicas_few s h in
    let P : Entry → Type 0 = λ x. x.pallets ≤ max_pallets in
    refreshable s.waiting (entries s.waiting ++ (e ∷ [])) e.taker h.size
    (joined_length (entries s.waiting) e (omega arith))
    (all_joined P (entries s.waiting) e
    (all_from P s.waiting 0 (waiting_count s.waiting) (λ i from below. few_each s h i (omega arith))) own.few) (omega arith)

-- The entry of an identity, found in a slot, has departed.
pub left_departed : (w : List ℕ) (identity slot : ℕ) → FirstWith w identity (waiting_count w) slot → left_by w slot ≡ departed w identity
left_departed w identity slot f = rw (found_others identity w slot f, found_entry identity w slot f) refl
