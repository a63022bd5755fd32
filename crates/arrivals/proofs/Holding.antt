-- The slice with one entry more, and with one less, as its words are written.
use Prim.Native.Nat.{ℕ, ◌+◌, ◌*◌, ◌-◌, ◌≤◌}
use mathlib.Core.Path.{◌≡◌, refl, sym, ap, ◌∙◌}
use mathlib.Core.List.{List, [], ◌∷◌, ◌++◌}
use native.Mathlib.Omega.{arith}
use lib.ListN.{length, set, take, drop, length-append, length-drop, length-take}
use Rattle.std.specs.List.{copy_within}
use lib.Seq.{sets, sets-eq, paste}
use Rattle.entries.specs.declared.Entry.{Entry}
use Rattle.entries.specs.Entries.{waiting_count_at, entry_width, entry_at, waiting_count, entries_from, entries, words_of, all_words_of, holding}
use Rattle.entries.proofs.Words.{sets_append, words_length, words_append, from_length, front_kept, words_from, holding_joined}
use Rattle.arrivals.specs.inner.Found.{closed_up, Removable}

pub appended : (w : List ℕ) (e : Entry)
    → set (sets w (entry_at (waiting_count w)) (words_of e)) waiting_count_at (waiting_count w + 1) ≡ holding w (entries w ++ (e ∷ []))
appended w e =
    let n = from_length w 0 (waiting_count w) in
    let more : length (entries w ++ (e ∷ [])) ≡ waiting_count w + 1 = length-append (entries w) (e ∷ []) ∙ omega arith in
    sym (holding_joined w (e ∷ []) ∙ rw more refl)

-- A run of words that stand elsewhere is a copy.
run_copied : (w s : List ℕ) (at n : ℕ) → at + n ≤ length w → n ≤ length s → sets w at (take n s) ≡ paste w at s n
run_copied w s at n room long =
    let size : length (take n s) ≡ n = length-take n s ∙ omega arith in
    sets-eq (take n s) w at (rw size room) ∙ rw size refl

module _ (w : List ℕ) (slot : ℕ) (h : Removable w slot) where
  pub closed_length : length (closed_up w slot) ≡ waiting_count w - 1
  closed_length =
      let a = from_length w 0 slot in
      let b = from_length w (slot + 1) (waiting_count w - (slot + 1)) in
      length-append (entries_from w 0 slot) (entries_from w (slot + 1) (waiting_count w - (slot + 1))) ∙ omega (arith, h.there)

  -- The words from the next slot on, in the places from this slot on.
  abbrev moved : List ℕ
  moved = copy_within w (entry_at (slot + 1)) (entry_at (waiting_count w)) (entry_at slot)

  closed_words : sets w (entry_at 0) (all_words_of (closed_up w slot)) ≡ moved
  closed_words =
      let m = waiting_count w - (slot + 1) in
      let front = entries_from w 0 slot in
      let back = entries_from w (slot + 1) m in
      let n = words_length front in
      let count = from_length w 0 slot in
      let size = h.size in
      let few = h.few in
      let there = h.there in
      let at : entry_at 0 + length (all_words_of front) ≡ entry_at slot = omega arith in
      let many : entry_width * m ≡ entry_at (waiting_count w) - entry_at (slot + 1) = omega arith in
      let left = length-drop (entry_at (slot + 1)) w in
      rw (words_append front back, sets_append (all_words_of front) (all_words_of back) w (entry_at 0), at, front_kept w 0 slot)
      (ap (sets w (entry_at slot)) (words_from w (slot + 1) m (omega arith))
      ∙ rw many (run_copied w (drop (entry_at (slot + 1)) w) (entry_at slot) (entry_at (waiting_count w) - entry_at (slot + 1)) (omega arith) (omega arith)))

  pub closed : set moved waiting_count_at (waiting_count w - 1) ≡ holding w (closed_up w slot)
  unfolding holding
  closed = rw (closed_words, closed_length) refl
