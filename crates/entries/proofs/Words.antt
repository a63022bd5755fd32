-- The words of the further slice: entries written one after the other and read again.
use Prim.Native.Nat.{ℕ, zero, suc, ◌+◌, ◌*◌, ◌≤◌, ◌<◌}
use mathlib.Core.Path.{◌≡◌, refl, ap, ◌∙◌}
use mathlib.Core.List.{List, [], ◌∷◌, ◌++◌}
use native.Mathlib.Omega.{arith}
use lib.ListN.{length, get_or, set, take, drop, length-set}
use lib.Seq.{sets, length-sets, get_or-set_same, get_or-set_other, set-get_or, drop-cons}
use Rattle.protocol.proofs.memory.Words.{sets_at, sets_elsewhere}
use Rattle.entries.specs.declared.Entry.{Entry}
use Rattle.entries.specs.Entries.{max_waiting, max_replicas, kept_pallets_at, kept_earliest_at, entry_width, entry_at, place_at}
use Rattle.entries.specs.Entries.{waiting_words, waiting_count, entry, entries_from, entries, all_words_of, pallets_for, earliest_for}
use Rattle.entries.specs.Entries.{holding, refreshed}

-- ---- runs of words

pub sets_append : (xs ys l : List ℕ) (at : ℕ) → sets l at (xs ++ ys) ≡ sets (sets l at xs) (at + length xs) ys
sets_append [] ys l at = let q : at + 0 ≡ at = omega arith in rw q
sets_append (x ∷ xs) ys l at =
    let q : at + suc (length xs) ≡ suc at + length xs = omega arith in
    rw q (sets_append xs ys (set l at x) (suc at))

pub words_length : (es : List Entry) → length (all_words_of es) ≡ entry_width * length es
words_length [] = refl
words_length (e ∷ es) = let h = words_length es in omega arith

pub words_append : (es fs : List Entry) → all_words_of (es ++ fs) ≡ all_words_of es ++ all_words_of fs
words_append [] fs = refl
words_append (e ∷ es) fs = rw (words_append es fs)

-- ---- so many entries, from one on

pub from_length : (w : List ℕ) (k n : ℕ) → length (entries_from w k n) ≡ n
unfolding entries_from
from_length w k zero = refl
from_length w k (suc n) = ap suc (from_length w (suc k) n)

pub from_append : (w : List ℕ) (k n m : ℕ) → entries_from w k (n + m) ≡ entries_from w k n ++ entries_from w (k + n) m
unfolding entries_from
from_append w k zero m = let q : zero + m ≡ m = omega arith in let p : k + zero ≡ k = omega arith in rw (q, p)
from_append w k (suc n) m =
    let q : suc n + m ≡ suc (n + m) = omega arith in
    let p : k + suc n ≡ suc k + n = omega arith in
    rw (q, p) (ap (λ (es : List Entry). entry w k ∷ es) (from_append w (suc k) n m))

pub from_same : (w w' : List ℕ) (k n : ℕ) → ((j : ℕ) → entry_at k ≤ j → j < entry_at (k + n) → get_or w j 0 ≡ get_or w' j 0)
    → entries_from w k n ≡ entries_from w' k n
unfolding entries_from
from_same w w' k zero h = refl
from_same w w' k (suc n) h =
    rw (
      h (entry_at k + 0) (omega arith) (omega arith),
      h (entry_at k + 1) (omega arith) (omega arith),
      h (entry_at k + 2) (omega arith) (omega arith),
      h (entry_at k + 3) (omega arith) (omega arith),
      from_same w w' (suc k) n (λ j l r. h j (omega arith) (omega arith)),
    )

-- Writing what stands there changes nothing.
pub front_kept : (w : List ℕ) (k n : ℕ) → sets w (entry_at k) (all_words_of (entries_from w k n)) ≡ w
unfolding entries_from
front_kept w k zero = refl
front_kept w k (suc n) =
    let z : entry_at k + 0 ≡ entry_at k = omega arith in
    let a : suc (entry_at k) ≡ entry_at k + 1 = omega arith in
    let b : suc (entry_at k + 1) ≡ entry_at k + 2 = omega arith in
    let c : suc (entry_at k + 2) ≡ entry_at k + 3 = omega arith in
    let d : suc (entry_at k + 3) ≡ entry_at (suc k) = omega arith in
    rw (
      z,
      a,
      b,
      c,
      d,
      set-get_or w (entry_at k) 0,
      set-get_or w (entry_at k + 1) 0,
      set-get_or w (entry_at k + 2) 0,
      set-get_or w (entry_at k + 3) 0,
    )
    (front_kept w (suc k) n)

pub words_from : (w : List ℕ) (k n : ℕ) → entry_at (k + n) ≤ length w
    → all_words_of (entries_from w k n) ≡ take (entry_width * n) (drop (entry_at k) w)
unfolding entries_from
words_from w k zero h = refl
words_from w k (suc n) h =
    let next : (i j : ℕ) → i < length w → suc i ≡ j → drop i w ≡ get_or w i 0 ∷ drop j w = λ i j l q. rw (← q) (drop-cons w i 0 l) in
    let z : entry_at k + 0 ≡ entry_at k = omega arith in
    let q : entry_width * suc n ≡ suc (suc (suc (suc (entry_width * n)))) = omega arith in
    rw (
      z,
      q,
      next (entry_at k) (entry_at k + 1) (omega arith) (omega arith),
      next (entry_at k + 1) (entry_at k + 2) (omega arith) (omega arith),
      next (entry_at k + 2) (entry_at k + 3) (omega arith) (omega arith),
      next (entry_at k + 3) (entry_at (suc k)) (omega arith) (omega arith),
      words_from w (suc k) n (omega arith),
    )

-- Words that stand from an entry on are read as the entries they were written for.
pub from_words : (es : List Entry) (v : List ℕ) (k : ℕ)
    → ((j : ℕ) → j < entry_width * length es → get_or v (entry_at k + j) 0 ≡ get_or (all_words_of es) j 0) → entries_from v k (length es) ≡ es
unfolding entries_from
from_words [] v k h = refl
from_words (e ∷ es) v k h =
    rw (
      h 0 (omega arith),
      h 1 (omega arith),
      h 2 (omega arith),
      h 3 (omega arith),
      from_words es v (suc k)
          (λ j l.
          let q : entry_at (suc k) + j ≡ entry_at k + suc (suc (suc (suc j))) = omega arith in
          rw q (h (suc (suc (suc (suc j)))) (omega arith))),
    )

-- ---- the slice with entries written

pub holding_length : (w : List ℕ) (es : List Entry) → length (holding w es) ≡ length w
unfolding holding
holding_length w es = simp (length-set, length-sets)

pub holding_count : (w : List ℕ) (es : List Entry) → 0 < length w → waiting_count (holding w es) ≡ length es
unfolding holding
holding_count w es h =
    let n = length-sets w (entry_at 0) (all_words_of es) in
    get_or-set_same (sets w (entry_at 0) (all_words_of es)) 0 (length es) 0 (omega arith)

pub entries_held : (w : List ℕ) (es : List Entry) → length es ≤ max_waiting → length w ≡ waiting_words → entries (holding w es) ≡ es
unfolding holding
entries_held w es few long =
    let n = words_length es in
    rw (holding_count w es (omega arith))
    (from_words es (holding w es) 0
    (λ j l.
    get_or-set_other (sets w (entry_at 0) (all_words_of es)) 0 (entry_at 0 + j) (length es) 0 (omega arith)
    ∙ sets_at (all_words_of es) w (entry_at 0) j (omega arith) (omega arith)))

-- A word that is neither the count nor of an entry written.
pub holding_elsewhere : (w : List ℕ) (es : List Entry) (j : ℕ) → (j ≡ 0 → ⊥) → (entry_at 0 ≤ j → entry_at (length es) ≤ j)
    → get_or (holding w es) j 0 ≡ get_or w j 0
unfolding holding
holding_elsewhere w es j z far =
    let n = words_length es in
    get_or-set_other (sets w (entry_at 0) (all_words_of es)) 0 j (length es) 0 z
    ∙ sets_elsewhere (all_words_of es) w (entry_at 0) j (λ l. let beyond = far l in omega arith)

-- Entries after those that wait: only their words are written, and the count.
pub holding_joined : (w : List ℕ) (es : List Entry)
    → holding w (entries w ++ es) ≡ set (sets w (entry_at (waiting_count w)) (all_words_of es)) 0 (length (entries w ++ es))
unfolding holding
holding_joined w es =
    let n = words_length (entries w) in
    let count = from_length w 0 (waiting_count w) in
    let at : entry_at 0 + length (all_words_of (entries w)) ≡ entry_at (waiting_count w) = omega arith in
    rw (
      words_append (entries w) es,
      sets_append (all_words_of (entries w)) (all_words_of es) w (entry_at 0),
      at,
      front_kept w 0 (waiting_count w),
    )

-- ---- what leaves the entries

pub entries_same : (w w' : List ℕ) → waiting_count w ≡ waiting_count w'
    → ((j : ℕ) → entry_at 0 ≤ j → j < entry_at (waiting_count w) → get_or w j 0 ≡ get_or w' j 0) → entries w ≡ entries w'
entries_same w w' count h =
    from_same w w' 0 (waiting_count w) (λ j l r. h j l (omega arith)) ∙ ap (entries_from w' 0) count

pub refreshed_length : (w : List ℕ) (taker : ℕ) → length (refreshed w taker) ≡ length w
unfolding refreshed
refreshed_length w taker = simp length-set

-- A word that is neither of a taker's two.
pub refreshed_elsewhere : (w : List ℕ) (taker j : ℕ) → (j ≡ kept_pallets_at taker → ⊥) → (j ≡ kept_earliest_at taker → ⊥)
    → get_or (refreshed w taker) j 0 ≡ get_or w j 0
unfolding refreshed
refreshed_elsewhere w taker j p e =
    get_or-set_other (set w (kept_pallets_at taker) (pallets_for taker (entries w))) (kept_earliest_at taker) j (earliest_for taker (entries w)) 0 e
    ∙ get_or-set_other w (kept_pallets_at taker) j (pallets_for taker (entries w)) 0 p

pub entries_refreshed : (w : List ℕ) (taker : ℕ) → taker < max_replicas → entries (refreshed w taker) ≡ entries w
entries_refreshed w taker h =
    entries_same (refreshed w taker) w (refreshed_elsewhere w taker 0 (λ e. omega arith) (λ e. omega arith))
    (λ j l r. refreshed_elsewhere w taker j (λ e. omega arith) (λ e. omega arith))

pub entries_placed : (w : List ℕ) (place v : ℕ) → waiting_count w ≤ max_waiting → entries (set w (place_at place) v) ≡ entries w
entries_placed w place v h =
    let count : waiting_count (set w (place_at place) v) ≡ waiting_count w = get_or-set_other w (place_at place) 0 v 0 (omega arith) in
    entries_same (set w (place_at place) v) w count (λ j l r. get_or-set_other w (place_at place) j v 0 (omega arith))
