-- Reading words after writes: one word, words of a replica, a run of words.
use Prim.Native.Nat.{ℕ, zero, suc, ◌+◌, ◌≤◌, ◌<◌}
use mathlib.Core.Path.{◌≡◌, refl, sym, ap, ◌∙◌}
use mathlib.Core.Logic.{◌≢◌}
use mathlib.Core.Bool.{Bool, true, false, cond, ◌&&◌}
use mathlib.Core.List.{List, [], ◌∷◌}
use native.Mathlib.Omega.{arith}
use lib.ListN.{length, get_or, set, length-set, get_or-eq_default}
use lib.Seq.{sets, get_or-set_same, get_or-set_other}
use lib.Dec.{ltb, eqb}
use Rattle.protocol.specs.Memory.{Assignment, ◌becomes◌, assign, replica_words}
use Rattle.protocol.proofs.logic.Booleans.{tests, by-test, and-true}

-- ---- words of a row

-- The value at an offset once the assignments are made, where it was d before.
abbrev pub assigned : List Assignment → ℕ → ℕ → ℕ
assigned [] k d = d
assigned ((o becomes v) ∷ rest) k d = assigned rest k (cond (eqb o k) v d)

-- All offsets are within a row.
abbrev pub within_row : List Assignment → Bool
within_row [] = true
within_row ((o becomes v) ∷ rest) = ltb o replica_words && within_row rest

-- An index that no assignment names.
abbrev pub Avoids : ℕ → List Assignment → ℕ → Type 0
Avoids at [] j = Unit {0}
Avoids at ((o becomes v) ∷ rest) j = (j ≡ at + o → ⊥) × Avoids at rest j

pub length_assign : (changes : List Assignment) (t : List ℕ) (at : ℕ) → length (assign t at changes) ≡ length t
length_assign [] t at = refl
length_assign ((o becomes v) ∷ rest) t at = length_assign rest (set t (at + o) v) at ∙ length-set t (at + o) v

pub assign_elsewhere : (changes : List Assignment) (t : List ℕ) (at j : ℕ) → Avoids at changes j
    → get_or (assign t at changes) j 0 ≡ get_or t j 0
assign_elsewhere [] t at j h = refl
assign_elsewhere ((o becomes v) ∷ rest) t at j h =
    assign_elsewhere rest (set t (at + o) v) at j h.1 ∙ get_or-set_other t (at + o) j v 0 h.0

-- What lies outside the row is avoided.
pub avoids_row : (changes : List Assignment) (at j : ℕ) → within_row changes ≡ true → (at ≤ j → at + replica_words ≤ j)
    → Avoids at changes j
avoids_row [] at j w h = tt
avoids_row ((o becomes v) ∷ rest) at j w h =
    let both = and-true (ltb o replica_words) (within_row rest) w in
    (λ e. let far = h (omega arith) in omega tests, avoids_row rest at j both.1 h)

set_at : (t : List ℕ) (at o k v : ℕ) → at + o < length t
    → get_or (set t (at + o) v) (at + k) 0 ≡ cond (eqb o k) v (get_or t (at + k) 0)
set_at t at o k v h =
    by-test (eqb o k)
    (λ e. rw e (let q : o ≡ k = omega tests in rw (← q) (get_or-set_same t (at + o) v 0 h)))
    (λ e. rw e (get_or-set_other t (at + o) (at + k) v 0 (omega tests)))

pub assign_at : (changes : List Assignment) (t : List ℕ) (at k : ℕ) → within_row changes ≡ true → at + replica_words ≤ length t
    → get_or (assign t at changes) (at + k) 0 ≡ assigned changes k (get_or t (at + k) 0)
assign_at [] t at k w h = refl
assign_at ((o becomes v) ∷ rest) t at k w h =
    let both = and-true (ltb o replica_words) (within_row rest) w in
    assign_at rest (set t (at + o) v) at k both.1 (simp length-set h)
    ∙ ap (assigned rest k) (set_at t at o k v (omega tests))

-- ---- a run of words

pub sets_elsewhere : (ws l : List ℕ) (at j : ℕ) → (at ≤ j → at + length ws ≤ j) → get_or (sets l at ws) j 0 ≡ get_or l j 0
sets_elsewhere [] l at j h = refl
sets_elsewhere (a ∷ ws) l at j h =
    sets_elsewhere ws (set l at a) (suc at) j (λ le. let far = h (omega arith) in omega arith)
    ∙ get_or-set_other l at j a 0 (λ e. let far = h (omega arith) in omega arith)

pub sets_at : (ws l : List ℕ) (at k : ℕ) → k < length ws → at + length ws ≤ length l
    → get_or (sets l at ws) (at + k) 0 ≡ get_or ws k 0
sets_at [] l at k h room = absurd (omega arith)
sets_at (a ∷ ws) l at zero h room =
    let e : at + 0 ≡ at = omega arith in
    rw e (sets_elsewhere ws (set l at a) (suc at) at (λ le. absurd (omega arith)) ∙ get_or-set_same l at a 0 (omega arith))
sets_at (a ∷ ws) l at (suc k) h room =
    let e : at + suc k ≡ suc at + k = omega arith in
    rw e (sets_at ws (set l at a) (suc at) k (omega arith) (simp length-set (omega arith)))

-- ---- the same write in two lists

set_alike : (l l' : List ℕ) (at a j : ℕ) → length l ≡ length l' → (j ≢ at → get_or l j 0 ≡ get_or l' j 0)
    → get_or (set l at a) j 0 ≡ get_or (set l' at a) j 0
set_alike l l' at a j n h =
    by-test (eqb j at)
    (λ e. let q : j ≡ at = omega tests in rw q (here (ltb at (length l)) refl))
    (λ e. let q : j ≢ at = omega tests in get_or-set_other l at j a 0 q ∙ h q ∙ sym (get_or-set_other l' at j a 0 q))
  where
    here : (t : Bool) → ltb at (length l) ≡ t → get_or (set l at a) at 0 ≡ get_or (set l' at a) at 0
    here true e = get_or-set_same l at a 0 (omega tests) ∙ sym (get_or-set_same l' at a 0 (omega tests))
    here false e =
        get_or-eq_default (set l at a) 0 (simp length-set (omega tests))
        ∙ sym (get_or-eq_default (set l' at a) 0 (simp length-set (omega tests)))

pub sets_alike : (ws l l' : List ℕ) (at j : ℕ) → length l ≡ length l' → ((at ≤ j → at + length ws ≤ j) → get_or l j 0 ≡ get_or l' j 0)
    → get_or (sets l at ws) j 0 ≡ get_or (sets l' at ws) j 0
sets_alike [] l l' at j n h = h (λ le. omega arith)
sets_alike (a ∷ ws) l l' at j n h =
    sets_alike ws (set l at a) (set l' at a) (suc at) j (simp length-set n)
    (λ far. set_alike l l' at a j n (λ q. h (λ le. let beyond = far (omega arith) in omega arith)))
