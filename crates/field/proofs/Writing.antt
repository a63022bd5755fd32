-- Blanks, and digits over them from the last column to the first.
use Prim.Native.Nat.{ℕ, zero, suc, ◌+◌, ◌-◌, ◌≤◌, ◌<◌, ◌/◌, ◌%◌}
use mathlib.Core.Path.{◌≡◌, refl, sym, ap, ◌∙◌}
use mathlib.Core.List.{List, ◌∷◌, ◌++◌, append_assoc, append-nil}
use mathlib.Core.Bool.{true, false}
use mathlib.Core.Logic.{◌≢◌}
use native.Mathlib.Omega.{arith}
use lib.Dec.{eqb, leb}
use lib.ListN.{length, replicate, take, drop, set, length-set, take-append-drop, drop_of_length-le}
use lib.Seq.{drop-cons, get_or-set_same, drop-set-lt, take-set-le, take-take, sets, sets-eq}
use native.Mathlib.Nat.{le_refl}
use Rattle.field.specs.Digits.{digit_zero, digits, digit_count}
use Rattle.field.specs.Field.{columns, blank, max_number, accepted, unwritable, field_of, written, write_field}
use Rattle.field.proofs.Booleans.{tests, by-test}
use Rattle.field.proofs.Counts.{digit_of_count}

set_at_front : (l : List ℕ) (i a : ℕ) → i < length l → drop i (set l i a) ≡ a ∷ drop (suc i) l
set_at_front l i a h =
    let e = length-set l i a in
    rw (drop-cons (set l i a) i 0 (omega arith), get_or-set_same l i a 0 h, drop-set-lt (suc i) l i a (omega arith))

-- The digits still to be written, and those that stand, are the same digits after each one.
pub digit_written : (l : List ℕ) (first at rest : ℕ) → first < at → at ≤ length l
    → digits (at - 1 - first) (rest / 10) ++ drop (at - 1) (set l (at - 1) (digit_zero + rest % 10))
    ≡ digits (at - first) rest ++ drop at l
unfolding digits
digit_written l first zero rest h u = absurd (omega arith)
digit_written l first (suc i) rest h u =
    let e : suc i - 1 ≡ i = omega arith in
    let k : suc i - first ≡ suc (i - first) = omega arith in
    rw (e, k, set_at_front l i (digit_zero + rest % 10) (omega arith), append_assoc)

-- Blanks stay before the digit that is written.
pub blanks_left : (l : List ℕ) (at d : ℕ) → 0 < at → take at l ≡ replicate at blank
    → take (at - 1) (set l (at - 1) d) ≡ replicate (at - 1) blank
blanks_left l zero d h e = absurd (omega arith)
blanks_left l (suc i) d h e =
    let k : suc i - 1 ≡ i = omega arith in
    let less : i ≤ suc i = omega arith in
    rw (k, take-set-le i l i d (le_refl i)) (sym (take-take i (suc i) l less) ∙ ap (λ (r : List ℕ). take i r) e ∙ fewer i)
  where
    fewer : (n : ℕ) → take n (replicate (suc n) blank) ≡ replicate n blank
    fewer zero = refl
    fewer (suc n) = ap (λ (r : List ℕ). blank ∷ r) (fewer n)

pub all_blank : (l : List ℕ) → length l ≡ columns → sets l 0 (replicate columns blank) ≡ replicate columns blank
all_blank l e =
    let none = drop_of_length-le l {i = columns} (omega arith) in
    sets-eq (replicate columns blank) l 0 (omega arith) ∙ rw none refl

pub one_digit : (n : ℕ) {l : List ℕ} → digit_count n ≡ 1 → l ≡ replicate columns blank
    → set l (columns - 1) (digit_zero + n) ≡ field_of n
unfolding field_of digits
one_digit n one e =
    let small = digit_of_count n one in
    let all : n % 10 ≡ n = omega arith in
    rw (e, one, all) refl

-- Where the writing of digits starts, and where it ends.
pub starts : (l : List ℕ) (n count : ℕ) → length l ≡ columns → count ≡ digit_count n → count ≤ columns
    → digits (columns - (columns - count)) n ++ drop columns l ≡ digits (digit_count n) n
starts l n count h e u =
    let all : columns - (columns - count) ≡ digit_count n = omega arith in
    rw (all, drop_of_length-le l {i = columns} (omega arith)) (append-nil _)

pub all_stand : (l : List ℕ) (n first at rest : ℕ) → at ≡ first → first ≡ columns - digit_count n → take at l ≡ replicate at blank
    → digits (at - first) rest ++ drop at l ≡ digits (digit_count n) n → l ≡ field_of n
unfolding digits field_of
all_stand l n first at rest e f b h =
    let none : at - first ≡ 0 = omega arith in
    let place : at ≡ columns - digit_count n = omega arith in
    sym (take-append-drop at l) ∙ rw (b, (rw none at h), place) refl

-- ---- the three ends of a write

pub wrong_length : (n : ℕ) (l : List ℕ) → length l ≢ columns → written unwritable l ≡ write_field n l
unfolding write_field
wrong_length n l h = let t : eqb (length l) columns ≡ false = omega tests in rw t

pub too_great : (n : ℕ) (l : List ℕ) → max_number < n → written unwritable l ≡ write_field n l
unfolding write_field
too_great n l h =
    let t : leb n max_number ≡ false = omega tests in
    by-test (eqb (length l) columns) (λ e. rw (e, t)) (λ e. rw e)

pub is_written : (n : ℕ) (l r : List ℕ) → length l ≡ columns → n ≤ max_number → r ≡ field_of n → written accepted r ≡ write_field n l
unfolding write_field
is_written n l r h u e =
    let t : eqb (length l) columns ≡ true = omega tests in
    let s : leb n max_number ≡ true = omega tests in
    rw (t, s, e)
