-- Reading digits: what they make, how great it is, and that its digits are the bytes read.
use Prim.Native.Nat.{ℕ, zero, suc, ◌+◌, ◌-◌, ◌*◌, ◌≤◌, ◌<◌, ◌/◌, ◌%◌, ◌^◌}
use mathlib.Core.Path.{◌≡◌, refl, sym, ap, ◌∙◌}
use mathlib.Core.Bool.{true, false}
use mathlib.Core.List.{List, [], ◌∷◌, ◌++◌, append_assoc, append-nil}
use mathlib.Core.Logic.{◌⊎◌, inl, inr, ⊎_elim, ◌≢◌}
use native.Mathlib.Omega.{arith}
use native.Mathlib.Nat.{pow-succ', pow-le-pow_right, mul-le-mul_right}
use native.Mathlib.Numerals.{add-one}
use lib.Dec.{ltb, leb, eqb}
use lib.ListN.{length, replicate, get_or, take, drop, length-take, length-drop, drop_of_length-le}
use lib.Seq.{drop-cons}
use Rattle.field.specs.Digits.{digit_zero, digit_nine, is_digit, digits}
use Rattle.std.specs.Prelude.{None, Some}
use Rattle.field.specs.Field.{columns, blank, max_number, no_number, continued, unpadded, aligned, read_field, found}
use Rattle.field.proofs.Booleans.{tests, by-test}
use Rattle.field.proofs.Counts.{next_power}

-- ---- one byte

pub digit_is : (b : ℕ) → digit_zero ≤ b → b ≤ digit_nine → is_digit b ≡ true
digit_is b l h =
    let p : leb digit_zero b ≡ true = omega tests in let q : leb b digit_nine ≡ true = omega tests in rw (p, q)

pub by-digit {ℓ} : {C : Type ℓ} (b : ℕ) → (digit_zero ≤ b → b ≤ digit_nine → C) → (is_digit b ≡ false → C) → C
by-digit b hit miss =
    by-test (leb digit_zero b)
    (λ p. by-test (leb b digit_nine) (λ q. hit (omega tests) (omega tests)) (λ q. miss (rw (p, q))))
    (λ p. miss (rw p))

pub at_most_nine : (b : ℕ) → is_digit b ≡ true → b ≤ digit_nine
at_most_nine b t = by-test (leb b digit_nine) (λ q. omega tests) (λ q. by-test (leb digit_zero b) (λ p. absurd (cc (rw (p, q) at t))) (λ p. absurd (cc (rw p at t))))

pub continued_digit : (v b : ℕ) (bs : List ℕ) → digit_zero ≤ b → b ≤ digit_nine
    → continued v (b ∷ bs) ≡ continued (10 * v + (b - digit_zero)) bs
unfolding continued
continued_digit v b bs l h = rw (digit_is b l h)

-- ---- digits that were written

-- Digits after a number make the number that ends with them.
pub continued_digits : (k v n : ℕ) (bs : List ℕ) → n < 10 ^ k → continued v (digits k n ++ bs) ≡ continued (v * 10 ^ k + n) bs
unfolding digits
continued_digits zero v n bs h = ap (λ x. continued x bs) (omega arith)
continued_digits (suc k) v n bs h =
    let p = 10 ^ k in
    let l : n < 10 * 10 ^ k = rw (pow-succ' 10 k) at h in
    let e : 10 * (v * 10 ^ k + n / 10) + ((digit_zero + n % 10) - digit_zero) ≡ v * (10 * 10 ^ k) + n = omega arith in
    rw (
      append_assoc,
      continued_digits k v (n / 10) ((digit_zero + n % 10) ∷ bs) (omega arith),
      continued_digit (v * 10 ^ k + n / 10) (digit_zero + n % 10) bs (omega arith) (omega arith),
      e,
      pow-succ' 10 k,
    )

pub after_blanks : (k : ℕ) (bs : List ℕ) → aligned (replicate k blank ++ bs) ≡ aligned bs
unfolding aligned
after_blanks zero bs = refl
after_blanks (suc k) bs = after_blanks k bs

-- A number whose first digit is not 0.
pub aligned_digits : (k n : ℕ) (bs : List ℕ) → 10 ^ k ≤ n → n < 10 ^ suc k → aligned (digits (suc k) n ++ bs) ≡ continued n bs
unfolding digits aligned unpadded
aligned_digits zero n bs l h =
    let s : eqb (digit_zero + n % 10) blank ≡ false = omega tests in
    let z : eqb (digit_zero + n % 10) digit_zero ≡ false = omega tests in
    let e : 10 * 0 + ((digit_zero + n % 10) - digit_zero) ≡ n = omega arith in
    rw (s, z, continued_digit 0 (digit_zero + n % 10) bs (omega arith) (omega arith), e)
aligned_digits (suc k) n bs l h =
    let l' : 10 * 10 ^ k ≤ n = rw (pow-succ' 10 k) at l in
    let h' : n < 10 * 10 ^ suc k = rw (pow-succ' 10 (suc k)) at h in
    rw (append_assoc (digits (suc k) (n / 10)) ((digit_zero + n % 10) ∷ []) bs)
    (aligned_digits k (n / 10) ((digit_zero + n % 10) ∷ bs) (omega arith) (omega arith)
    ∙ (continued_digit (n / 10) (digit_zero + n % 10) bs (omega arith) (omega arith) ∙ ap (λ x. continued x bs) (omega arith)))

-- ---- digits that were read

pub not_digit : (v b : ℕ) (bs : List ℕ) → is_digit b ≡ false → continued v (b ∷ bs) ≡ no_number
unfolding continued
not_digit v b bs e = rw e

-- The digits of what was read are the bytes read.
pub digits_back : (bs : List ℕ) (j v m : ℕ) → m ≡ j + length bs → continued v bs < no_number
    → digits m (continued v bs) ≡ digits j v ++ bs
unfolding digits continued
digits_back [] j v m e h = let q : m ≡ j = omega arith in rw q (sym (append-nil (digits j v)))
digits_back (b ∷ bs) j v m e h =
    by-digit b
    (λ l u.
    let s = continued_digit v b bs l u in
    let w = 10 * v + (b - digit_zero) in
    let d : w / 10 ≡ v = omega arith in
    let r : digit_zero + w % 10 ≡ b = omega arith in
    rw s (digits_back bs (suc j) w m (omega arith) (rw s at h) ∙ (rw (d, r, append_assoc))))
    (λ t. absurd (let z = not_digit v b bs t in omega arith))

-- Digits after a number make at least its multiple by a power of ten, and less than the next one's.
pub continued_low : (bs : List ℕ) (v : ℕ) → continued v bs < no_number → v * 10 ^ length bs ≤ continued v bs
unfolding continued
continued_low [] v h = omega arith
continued_low (b ∷ bs) v h =
    by-digit b
    (λ l u.
    let s = continued_digit v b bs l u in
    let i = continued_low bs (10 * v + (b - digit_zero)) (rw s at h) in
    rw (s, pow-succ' 10 (length bs)) (omega arith))
    (λ t. absurd (let z = not_digit v b bs t in omega arith))

pub continued_high : (bs : List ℕ) (v : ℕ) → (continued v bs < (v + 1) * 10 ^ length bs) ⊎ (continued v bs ≡ no_number)
unfolding continued
continued_high [] v = inl (omega arith)
continued_high (b ∷ bs) v =
    by-digit b
    (λ l u.
    let s = continued_digit v b bs l u in
    let most : (b - digit_zero) * 10 ^ length bs ≤ 9 * 10 ^ length bs = mul-le-mul_right _ (omega arith) in
    rw (s, pow-succ' 10 (length bs))
    (⊎_elim (λ i. inl (omega arith)) (λ z. inr z) (continued_high bs (10 * v + (b - digit_zero)))))
    (λ t. inr (not_digit v b bs t))

-- ---- what a read gives

pub found_small : (n : ℕ) → n ≤ max_number → Some n ≡ found n
found_small n h = let t : leb n max_number ≡ true = omega tests in rw t

pub found_some : {n k : ℕ} → Some n ≡ found k → (k ≤ max_number) × (k ≡ n)
found_some {n} {k} e =
    by-test (leb k max_number) (λ t. let same = rw t at e in (omega tests, cc)) (λ t. let none = rw t at e in absurd (cc))

pub found_none : {k : ℕ} → None ≡ found k → max_number < k
found_none {k} e = by-test (leb k max_number) (λ t. let some = rw t at e in absurd (cc)) (λ t. omega tests)

-- ---- column by column, as the code reads

pub reads_digit : (l : List ℕ) (i v : ℕ) → i < length l → is_digit (get_or l i 0) ≡ true
    → continued (10 * v + (get_or l i 0 - digit_zero)) (drop (i + 1) l) ≡ continued v (drop i l)
unfolding continued
reads_digit l i v h t = rw (add-one i, drop-cons l i 0 h, t)

pub stops : (l : List ℕ) (i v : ℕ) → i < length l → is_digit (get_or l i 0) ≡ false → continued v (drop i l) ≡ no_number
stops l i v h t = rw (drop-cons l i 0 h) (not_digit v (get_or l i 0) (drop (suc i) l) t)

pub reads_all : (l : List ℕ) (i v : ℕ) → length l ≤ i → continued v (drop i l) ≡ v
unfolding continued
reads_all l i v h = rw (drop_of_length-le l h)

-- What i digits make is below the power of ten, and eight digits are no more than a field holds: one digit more.
pub stays_small : (i v : ℕ) → i < columns → v < 10 ^ i → (10 * v + 9 < 10 ^ (i + 1)) × (10 * v + 9 ≤ max_number)
stays_small i v h l =
    let e = next_power i in
    let m = pow-le-pow_right {n = 10} (omega arith) {i = i + 1} {j = columns} (omega arith) in
    (omega arith, omega arith)

pub eight_at_most : (i v : ℕ) → i ≤ columns → v < 10 ^ i → v ≤ max_number
eight_at_most i v h l = let m = pow-le-pow_right {n = 10} (omega arith) {i = i} {j = columns} h in omega arith

pub leading_zero : (l : List ℕ) → 1 < length l → get_or l 0 0 ≡ digit_zero → unpadded l ≡ no_number
unfolding unpadded
leading_zero [] h e = absurd (omega arith)
leading_zero (b ∷ rest) h e =
    let t : eqb b digit_zero ≡ true = omega tests in
    let more : ltb 0 (length rest) ≡ true = omega tests in
    rw (t, more)

pub no_leading_zero : (l : List ℕ) → 0 < length l → (get_or l 0 0 ≡ digit_zero → length l ≡ 1) → unpadded l ≡ continued 0 l
unfolding unpadded
no_leading_zero [] h last = absurd (omega arith)
no_leading_zero (b ∷ rest) h last =
    by-test (eqb b digit_zero)
    (λ t.
    let e = last (omega tests) in
    let none : ltb 0 (length rest) ≡ false = omega tests in
    rw (t, none))
    (λ t. rw t)

pub skips_blank : (l : List ℕ) (i : ℕ) → i < length l → get_or l i 0 ≡ blank → aligned (drop (i + 1) l) ≡ aligned (drop i l)
unfolding aligned
skips_blank l i h e =
    let t : eqb (get_or l i 0) blank ≡ true = omega tests in
    rw (add-one i, drop-cons l i 0 h, t)

pub after_last_blank : (l : List ℕ) (i : ℕ) → i < length l → get_or l i 0 ≢ blank → aligned (drop i l) ≡ unpadded (drop i l)
unfolding aligned
after_last_blank l i h e =
    let t : eqb (get_or l i 0) blank ≡ false = omega tests in
    rw (drop-cons l i 0 h, t)

-- As far as there are blanks.
pub past_blanks : (l : List ℕ) (i : ℕ) → i ≤ length l → ((k : ℕ) → k < i → get_or l k 0 ≡ blank) → aligned (drop i l) ≡ aligned l
past_blanks l zero h e = refl
past_blanks l (suc i) h e =
    rw add-one at (skips_blank l i (omega arith) (e i (omega arith))) ∙ past_blanks l i (omega arith) (λ k u. e k (omega arith))

pub only_blanks : (l : List ℕ) → ((k : ℕ) → k < length l → get_or l k 0 ≡ blank) → aligned l ≡ no_number
unfolding aligned
only_blanks l e = sym (past_blanks l (length l) (omega arith) e) ∙ rw (drop_of_length-le l {i = length l} (omega arith)) refl

pub eight_columns : (l : List ℕ) → length l ≡ columns → aligned l ≡ read_field l
unfolding read_field
eight_columns l h = let t : eqb (length l) columns ≡ true = omega tests in rw t

pub not_eight : (l : List ℕ) → length l ≢ columns → no_number ≡ read_field l
unfolding read_field
not_eight l h = let t : eqb (length l) columns ≡ false = omega tests in rw t

-- The part of a line from a column on, where fewer than eight are left.
pub too_short : (l : List ℕ) (at : ℕ) → length l < at + columns → no_number ≡ read_field (take columns (drop at l))
too_short l at h =
    not_eight (take columns (drop at l)) (rw (length-take columns (drop at l), length-drop at l) (λ e. omega arith))
