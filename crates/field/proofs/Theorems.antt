-- Reading undoes writing, writing undoes reading, and a read is bounded.
use Prim.Native.Nat.{ℕ, zero, suc, ◌+◌, ◌-◌, ◌*◌, ◌≤◌, ◌<◌, ◌/◌, ◌^◌}
use mathlib.Core.Path.{◌≡◌, refl, ◌∙◌}
use mathlib.Core.Bool.{true, false}
use mathlib.Core.List.{List, [], ◌∷◌, ◌++◌, append-nil}
use mathlib.Core.Logic.{◌⊎◌, inl, inr, ⊎_elim}
use native.Mathlib.Omega.{arith}
use native.Mathlib.Nat.{pow-succ', mul-le-mul_right}
use lib.Dec.{ltb, leb, eqb}
use lib.ListN.{length, replicate, length-append, length-replicate}
use Rattle.field.specs.Digits.{digit_zero, digit_count, digits}
use Rattle.field.specs.Field.{columns, blank, max_number, no_number, field_of, write_field}
use Rattle.std.specs.Prelude.{unwrap_or}
use Rattle.field.specs.Field.{continued, is_leading_zero, unpadded, aligned, read_field, found}
use Rattle.field.specs.Theorems.{WrittenReadsBack, ReadWritesBack, ReadIsBounded}
use Rattle.field.proofs.Booleans.{tests, by-test}
use Rattle.field.proofs.Counts.{count_fits, count_of_digit, count_positive, below_power, count_is, first_digit}
use Rattle.field.proofs.Reading.{by-digit, continued_digit, not_digit, after_blanks, aligned_digits, digits_back}
use Rattle.field.proofs.Reading.{continued_low, continued_high}

-- ---- what was written reads back

length_digits : (k n : ℕ) → length (digits k n) ≡ k
unfolding digits
length_digits zero n = refl
length_digits (suc k) n = rw (length-append, length_digits k (n / 10)) (omega arith)

pub length_field : (n : ℕ) → n ≤ max_number → length (field_of n) ≡ columns
unfolding field_of
length_field n h =
    let l = count_fits n h in
    rw (length-append, length-replicate, length_digits) (omega arith)

reads_digits : (n k : ℕ) → digit_count n ≡ k → aligned (digits k n) ≡ n
unfolding aligned unpadded continued digits
reads_digits n zero e = absurd (let p = count_positive n in omega arith)
reads_digits n (suc k) e =
    by-test (eqb n 0)
    (λ t.
    let z : n ≡ 0 = omega tests in
    let one : k ≡ 0 = omega (arith, count_of_digit 0 (omega arith), rw z at e) in
    rw (z, one))
    (λ t.
    let h = rw e at (below_power n) in
    rw append-nil at (aligned_digits k n [] (first_digit n k (omega tests) e) h))

pub written-reads-back : WrittenReadsBack
unfolding WrittenReadsBack field_of read_field
written-reads-back n h =
    let l = length_field n h in
    let e : eqb (length (field_of n)) columns ≡ true = omega tests in
    (l, rw e (after_blanks (columns - digit_count n) (digits (digit_count n) n) ∙ reads_digits n (digit_count n) refl))

-- ---- what was read writes back

-- Bytes that hold a number: it has no more digits than they are, and they are blanks and its digits.
record Back (bs : List ℕ) (n : ℕ) : Type 0 where
  fits : digit_count n ≤ length bs
  same : replicate (length bs - digit_count n) blank ++ digits (digit_count n) n ≡ bs

count_of_read : (b : ℕ) (bs : List ℕ) → is_leading_zero b bs ≡ false → continued 0 (b ∷ bs) < no_number
    → digit_count (continued 0 (b ∷ bs)) ≡ suc (length bs)
unfolding continued
count_of_read b bs z h =
    by-digit b
    (λ l u.
    let s = continued_digit 0 b bs l u in
    let low = continued_low bs (10 * 0 + (b - digit_zero)) (rw s at h) in
    by-test (eqb b digit_zero) (λ t. rw s (lone b bs t (rw t at z)))
    (λ t.
    let more : 1 * 10 ^ length bs ≤ (b - digit_zero) * 10 ^ length bs = mul-le-mul_right _ (omega tests) in
    ⊎_elim (λ high. rw s (count_is _ (length bs) (omega arith) (omega arith))) (λ e. absurd (omega arith))
    (continued_high (b ∷ bs) 0)))
    (λ t. absurd (let e = not_digit 0 b bs t in omega arith))
  where
    lone : (b : ℕ) (bs : List ℕ) → eqb b digit_zero ≡ true → ltb 0 (length bs) ≡ false
        → digit_count (continued (10 * 0 + (b - digit_zero)) bs) ≡ suc (length bs)
    lone b [] t e = let q : 10 * 0 + (b - digit_zero) ≡ 0 = omega tests in rw q (count_of_digit 0 (omega arith))
    lone b (x ∷ bs) t e = absurd (omega tests)

unpadded_back : (b : ℕ) (bs : List ℕ) → is_leading_zero b bs ≡ false → continued 0 (b ∷ bs) < no_number
    → Back (b ∷ bs) (continued 0 (b ∷ bs))
unfolding digits
unpadded_back b bs z h =
    let e = count_of_read b bs z h in
    let none : suc (length bs) - suc (length bs) ≡ 0 = omega arith in
    record { fits = omega arith; same = rw (e, none) (digits_back (b ∷ bs) 0 0 (suc (length bs)) (omega arith) h) }

after_blank : (bs : List ℕ) (n : ℕ) → Back bs n → Back (blank ∷ bs) n
after_blank bs n k =
    let l = k.fits in
    let e : suc (length bs) - digit_count n ≡ suc (length bs - digit_count n) = omega arith in
    record { fits = omega arith; same = rw (e, k.same) }

aligned_back : (bs : List ℕ) → aligned bs < no_number → Back bs (aligned bs)
unfolding aligned unpadded
aligned_back [] h = absurd (omega arith)
aligned_back (b ∷ bs) h =
    by-test (eqb b blank)
    (λ t.
    let q : b ≡ blank = omega tests in
    rw (t, q) (after_blank bs (aligned bs) (aligned_back bs (rw t at h))))
    (λ t.
    by-test (is_leading_zero b bs) (λ z. absurd (let y = rw (t, z) at h in omega arith))
    (λ z. rw (t, z) (unpadded_back b bs z (rw (t, z) at h))))

pub read-writes-back : ReadWritesBack
unfolding ReadWritesBack read_field write_field field_of
read-writes-back bs h =
    by-test (eqb (length bs) columns)
    (λ t.
    let k = aligned_back bs (let y = rw t at h in omega arith) in
    let m : leb (aligned bs) max_number ≡ true = let y = rw t at h in omega tests in
    let l : length bs ≡ columns = omega tests in
    rw (t, m, rw l at k.same))
    (λ t. absurd (let y = rw t at h in omega arith))

-- ---- a read is bounded

aligned_bounded : (bs : List ℕ) → (aligned bs < 10 ^ length bs) ⊎ (aligned bs ≡ no_number)
unfolding aligned unpadded
aligned_bounded [] = inr refl
aligned_bounded (b ∷ bs) =
    by-test (eqb b blank)
    (λ t.
    rw t
    (⊎_elim (λ l. inl (let p = pow-succ' 10 (length bs) in omega arith)) (λ e. inr e) (aligned_bounded bs)))
    (λ t.
    rw t
    (by-test (is_leading_zero b bs) (λ z. inr (rw z))
    (λ z. rw z (⊎_elim (λ l. inl (omega arith)) (λ e. inr e) (continued_high (b ∷ bs) 0)))))

pub read-is-bounded : ReadIsBounded
unfolding ReadIsBounded read_field
read-is-bounded bs =
    by-test (eqb (length bs) columns)
    (λ t.
    let l : length bs ≡ columns = omega tests in
    rw t (⊎_elim (λ h. inl (let p = rw l at h in omega arith)) (λ e. inr e) (aligned_bounded bs)))
    (λ t. inr (rw t))

-- ---- what a read gives, as a number again

pub number_back : (bytes : List ℕ) → unwrap_or (found (read_field bytes)) no_number ≡ read_field bytes
unfolding ReadIsBounded
number_back bytes =
    ⊎_elim (λ small. let t : leb (read_field bytes) max_number ≡ true = omega tests in rw t refl) (λ none. rw none refl)
    (read-is-bounded bytes)
