-- The digit count: the least count from 1 up whose power of ten is above the number.
use Prim.Native.Nat.{ℕ, zero, suc, ◌+◌, ◌*◌, ◌≤◌, ◌<◌, ◌^◌}
use mathlib.Core.Path.{◌≡◌}
use mathlib.Core.Logic.{⊎_elim}
use native.Mathlib.Omega.{arith}
use native.Mathlib.Nat.{pow-succ', pow-le-pow_right, eq-or-lt_of_le}
use native.Mathlib.Numerals.{add-one}
use lib.Dec.{ltb, leb}
use Rattle.field.specs.Digits.{least_from, digit_count}
use Rattle.field.specs.Field.{columns, max_number}
use Rattle.field.specs.Theorems.{CountIsLeast}
use Rattle.field.proofs.Booleans.{tests, by-test}

module _ (n : ℕ) where
  from_start : (steps k : ℕ) → k ≤ least_from steps k n
  unfolding least_from
  from_start zero k = omega arith
  from_start (suc steps) k =
      by-test (ltb n (10 ^ k)) (λ e. rw e (omega arith)) (λ e. rw e (let l = from_start steps (suc k) in omega arith))

  found_above : (steps k : ℕ) → n < 10 ^ (k + steps) → n < 10 ^ least_from steps k n
  unfolding least_from
  found_above zero k h = let e : k + 0 ≡ k = omega arith in rw e at h
  found_above (suc steps) k h =
      let e : k + suc steps ≡ suc k + steps = omega arith in
      by-test (ltb n (10 ^ k)) (λ t. rw t (omega tests)) (λ t. rw t (found_above steps (suc k) (rw e at h)))

  found_least : (steps k j : ℕ) → k ≤ j → n < 10 ^ j → least_from steps k n ≤ j
  unfolding least_from
  found_least zero k j h l = h
  found_least (suc steps) k j h l =
      by-test (ltb n (10 ^ k)) (λ t. rw t h)
      (λ t.
      rw t
      (⊎_elim (λ e. absurd (let m : n < 10 ^ k = rw e l in omega tests)) (λ m. found_least steps (suc k) j m l)
      (eq-or-lt_of_le h)))

steps_enough : (n : ℕ) → n < 10 ^ suc n
steps_enough zero = omega arith
steps_enough (suc n) = let h = steps_enough n in rw (pow-succ' 10 (suc n)) (omega arith)

pub count-is-least : CountIsLeast
unfolding CountIsLeast digit_count
count-is-least n =
    record {
      positive = from_start n n 1;
      above = found_above n n 1 (let e : 1 + n ≡ suc n = omega arith in rw e (steps_enough n));
      least = found_least n n 1;
    }

-- A number's count is above every exponent whose power of ten is at most the number.
count_above : (n k : ℕ) → 10 ^ k ≤ n → k < digit_count n
unfolding CountIsLeast
count_above n k h =
    by-test (leb (digit_count n) k)
    (λ t.
    let l : digit_count n ≤ k = omega tests in
    let p = pow-le-pow_right {n = 10} (omega arith) l in
    let a = (count-is-least n).above in
    absurd (omega arith))
    (λ t. omega tests)

count_at_most : (n k : ℕ) → 1 ≤ k → n < 10 ^ k → digit_count n ≤ k
unfolding CountIsLeast
count_at_most n k h l = (count-is-least n).least k h l

pub count_positive : (n : ℕ) → 1 ≤ digit_count n
unfolding CountIsLeast
count_positive n = (count-is-least n).positive

pub below_power : (n : ℕ) → n < 10 ^ digit_count n
unfolding CountIsLeast
below_power n = (count-is-least n).above

pub count_fits : (n : ℕ) → n ≤ max_number → digit_count n ≤ columns
count_fits n h = count_at_most n columns (omega arith) (omega arith)

-- A number of one digit.
pub count_of_digit : (n : ℕ) → n < 10 → digit_count n ≡ 1
count_of_digit n l = let a = count_positive n in let b = count_at_most n 1 (omega arith) l in omega arith

pub digit_of_count : (n : ℕ) → digit_count n ≡ 1 → n < 10
digit_of_count n e = rw e at (below_power n)

-- The number whose first digit is not 0 and has k digits after it.
pub count_is : (n k : ℕ) → 10 ^ k ≤ n → n < 10 ^ suc k → digit_count n ≡ suc k
count_is n k h l = let a = count_above n k h in let b = count_at_most n (suc k) (omega arith) l in omega arith

pub first_digit : (n k : ℕ) → 0 < n → digit_count n ≡ suc k → 10 ^ k ≤ n
first_digit n zero h e = omega arith
first_digit n (suc k) h e =
    by-test (leb (10 ^ suc k) n) (λ t. omega tests)
    (λ t. let l = count_at_most n (suc k) (omega arith) (omega tests) in absurd (omega arith))

pub next_power : (k : ℕ) → 10 ^ (k + 1) ≡ 10 * 10 ^ k
next_power k = rw (add-one k) (pow-succ' 10 k)
