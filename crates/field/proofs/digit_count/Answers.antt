-- The first range has the digits; each other lies between two powers of ten, and its count is the exponent of the upper one.
use Prim.Native.Nat.{ℕ, suc, ◌≤◌, ◌<◌, ◌^◌}
use mathlib.Core.Path.{◌≡◌, sym, ◌∙◌}
use native.Mathlib.Omega.{arith}
use Rattle.field.specs.Digits.{digit_count}
use Rattle.field.proofs.Counts.{count_of_digit, count_is}
use Rattle.field.proofs.digit_count.Goals as goal

in_range : {number count : ℕ} (k : ℕ) → 10 ^ k ≤ number → number < 10 ^ suc k → count ≡ suc k → count ≡ digit_count number
in_range k low high e = e ∙ sym (count_is _ k low high)

pub returns-in-0-to-9 : goal.returns-in-0-to-9
returns-in-0-to-9 c = sym (count_of_digit _ (omega arith))

pub returns-in-10-to-99 : goal.returns-in-10-to-99
returns-in-10-to-99 c = in_range 1 (omega arith) (omega arith) (omega arith)

pub returns-in-100-to-999 : goal.returns-in-100-to-999
returns-in-100-to-999 c = in_range 2 (omega arith) (omega arith) (omega arith)

pub returns-in-1000-to-9999 : goal.returns-in-1000-to-9999
returns-in-1000-to-9999 c = in_range 3 (omega arith) (omega arith) (omega arith)

pub returns-in-10000-to-99999 : goal.returns-in-10000-to-99999
returns-in-10000-to-99999 c = in_range 4 (omega arith) (omega arith) (omega arith)

pub returns-in-100000-to-999999 : goal.returns-in-100000-to-999999
returns-in-100000-to-999999 c = in_range 5 (omega arith) (omega arith) (omega arith)

pub returns-in-1000000-to-9999999 : goal.returns-in-1000000-to-9999999
returns-in-1000000-to-9999999 c = in_range 6 (omega arith) (omega arith) (omega arith)

pub returns-in-10000000-to-99999999 : goal.returns-in-10000000-to-99999999
returns-in-10000000-to-99999999 c = in_range 7 (omega arith) (omega arith) (omega arith)
