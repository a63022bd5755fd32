-- Decimal digits: how many a number has, and their bytes.
use Rattle.std.specs.Prelude.{ℕ, zero, suc, ◌+◌, ◌/◌, ◌%◌, ◌^◌, Bool, cond, ◌&&◌, List, [], ◌∷◌, ◌++◌, ltb, leb}

-- In ASCII.
abbrev pub digit_zero : ℕ
digit_zero = 48

abbrev pub digit_nine : ℕ
digit_nine = 57

abbrev pub is_digit : ℕ → Bool
is_digit byte = leb digit_zero byte && leb byte digit_nine

-- The least count from k up whose power of ten is above the number; the count reached, where the steps run out before. (The `let`
-- computes only the steps that are needed.)
unfoldable pub least_from : ℕ → ℕ → ℕ → ℕ
least_from zero k number = k
least_from (suc steps) k number = let next = least_from steps (suc k) number in cond (ltb number (10 ^ k)) k next

-- The digit count: the least count from 1 up whose power of ten is above the number. As many steps as the number says are enough.
unfoldable pub digit_count : ℕ → ℕ
digit_count number = least_from number 1 number

-- The last k digits of a number, as bytes: those before the last one, and the last one.
unfoldable pub digits : ℕ → ℕ → List ℕ
digits zero number = []
digits (suc k) number = digits k (number / 10) ++ ((digit_zero + number % 10) ∷ [])
