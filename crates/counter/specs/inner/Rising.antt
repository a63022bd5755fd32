-- Steps in a run of words.
use Rattle.std.specs.Prelude.{ℕ, ◌+◌, List, get_or}

-- Steps by their number, from an index on.
abbrev pub step_in : List ℕ → ℕ → ℕ → ℕ
step_in words start k = get_or words (start + k) 0
