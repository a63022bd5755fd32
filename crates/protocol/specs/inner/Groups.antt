-- Tests as the code groups them: of numbers one after the other, and joined by `|`.
use Rattle.std.specs.Prelude.{ℕ, ◌+◌, Bool, false, ◌&&◌, ◌||◌, List, [], ◌∷◌}
use Rattle.protocol.specs.Form.{all_hold}

abbrev pub two_ok : (ℕ → Bool) → ℕ → Bool
two_ok test k = test k && test (k + 1)

abbrev pub four_ok : (ℕ → Bool) → ℕ → Bool
four_ok test k = all_hold (test k ∷ test (k + 1) ∷ test (k + 2) ∷ test (k + 3) ∷ [])

-- t | u | .. from the left
abbrev pub joined_or : Bool → List Bool → Bool
joined_or t [] = t
joined_or t (u ∷ us) = joined_or (t || u) us

abbrev pub any_holds : List Bool → Bool
any_holds [] = false
any_holds (t ∷ ts) = joined_or t ts
