-- Whether a movement fits, as the code joins its tests and as the definition has them.
use mathlib.Core.Path.{◌≡◌, refl}
use mathlib.Core.Bool.{Bool, true, false, not, ◌&&◌}
use mathlib.Core.List.{[], ◌∷◌}
use Rattle.protocol.specs.Form.{all_hold}

-- Of giver, taker, pallets, the unused place, and the line.
module _ (line : Bool) where
  pub fit_fails : (a b c u : Bool) → (((a && b) && c) && u) ≡ false
      → false ≡ all_hold (all_hold (a ∷ b ∷ c ∷ []) ∷ line ∷ not (not u) ∷ [])
  unfolding all_hold
  fit_fails false b c u h = refl
  fit_fails true false c u h = refl
  fit_fails true true false u h = refl
  fit_fails true true true false h = last line
    where
      last : (t : Bool) → false ≡ (t && false)
      last true = refl
      last false = refl
  fit_fails true true true true h = cc

  pub fit_goes : (a b c u : Bool) → (((a && b) && c) && u) ≡ true
      → line ≡ all_hold (all_hold (a ∷ b ∷ c ∷ []) ∷ line ∷ not (not u) ∷ [])
  unfolding all_hold
  fit_goes true true true true h = last line
    where
      last : (t : Bool) → t ≡ (t && true)
      last true = refl
      last false = refl
  fit_goes false b c u h = cc
  fit_goes true false c u h = cc
  fit_goes true true false u h = cc
  fit_goes true true true false h = cc
