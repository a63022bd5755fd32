-- Tests joined by `&` and by `|`, as the code has them, and lists of tests, as the definitions have them.
use mathlib.Core.Path.{◌≡◌, refl, sym, ◌∙◌}
use mathlib.Core.Bool.{Bool, true, false, ◌&&◌, ◌||◌}
use mathlib.Core.List.{List, [], ◌∷◌}
use Rattle.protocol.specs.Form.{all_hold}
use Rattle.protocol.specs.inner.Groups.{joined_or, any_holds}
use Rattle.protocol.proofs.logic.Booleans.{or-false, Each, each, all-hold}

-- t & u & .. from the left
abbrev pub joined : Bool → List Bool → Bool
joined t [] = t
joined t (u ∷ us) = joined (t && u) us

pub joined_all : (t : Bool) (ts : List Bool) → joined t ts ≡ all_hold (t ∷ ts)
unfolding all_hold
joined_all true [] = refl
joined_all false [] = refl
joined_all true (u ∷ us) = joined_all u us
joined_all false (u ∷ us) = joined_all false us

-- None of a list holds.
abbrev pub NoneOf : List Bool → Type 0
NoneOf [] = Unit {0}
NoneOf (t ∷ ts) = (t ≡ false) × NoneOf ts

pub none_of : (ts : List Bool) → any_holds ts ≡ false → NoneOf ts
none_of [] e = tt
none_of (t ∷ ts) e = go t ts e
  where
    go : (t : Bool) (ts : List Bool) → joined_or t ts ≡ false → NoneOf (t ∷ ts)
    go t [] e = (e, tt)
    go t (u ∷ us) e =
        let rest = go (t || u) us e in
        let both = or-false t u rest.0 in
        (both.0, (both.1, rest.1))

pub any_none : (ts : List Bool) → NoneOf ts → any_holds ts ≡ false
any_none [] h = refl
any_none (t ∷ ts) h = go t ts h
  where
    go : (t : Bool) (ts : List Bool) → NoneOf (t ∷ ts) → joined_or t ts ≡ false
    go t [] h = h.0
    go t (u ∷ us) h = go (t || u) us (rw (h.0, h.1.0) refl, h.1.1)

-- What `if !f(..)` tells, where f's result is a test.
pub denied : {r t : Bool} → r ≡ t → r ≡ false → t ≡ false
denied e n = sym e ∙ n

pub granted : {r t : Bool} → r ≡ t → r ≡ true → t ≡ true
granted e n = sym e ∙ n

-- Two tests that show each other are equal.
pub same_test : (a b : Bool) → (a ≡ true → b ≡ true) → (b ≡ true → a ≡ true) → a ≡ b
same_test true b to back = cc (to refl)
same_test false true to back = back refl
same_test false false to back = refl

-- Two lists of the same tests, in whatever order.
pub reordered : (ts us : List Bool) → (Each ts → Each us) → (Each us → Each ts) → all_hold ts ≡ all_hold us
reordered ts us to back = same_test _ _ (λ e. all-hold us (to (each ts e))) (λ e. all-hold ts (back (each us e)))
