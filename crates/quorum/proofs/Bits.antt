-- A set of signers as the bits of one number: the empty set, and one signer more.
use Prim.Native.Nat.{ℕ, zero, suc, ◌+◌, ◌-◌, ◌/◌, ◌%◌, ◌^◌, ◌<◌}
use mathlib.Core.Path.{◌≡◌, refl, ap, ◌∙◌}
use mathlib.Core.Bool.{Bool, false, ◌||◌}
use native.Mathlib.Omega.{arith}
use native.Mathlib.Nat.{pow-suc, mul-mod_left, mod-lt, div-eq_of_lt, div_self, zero-div}
use lib.Bits.{bit_or, or_shr, or_mod}
use lib.Pow.{pow-add, pow_pos, pow-lt, shl-shr}
use lib.Dec.{eqb, ltb}
use Rattle.protocol.proofs.logic.Booleans.{tests, by-test}
use Rattle.quorum.specs.inner.Signers.{holds}

pub holds_none : (x : ℕ) → holds 0 x ≡ false
unfolding holds
holds_none x = rw (zero-div (2 ^ x)) refl

-- The bits of a power of two.
same_bit : (s : ℕ) → 2 ^ s / 2 ^ s % 2 ≡ 1
same_bit s = rw (div_self (pow_pos s)) refl

lower_bit : (s x : ℕ) → x < s → 2 ^ s / 2 ^ x % 2 ≡ 0
lower_bit s x h =
    let d : ℕ = s - suc x in
    let q : s ≡ suc d + x = omega arith in
    rw (q, pow-add 2 (suc d) x, shl-shr (2 ^ suc d) x, pow-suc 2 d) (mul-mod_left (2 ^ d) 2)

higher_bit : (s x : ℕ) → s < x → 2 ^ s / 2 ^ x % 2 ≡ 0
higher_bit s x h = rw (div-eq_of_lt (pow-lt h)) refl

one_bit : (s x : ℕ) → holds (2 ^ s) x ≡ eqb s x
unfolding holds
one_bit s x =
    by-test (eqb s x)
    (λ e. let q : s ≡ x = omega tests in rw (e, q, same_bit x) refl)
    (λ e.
    by-test (ltb x s) (λ l. rw (e, lower_bit s x (omega tests)) refl) (λ l. rw (e, higher_bit s x (omega tests)) refl))

or_digit : (a b : ℕ) → a < 2 → b < 2 → eqb (bit_or a b) 1 ≡ (eqb b 1 || eqb a 1)
or_digit zero zero p q = refl
or_digit zero (suc zero) p q = refl
or_digit zero (suc (suc b)) p q = absurd (omega arith)
or_digit (suc zero) zero p q = refl
or_digit (suc zero) (suc zero) p q = refl
or_digit (suc zero) (suc (suc b)) p q = absurd (omega arith)
or_digit (suc (suc a)) b p q = absurd (omega arith)

-- One signer more.
pub holds_with : (seen s x : ℕ) → holds (bit_or seen (2 ^ s)) x ≡ (eqb s x || holds seen x)
unfolding holds
holds_with seen s x =
    rw (or_shr seen (2 ^ s) x, or_mod (seen / 2 ^ x) (2 ^ s / 2 ^ x) 1)
    (or_digit (seen / 2 ^ x % 2) (2 ^ s / 2 ^ x % 2) (mod-lt (seen / 2 ^ x) (omega arith)) (mod-lt (2 ^ s / 2 ^ x) (omega arith))
    ∙ ap (λ (t : Bool). t || holds seen x) (one_bit s x))
