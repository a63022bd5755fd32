-- Signed numbers as differences of two counts.
use Prim.Native.Nat.{ℕ, zero, suc, ◌+◌, ◌≤◌}
use mathlib.Core.Path.{◌≡◌, sym, ap, ◌∙◌}
use lib.Dec.{ltb}
use lib.IntN.{ℤ, pos, neg_ℤ, nat_abs, ◌+ℤ◌, ◌-ℤ◌, +ℤ_assoc, +ℤ_comm, neg_ℤ-+ℤ}
use Rattle.protocol.proofs.logic.Booleans.{tests, by_cond}

pub less_plus : (r g p : ℕ) → (pos r -ℤ pos g) +ℤ pos p ≡ pos (r + p) -ℤ pos g
less_plus r g p =
    +ℤ_assoc (pos r) (neg_ℤ (pos g)) (pos p)
    ∙ ap (λ (z : ℤ). pos r +ℤ z) (+ℤ_comm (neg_ℤ (pos g)) (pos p))
    ∙ sym (+ℤ_assoc (pos r) (pos p) (neg_ℤ (pos g)))

pub less_minus : (r g p : ℕ) → (pos r -ℤ pos g) -ℤ pos p ≡ pos r -ℤ pos (g + p)
less_minus r g p =
    +ℤ_assoc (pos r) (neg_ℤ (pos g)) (neg_ℤ (pos p)) ∙ ap (λ (z : ℤ). pos r +ℤ z) (sym (neg_ℤ-+ℤ (pos g) (pos p)))

pub less_sum : (a b c d : ℕ) → (pos a -ℤ pos b) +ℤ (pos c -ℤ pos d) ≡ pos (a + c) -ℤ pos (b + d)
less_sum a b c d =
    sym (+ℤ_assoc (pos a -ℤ pos b) (pos c) (neg_ℤ (pos d)))
    ∙ ap (λ (z : ℤ). z -ℤ pos d) (less_plus a b c)
    ∙ less_minus (a + c) b d

-- A difference is as small as the counts.
pub less_small : (a b h : ℕ) → a ≤ h → b ≤ h → nat_abs (pos a -ℤ pos b) ≤ h
less_small a zero h x y = omega tests
less_small a (suc b) h x y = by_cond (λ (z : ℤ). nat_abs z ≤ h) (ltb a (suc b)) (λ e. omega tests) (λ e. omega tests)
