-- Pallets of a movement as they are added to a balance, and below 0 where they are given: they fit in its bits.
use Prim.Native.Nat.{ℕ, zero, suc, ◌+◌, ◌*◌, ◌≤◌}
use mathlib.Core.Path.{◌≡◌, refl, ap, ◌∙◌}
use mathlib.Core.Bool.{Bool, true, false, cond}
use mathlib.Core.List.{List}
use native.Mathlib.Omega.{arith}
use lib.Dec.{ltb}
use lib.ListN.{get_or, set}
use Rattle.std.proofs.lemmas.Int.{ints}
use lib.IntN.{ℤ, pos, negsuc, neg_ℤ, nat_abs, ◌+ℤ◌, ◌-ℤ◌}
use mir.Syntax.{w32}
use mir.Val.{SFits, of_z, to_z, bool_byte}
use mir.Facts.{to_z-of_z, to_z_pos}
use Rattle.protocol.proofs.logic.Booleans.{tests, by_cond}
use Rattle.movements.specs.Movements.{max_pallets}
use Rattle.netting.specs.Theorems.{max_balance}
use Rattle.netting.specs.inner.Tallies.{Movable}

-- A mark times pallets: all of them, or none.
pub all_or_none : (t : Bool) (p : ℕ) → bool_byte t * p ≡ cond t p 0
all_or_none true p = omega arith
all_or_none false p = omega arith

pub plus_size : (z : ℤ) (p : ℕ) → nat_abs (z +ℤ pos p) ≤ nat_abs z + p
plus_size (pos n) p = omega arith
plus_size (negsuc n) p = by_cond (λ (z : ℤ). nat_abs z ≤ suc n + p) (ltb p (suc n)) (λ e. omega tests) (λ e. omega tests)

pub minus_size : (z : ℤ) (p : ℕ) → nat_abs (z -ℤ pos p) ≤ nat_abs z + p
minus_size (pos n) zero = omega arith
minus_size (pos n) (suc p) = by_cond (λ (z : ℤ). nat_abs z ≤ n + suc p) (ltb n (suc p)) (λ e. omega tests) (λ e. omega tests)
minus_size (negsuc n) zero = plus_size (negsuc n) zero
minus_size (negsuc n) (suc p) = omega arith

pub small_fits : (z : ℤ) → nat_abs z ≤ max_balance + max_pallets → SFits w32 z
small_fits (pos n) h = record { sfits = omega arith }
small_fits (negsuc n) h = record { sfits = omega arith }

none_less : (p : ℕ) → pos 0 -ℤ pos p ≡ neg_ℤ (pos p)
none_less p = omega (arith, ints)

pub given_small : (p : ℕ) → p ≤ max_pallets → nat_abs (neg_ℤ (pos p)) ≤ max_pallets
given_small zero few = omega arith
given_small (suc p) few = few

module _ (p : ℕ) (few : p ≤ max_pallets) where
  pub taken : to_z w32 p ≡ pos p
  taken = to_z_pos w32 {n = p} (omega arith)

  pub taken_fits : SFits w32 (pos p)
  taken_fits = small_fits (pos p) (omega arith)

  pub given_fits : SFits w32 (pos 0 -ℤ to_z w32 p)
  given_fits = rw (taken, none_less p) (let s = given_small p few in small_fits (neg_ℤ (pos p)) (omega arith))

  pub given : to_z w32 (of_z w32 (pos 0 -ℤ to_z w32 p)) ≡ neg_ℤ (pos p)
  given = to_z-of_z given_fits ∙ rw taken (none_less p)

-- Pallets added to a balance, or taken from it: the result fits in its bits, and is what it should be.
module _ (op : ℤ → ℤ → ℤ) (size : (z : ℤ) (p : ℕ) → nat_abs (op z (pos p)) ≤ nat_abs z + p)
    (balances : List ℤ) (firm pallets : ℕ) (h : Movable balances firm (pos pallets)) where
  result_fits : SFits w32 (op (get_or balances firm (pos 0)) (pos pallets))
  result_fits =
      let bound = size (get_or balances firm (pos 0)) pallets in
      small_fits (op (get_or balances firm (pos 0)) (pos pallets)) (omega (arith, h.small, h.few))

  operands : op (to_z w32 (of_z w32 (get_or balances firm (pos 0)))) (to_z w32 pallets) ≡ op (get_or balances firm (pos 0)) (pos pallets)
  operands =
      rw (to_z-of_z (small_fits (get_or balances firm (pos 0)) (omega (arith, h.small))), to_z_pos w32 {n = pallets} (omega (arith, h.few))) refl

  pub moved_fits : SFits w32 (op (to_z w32 (of_z w32 (get_or balances firm (pos 0)))) (to_z w32 pallets))
  moved_fits = rw operands result_fits

  pub moved_is : set balances firm (to_z w32 (of_z w32 (op (to_z w32 (of_z w32 (get_or balances firm (pos 0)))) (to_z w32 pallets))))
      ≡ set balances firm (op (get_or balances firm (pos 0)) (pos pallets))
  moved_is = ap (set balances firm) (rw operands (to_z-of_z result_fits))
