-- Sums over movements and over firms.
use Prim.Native.Nat.{ℕ, zero, suc, ◌+◌, ◌*◌, ◌≤◌, ◌<◌}
use mathlib.Core.Path.{◌≡◌, refl, ap, ◌∙◌}
use mathlib.Core.Bool.{Bool, true, false, cond, ◌&&◌}
use mathlib.Core.List.{List}
use native.Mathlib.Omega.{arith}
use lib.Dec.{ltb, eqb}
use lib.IntN.{ℤ, pos, ◌+ℤ◌, ◌-ℤ◌}
use Rattle.protocol.proofs.logic.Booleans.{tests, by-test}
use Rattle.movements.specs.declared.Movement.{Movement}
use Rattle.movements.specs.Movements.{movement, max_pallets}
use Rattle.netting.specs.Netting.{sum_below, pallets_of}
use Rattle.netting.specs.Theorems.{total_below}
use Rattle.netting.proofs.Signed.{less_sum}

pub sum_same : (n : ℕ) (s t : ℕ → ℕ) → ((i : ℕ) → i < n → s i ≡ t i) → sum_below n s ≡ sum_below n t
unfolding sum_below
sum_same zero s t h = refl
sum_same (suc n) s t h = rw (sum_same n s t (λ i l. h i (omega arith)), h n (omega arith)) refl

-- Terms of 0 at the end may be left out.
pub sum_rest : (n k : ℕ) (t : ℕ → ℕ) → k ≤ n → ((i : ℕ) → k ≤ i → i < n → t i ≡ 0) → sum_below n t ≡ sum_below k t
unfolding sum_below
sum_rest zero k t h z = let e : k ≡ 0 = omega arith in rw e refl
sum_rest (suc n) k t h z =
    by-test (eqb k (suc n)) (λ e. let q : k ≡ suc n = omega tests in rw q refl)
    (λ e.
    let last = z n (omega tests) (omega arith) in
    let rest = sum_rest n k t (omega tests) (λ i x y. z i x (omega arith)) in
    omega arith)

sum_none : (n : ℕ) → sum_below n (λ i. 0) ≡ 0
unfolding sum_below
sum_none zero = refl
sum_none (suc n) = let e = sum_none n in omega arith

sum_both : (n : ℕ) (s t : ℕ → ℕ) → sum_below n (λ i. s i + t i) ≡ sum_below n s + sum_below n t
unfolding sum_below
sum_both zero s t = refl
sum_both (suc n) s t = let e = sum_both n s t in omega arith

pub sum_small : (k : ℕ) (t : ℕ → ℕ) → ((j : ℕ) → j < k → t j ≤ max_pallets) → sum_below k t ≤ max_pallets * k
unfolding sum_below
sum_small zero t h = omega arith
sum_small (suc k) t h =
    let e = sum_small k t (λ j l. h j (omega arith)) in
    let last = h k (omega arith) in
    omega arith

-- One firm of all has the pallets.
sum_hit : (n p x : ℕ) → sum_below n (λ i. cond (eqb x i) p 0) ≡ cond (ltb x n) p 0
unfolding sum_below
sum_hit zero p x = let e : ltb x 0 ≡ false = omega tests in rw e refl
sum_hit (suc n) p x =
    by-test (eqb x n)
    (λ e.
    let not_below : ltb x n ≡ false = omega tests in
    let now-below : ltb x (suc n) ≡ true = omega tests in
    rw (sum_hit n p x, e, not_below, now-below) (omega arith))
    (λ e.
    by-test (ltb x n)
    (λ l. let q : ltb x (suc n) ≡ true = omega tests in rw (sum_hit n p x, e, l, q) (omega arith))
    (λ l. let q : ltb x (suc n) ≡ false = omega tests in rw (sum_hit n p x, e, l, q) refl))

one_firm : (n p x : ℕ) (counts : Bool) → x < n → sum_below n (λ i. cond (counts && eqb x i) p 0) ≡ cond counts p 0
one_firm n p x true l = let e : ltb x n ≡ true = omega tests in sum_hit n p x ∙ rw e refl
one_firm n p x false l = sum_none n

-- What all firms took, or gave, is what was moved.
pub over_firms : (side : Movement → ℕ) (counts : Movement → Bool) (movements : List ℕ) (n k : ℕ)
    → ((j : ℕ) → j < k → side (movement movements j) < n)
    → sum_below n (pallets_of side counts movements k) ≡ sum_below k (λ j. cond (counts (movement movements j)) (movement movements j).pallets 0)
unfolding sum_below pallets_of
over_firms side counts movements n zero h = sum_none n
over_firms side counts movements n (suc k) h =
    sum_both n (pallets_of side counts movements k) _
    ∙ rw (
      over_firms side counts movements n k (λ j l. h j (omega arith)),
      one_firm n (movement movements k).pallets (side (movement movements k)) (counts (movement movements k)) (h k (omega arith)),
    ) refl

-- ---- signed sums

pub total_same : (n : ℕ) (s t : ℕ → ℤ) → ((i : ℕ) → i < n → s i ≡ t i) → total_below n s ≡ total_below n t
unfolding total_below
total_same zero s t h = refl
total_same (suc n) s t h = rw (total_same n s t (λ i l. h i (omega arith)), h n (omega arith)) refl

pub total_less : (n : ℕ) (r g : ℕ → ℕ) → total_below n (λ i. pos (r i) -ℤ pos (g i)) ≡ pos (sum_below n r) -ℤ pos (sum_below n g)
unfolding total_below sum_below
total_less zero r g = refl
total_less (suc n) r g =
    ap (λ (z : ℤ). z +ℤ (pos (r n) -ℤ pos (g n))) (total_less n r g) ∙ less_sum (sum_below n r) (sum_below n g) (r n) (g n)
