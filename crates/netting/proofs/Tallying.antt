-- One movement more: each firm's balance stays what it received less what it gave.
use Prim.Native.Nat.{ℕ, suc, ◌+◌, ◌≤◌, ◌<◌}
use mathlib.Core.Path.{◌≡◌, refl, sym, ap, ◌∙◌}
use mathlib.Core.Bool.{Bool, true, false, cond, ◌&&◌, false≢true}
use mathlib.Core.List.{List}
use native.Mathlib.Omega.{arith}
use lib.Dec.{eqb}
use lib.ListN.{length, get_or, set, length-set}
use lib.Seq.{get_or-set_same, get_or-set_other}
use lib.IntN.{ℤ, pos, neg_ℤ, ◌+ℤ◌, ◌-ℤ◌}
use Rattle.protocol.specs.Form.{all_below}
use Rattle.protocol.proofs.logic.Booleans.{tests, by-test, by_cond, true_and, at_below}
use Rattle.protocol.proofs.logic.Below.{refuted_one}
use Rattle.movements.specs.declared.Movement.{Movement}
use Rattle.movements.specs.Movements.{movement, movement_count, movement_allowed, max_pallets, max_movements}
use Rattle.movements.proofs.Allowed.{is-allowed, list_short}
use Rattle.netting.specs.Netting.{sum_below, pallets_of, received, given}
use Rattle.netting.specs.Theorems.{max_balance}
use Rattle.netting.specs.inner.Tallies.{marked, Movable, Talliable, Tallied}
use Rattle.netting.proofs.Signed.{less_plus, less_minus, less_small}
use Rattle.netting.proofs.Nettings.{pallets_small}
use Rattle.netting.proofs.Moving.{given_small}

-- Every firm's balance is what it received less what it gave.
abbrev pub Differ : List ℤ → (ℕ → ℕ) → (ℕ → ℕ) → Type 0
Differ xs r g = (i : ℕ) → i < length xs → get_or xs i (pos 0) ≡ pos (r i) -ℤ pos (g i)

-- Pallets more on one side of one firm: v i q is the balance of firm i with q pallets on that side.
moves_one : (op : ℤ → ℤ → ℤ) (v : ℕ → ℕ → ℤ) → ((i q p : ℕ) → op (v i q) (pos p) ≡ v i (q + p)) → (xs : List ℤ) (side : ℕ → ℕ)
    (firm p : ℕ) → firm < length xs → ((i : ℕ) → i < length xs → get_or xs i (pos 0) ≡ v i (side i)) → (i : ℕ)
    → i < length (set xs firm (op (get_or xs firm (pos 0)) (pos p)))
    → get_or (set xs firm (op (get_or xs firm (pos 0)) (pos p))) i (pos 0) ≡ v i (side i + cond (eqb firm i) p 0)
moves_one op v law xs side firm p there d i l =
    by-test (eqb firm i)
    (λ e.
    let q : i ≡ firm = omega tests in
    rw (e, q) (get_or-set_same xs firm _ (pos 0) there ∙ ap (λ (z : ℤ). op z (pos p)) (d firm there) ∙ law firm (side firm) p))
    (λ e.
    let none : side i + 0 ≡ side i = omega arith in
    rw (e, none) (get_or-set_other xs firm i _ (pos 0) (omega tests) ∙ d i (rw (length-set xs firm _) at l)))

-- The pallets that count go to the firm, or to nobody.
either_order : (counts mine : Bool) (p : ℕ) → cond mine (cond counts p 0) 0 ≡ cond (counts && mine) p 0
either_order true mine p = refl
either_order false true p = refl
either_order false false p = refl

-- What is known before the movement at place k: balances of the movements before it, and that it keeps the limits.
pub record Step (counts : Movement → Bool) (movements : List ℕ) (k : ℕ) (xs : List ℤ) : Type 0 where
  pub few : (j : ℕ) → j < suc k → (movement movements j).pallets ≤ max_pallets
  pub short : suc k ≤ max_movements
  pub giver : (movement movements k).giver < length xs
  pub taker : (movement movements k).taker < length xs
  pub balances : Differ xs (received counts movements k) (given counts movements k)

module _ (counts : Movement → Bool) (movements : List ℕ) (k : ℕ) (xs : List ℤ) (h : Step counts movements k xs) where
  -- The pallets of the movement where it counts, and the balances once its giver gave them.
  abbrev moved : ℕ
  moved = cond (counts (movement movements k)) (movement movements k).pallets 0

  abbrev gave : List ℤ
  gave = set xs (movement movements k).giver (get_or xs (movement movements k).giver (pos 0) -ℤ pos moved)

  pub moved_few : moved ≤ max_pallets
  moved_few = by_cond (λ (p : ℕ). p ≤ max_pallets) (counts (movement movements k)) (λ e. h.few k (omega arith)) (λ e. omega arith)

  small_before : (side : Movement → ℕ) (i : ℕ) → pallets_of side counts movements k i ≤ max_balance
  small_before side i =
      let s = h.short in
      pallets_small side counts movements k i (λ j l. h.few j (omega arith)) (omega arith)

  pub giver_movable : Movable xs (movement movements k).giver (neg_ℤ (pos moved))
  giver_movable =
      record {
        there = h.giver;
        few = given_small moved moved_few;
        small = rw (h.balances _ h.giver) (less_small _ _ max_balance (small_before _ _) (small_before _ _));
      }

  gave_differ : Differ gave (received counts movements k) (given counts movements (suc k))
  unfolding pallets_of sum_below
  gave_differ i l =
      moves_one ◌-ℤ◌ (λ j q. pos (received counts movements k j) -ℤ pos q) (λ j q p. less_minus _ q p) xs (given counts movements k)
      (movement movements k).giver moved h.giver h.balances i l
      ∙ ap (λ (n : ℕ). pos (received counts movements k i) -ℤ pos (given counts movements k i + n))
      (either_order (counts (movement movements k)) (eqb (movement movements k).giver i) (movement movements k).pallets)

  taker_there : (movement movements k).taker < length gave
  taker_there = rw (length-set xs (movement movements k).giver _) h.taker

  pub taker_movable : Movable gave (movement movements k).taker (pos moved)
  taker_movable =
      record {
        there = taker_there;
        few = moved_few;
        small =
            rw (gave_differ _ taker_there)
            (less_small _ _ max_balance (small_before _ _) (pallets_small _ counts movements (suc k) _ h.few h.short));
      }

  pub both_differ :
      Differ (set gave (movement movements k).taker (get_or gave (movement movements k).taker (pos 0) +ℤ pos moved))
      (received counts movements (suc k)) (given counts movements (suc k))
  unfolding pallets_of sum_below
  both_differ i l =
      moves_one ◌+ℤ◌ (λ j q. pos q -ℤ pos (given counts movements (suc k) j)) (λ j q p. less_plus q (given counts movements (suc k) j) p) gave
      (received counts movements k) (movement movements k).taker moved taker_there gave_differ i l
      ∙ ap (λ (n : ℕ). pos (received counts movements k i + n) -ℤ pos (given counts movements (suc k) i))
      (either_order (counts (movement movements k)) (eqb (movement movements k).taker i) (movement movements k).pallets)

-- ---- the pass, up to a place

pub record Passed (movements : List ℕ) (marks : List Bool) (replicas added : ℕ) (before after : List ℤ) (k : ℕ) : Type 0 where
  pub size : length after ≡ length before
  pub allowed : all_below k (λ j. movement_allowed replicas added (movement movements j)) ≡ true
  pub balances : Differ after (received (marked marks) movements k) (given (marked marks) movements k)

module _ (movements : List ℕ) (marks : List Bool) (replicas added : ℕ) (before : List ℤ)
    (t : Talliable movements marks replicas added before) where
  pub starts : Passed movements marks replicas added before before 0
  unfolding all_below pallets_of sum_below
  starts = record { size = refl; allowed = refl; balances = λ i l. t.zeros i }

  module _ (xs : List ℤ) (k : ℕ) (l : k < movement_count movements) (h : Passed movements marks replicas added before xs k)
      (now : movement_allowed replicas added (movement movements k) ≡ true) where
    pub step : Step (marked marks) movements k xs
    unfolding all_below
    step =
        let short = list_short movements t.list in
        let all : all_below (suc k) (λ j. movement_allowed replicas added (movement movements j)) ≡ true = true_and h.allowed now in
        let x = is-allowed replicas added (movement movements k) now in
        record {
          few = λ j below. (is-allowed replicas added (movement movements j) (at_below (suc k) _ all j below)).few;
          short = omega arith;
          giver = omega (arith, x.giver, h.size, t.firms);
          taker = omega (arith, x.taker, h.size, t.firms);
          balances = h.balances;
        }

    pub goes_on : Passed movements marks replicas added before
        (set (gave (marked marks) movements k xs step) (movement movements k).taker
        (get_or (gave (marked marks) movements k xs step) (movement movements k).taker (pos 0)
        +ℤ pos (moved (marked marks) movements k xs step))) (suc k)
    unfolding all_below
    goes_on =
        record {
          size = simp length-set h.size;
          allowed = true_and h.allowed now;
          balances = both_differ (marked marks) movements k xs step;
        }

    pub block_there : (movement movements k).block < length marks
    block_there = let x = is-allowed replicas added (movement movements k) now in omega (arith, x.block, t.blocks)

  pub stops : (xs : List ℤ) (k : ℕ) → k < movement_count movements → movement_allowed replicas added (movement movements k) ≡ false
      → Tallied movements marks replicas added false xs
  stops xs k l broken =
      record {
        tested = refuted_one (λ j. movement_allowed replicas added (movement movements j)) k (movement_count movements) l broken;
        firms = λ e. absurd (false≢true e);
      }

  pub ends : (xs : List ℤ) → Passed movements marks replicas added before xs (movement_count movements)
      → Tallied movements marks replicas added true xs
  ends xs h =
      record { tested = sym h.allowed; firms = λ e i l. h.balances i (omega (arith, h.size, t.firms)) }
