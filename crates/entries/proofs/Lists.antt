-- Lists of entries: one that comes, one that leaves, and what they tell of a taker.
use Prim.Native.Nat.{ℕ, zero, suc, ◌+◌, ◌*◌, ◌≤◌, ◌<◌}
use mathlib.Core.Path.{◌≡◌, refl, ap}
use mathlib.Core.Bool.{true, false}
use mathlib.Core.Logic.{⊎_elim}
use mathlib.Core.List.Memᴰ
use mathlib.Core.List.{List, [], ◌∷◌, ◌++◌, Memᴰ}
use native.Mathlib.Omega.{arith}
use lib.ListN.{length}
use lib.Dec.{eqb}
use Rattle.protocol.proofs.logic.Booleans.{tests, by-test, by_cond, or-false}
use Rattle.entries.specs.declared.Entry.{Entry}
use Rattle.entries.specs.Entries.{entry, entries_from, is_waiting, entry_of, without, pallets_for, earliest_for}

-- ---- what holds of each

abbrev pub All : (Entry → Type 0) → List Entry → Type 0
All P [] = Unit {0}
All P (e ∷ es) = P e × All P es

pub all_give : (P Q : Entry → Type 0) (es : List Entry) → ((e : Entry) → P e → Q e) → All P es → All Q es
all_give P Q [] f h = tt
all_give P Q (e ∷ es) f h = (f e h.0, all_give P Q es f h.1)

pub all_joined : (P : Entry → Type 0) (es : List Entry) (e : Entry) → All P es → P e → All P (es ++ (e ∷ []))
all_joined P [] e h new = (new, tt)
all_joined P (x ∷ es) e h new = (h.0, all_joined P es e h.1 new)

pub all_without : (P : Entry → Type 0) (identity : ℕ) (es : List Entry) → All P es → All P (without identity es)
unfolding without
all_without P identity [] h = tt
all_without P identity (e ∷ es) h =
    by_cond (All P) (eqb e.identity identity) (λ hit. h.1) (λ miss. (h.0, all_without P identity es h.1))

pub all_of : (P : Entry → Type 0) (identity : ℕ) (es : List Entry) → is_waiting identity es ≡ true → All P es → P (entry_of identity es)
unfolding is_waiting entry_of
all_of P identity [] w h = let z : ◌≡◌ {A = ℕ} 0 1 = cc in absurd (omega arith)
all_of P identity (e ∷ es) w h =
    by-test (eqb e.identity identity) (λ hit. rw hit h.0) (λ miss. rw miss (all_of P identity es (rw miss at w) h.1))

-- Of entries in the slice, by their numbers.
pub all_from : (P : Entry → Type 0) (w : List ℕ) (k n : ℕ) → ((i : ℕ) → k ≤ i → i < k + n → P (entry w i)) → All P (entries_from w k n)
unfolding entries_from
all_from P w k zero h = tt
all_from P w k (suc n) h = (h k (omega arith) (omega arith), all_from P w (suc k) n (λ i l r. h i (omega arith) (omega arith)))

pub from_all : (P : Entry → Type 0) (w : List ℕ) (k n : ℕ) → All P (entries_from w k n) → (i : ℕ) → k ≤ i → i < k + n → P (entry w i)
unfolding entries_from
from_all P w k zero h i l r = absurd (omega arith)
from_all P w k (suc n) h i l r =
    by-test (eqb i k) (λ hit. let q : i ≡ k = omega tests in rw q h.0)
    (λ miss. from_all P w (suc k) n h.1 i (omega tests) (omega arith))

-- ---- identities

-- No two entries have one identity.
abbrev pub Apart : List Entry → Type 0
Apart [] = Unit {0}
Apart (e ∷ es) = (is_waiting e.identity es ≡ false) × Apart es

waiting_joined : (identity : ℕ) (es : List Entry) (e : Entry) → is_waiting identity es ≡ false → eqb e.identity identity ≡ false
    → is_waiting identity (es ++ (e ∷ [])) ≡ false
unfolding is_waiting
waiting_joined identity [] e h other = rw other
waiting_joined identity (x ∷ es) e h other =
    let both = or-false (eqb x.identity identity) (is_waiting identity es) h in
    rw both.0 (waiting_joined identity es e both.1 other)

pub apart_joined : (es : List Entry) (e : Entry) → Apart es → is_waiting e.identity es ≡ false → Apart (es ++ (e ∷ []))
unfolding is_waiting
apart_joined [] e h new = (refl, tt)
apart_joined (x ∷ es) e h new =
    let both = or-false (eqb x.identity e.identity) (is_waiting e.identity es) new in
    (waiting_joined x.identity es e h.0 (omega tests), apart_joined es e h.1 both.1)

waiting_without : (identity gone : ℕ) (es : List Entry) → is_waiting identity es ≡ false → is_waiting identity (without gone es) ≡ false
unfolding is_waiting without
waiting_without identity gone [] h = refl
waiting_without identity gone (e ∷ es) h =
    let both = or-false (eqb e.identity identity) (is_waiting identity es) h in
    by_cond (λ l. is_waiting identity l ≡ false) (eqb e.identity gone) (λ hit. both.1)
    (λ miss. rw both.0 (waiting_without identity gone es both.1))

pub apart_without : (gone : ℕ) (es : List Entry) → Apart es → Apart (without gone es)
unfolding without
apart_without gone [] h = tt
apart_without gone (e ∷ es) h =
    by_cond Apart (eqb e.identity gone) (λ hit. h.1)
    (λ miss. (waiting_without e.identity gone es h.0, apart_without gone es h.1))

pub member_waits : (e : Entry) (es : List Entry) → Memᴰ e es → is_waiting e.identity es ≡ true
unfolding is_waiting
member_waits e [] w = absurd (Memᴰ.not-nil w)
member_waits e (x ∷ es) w =
    by-test (eqb x.identity e.identity) (λ hit. rw hit)
    (λ miss.
    ⊎_elim (λ (same : e ≡ x). let q = ap (λ (y : Entry). y.identity) same in absurd (omega tests)) (λ v. rw miss (member_waits e es v))
    (Memᴰ.cases_cons w))

-- ---- how many

pub without_length : (identity : ℕ) (es : List Entry) → length (without identity es) ≤ length es
unfolding without
without_length identity [] = omega arith
without_length identity (e ∷ es) =
    let rest = without_length identity es in
    by_cond (λ (l : List Entry). length l ≤ suc (length es)) (eqb e.identity identity) (λ hit. omega arith) (λ miss. omega arith)

-- ---- takers

-- What a taker has of an entry that is not for it: nothing.
pub pallets_joined : (taker : ℕ) (es : List Entry) (e : Entry) → eqb e.taker taker ≡ false
    → pallets_for taker (es ++ (e ∷ [])) ≡ pallets_for taker es
unfolding pallets_for
pallets_joined taker [] e other = rw other
pallets_joined taker (x ∷ es) e other = rw (pallets_joined taker es e other)

pub earliest_joined : (taker : ℕ) (es : List Entry) (e : Entry) → eqb e.taker taker ≡ false
    → earliest_for taker (es ++ (e ∷ [])) ≡ earliest_for taker es
unfolding earliest_for
earliest_joined taker [] e other = rw other
earliest_joined taker (x ∷ es) e other = rw (earliest_joined taker es e other)

pub pallets_without : (taker identity : ℕ) (es : List Entry) → eqb (entry_of identity es).taker taker ≡ false
    → pallets_for taker (without identity es) ≡ pallets_for taker es
unfolding pallets_for without entry_of
pallets_without taker identity [] other = refl
pallets_without taker identity (e ∷ es) other =
    by-test (eqb e.identity identity)
    (λ hit. let own = rw hit at other in rw (hit, own) (omega arith))
    (λ miss. rw miss (rw (pallets_without taker identity es (rw miss at other))))

pub earliest_without : (taker identity : ℕ) (es : List Entry) → eqb (entry_of identity es).taker taker ≡ false
    → earliest_for taker (without identity es) ≡ earliest_for taker es
unfolding earliest_for without entry_of
earliest_without taker identity [] other = refl
earliest_without taker identity (e ∷ es) other =
    by-test (eqb e.identity identity)
    (λ hit. let own = rw hit at other in rw (hit, own))
    (λ miss. rw miss (rw (earliest_without taker identity es (rw miss at other))))

-- Of entries with so many pallets at most.
pub pallets_small : (taker most : ℕ) (es : List Entry) → All (λ e. e.pallets ≤ most) es → pallets_for taker es ≤ length es * most
unfolding pallets_for
pallets_small taker most [] h = omega arith
pallets_small taker most (e ∷ es) h =
    let rest = pallets_small taker most es h.1 in
    let own = h.0 in
    by_cond (λ (p : ℕ). p + pallets_for taker es ≤ suc (length es) * most) (eqb e.taker taker) (λ hit. omega arith) (λ miss. omega arith)
