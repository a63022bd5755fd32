-- Quorums meet, for every f: two lists of f+1 different numbers below 2f+1 share a member.
use Prim.Native.Nat.{ℕ, zero, suc, ◌+◌, ◌≤◌, ◌<◌}
use mathlib.Core.Path.{◌≡◌, refl, ap, sym, subst}
use mathlib.Core.Bool.{true, false, cond, not, or-true}
use mathlib.Core.Logic.{◌⊎◌, inl, inr, ⊎_elim}
use mathlib.Core.List.{List, [], ◌∷◌, ◌++◌}
use native.Mathlib.Omega.{arith}
use borrow.Author.Tests.{not-true}
use lib.ListN.{length, length-append}
use lib.Dec.{eqb}
use Rattle.protocol.specs.Memory.{replica_count}
use Rattle.protocol.specs.Quorum.{contains, distinct}
use Rattle.protocol.proofs.logic.Booleans.{tests, by-test, by_cond, and-true, or-false}

-- Every member of a list is below a number.
abbrev pub AllBelow : ℕ → List ℕ → Type 0
AllBelow n [] = Unit {0}
AllBelow n (x ∷ xs) = (x < n) × AllBelow n xs

-- The list without a number.
without : ℕ → List ℕ → List ℕ
without x [] = []
without x (y ∷ ys) = cond (eqb x y) (without x ys) (y ∷ without x ys)

-- What a test of a list's members tells of its tail.
absent : (x y : ℕ) (ys : List ℕ) → contains x (y ∷ ys) ≡ false → (eqb x y ≡ false) × (contains x ys ≡ false)
unfolding contains
absent x y ys e = or-false (eqb x y) (contains x ys) e

pub apart : (y : ℕ) (ys : List ℕ) → distinct (y ∷ ys) ≡ true → (contains y ys ≡ false) × (distinct ys ≡ true)
unfolding distinct
apart y ys e = let both = and-true (not (contains y ys)) (distinct ys) e in (not-true (contains y ys) both.0, both.1)

joined : (y : ℕ) (ys : List ℕ) → contains y ys ≡ false → distinct ys ≡ true → distinct (y ∷ ys) ≡ true
unfolding distinct
joined y ys a d = rw (a, d) refl

without_same : (x : ℕ) (l : List ℕ) → contains x l ≡ false → length (without x l) ≡ length l
unfolding without
without_same x [] e = refl
without_same x (y ∷ ys) e = let a = absent x y ys e in rw a.0 (ap suc (without_same x ys a.1))

-- At most one place is lost from a list of different numbers.
without_length : (x : ℕ) (l : List ℕ) → distinct l ≡ true → length l ≤ suc (length (without x l))
unfolding without
without_length x [] d = omega arith
without_length x (y ∷ ys) d =
    let a = apart y ys d in
    by-test (eqb x y)
    (λ e.
    let q : x ≡ y = omega tests in
    let here : contains x ys ≡ false = subst (λ z. contains z ys ≡ false) (sym q) a.0 in
    let same = without_same x ys here in
    rw e (omega arith))
    (λ e. let shorter = without_length x ys a.1 in rw e (omega arith))

without_absent : (z x : ℕ) (l : List ℕ) → contains z l ≡ false → contains z (without x l) ≡ false
unfolding without contains
without_absent z x [] e = refl
without_absent z x (y ∷ ys) e =
    let a = or-false (eqb z y) (contains z ys) e in
    by_cond (λ r. contains z r ≡ false) (eqb x y) (λ t. without_absent z x ys a.1)
    (λ t. rw a.0 (without_absent z x ys a.1))

without_distinct : (x : ℕ) (l : List ℕ) → distinct l ≡ true → distinct (without x l) ≡ true
unfolding without
without_distinct x [] d = d
without_distinct x (y ∷ ys) d =
    let a = apart y ys d in
    by_cond (λ r. distinct r ≡ true) (eqb x y) (λ t. without_distinct x ys a.1)
    (λ t. joined y (without x ys) (without_absent y x ys a.0) (without_distinct x ys a.1))

without_below : (n : ℕ) (l : List ℕ) → AllBelow (suc n) l → AllBelow n (without n l)
unfolding without
without_below n [] b = tt
without_below n (y ∷ ys) b =
    let rest = without_below n ys b.1 in
    let first = b.0 in
    by_cond (AllBelow n) (eqb n y) (λ t. rest) (λ t. (omega tests, rest))

-- A list without repeats of numbers below n has length at most n.
pub pigeonhole : (n : ℕ) (l : List ℕ) → distinct l ≡ true → AllBelow n l → length l ≤ n
pigeonhole zero [] d b = omega arith
pigeonhole zero (x ∷ xs) d b = let none = b.0 in absurd (omega arith)
pigeonhole (suc n) l d b =
    let fewer = pigeonhole n (without n l) (without_distinct n l d) (without_below n l b) in
    let shorter = without_length n l d in
    omega arith

-- ---- two quorums

pub record Shared (Q R : List ℕ) : Type 0 where
  pub member : ℕ
  pub left : contains member Q ≡ true
  pub right : contains member R ≡ true

-- No member of the first list is in the second.
abbrev Missing : List ℕ → List ℕ → Type 0
Missing R [] = Unit {0}
Missing R (x ∷ xs) = (contains x R ≡ false) × Missing R xs

search_shared : (Q R : List ℕ) → Shared Q R ⊎ Missing R Q
unfolding contains
search_shared [] R = inr tt
search_shared (x ∷ xs) R =
    by-test (contains x R)
    (λ e. inl (record { member = x; left = let s : eqb x x ≡ true = omega tests in rw s refl; right = e }))
    (λ e.
    ⊎_elim (λ s. inl (record { member = s.member; left = rw s.left (or-true (eqb s.member x)); right = s.right }))
    (λ m. inr (e, m)) (search_shared xs R))

append_absent : (x : ℕ) (Q R : List ℕ) → contains x Q ≡ false → contains x R ≡ false → contains x (Q ++ R) ≡ false
unfolding contains
append_absent x [] R q r = r
append_absent x (y ∷ ys) R q r =
    let a = or-false (eqb x y) (contains x ys) q in
    rw a.0 (append_absent x ys R a.1 r)

append_distinct : (Q R : List ℕ) → distinct Q ≡ true → distinct R ≡ true → Missing R Q → distinct (Q ++ R) ≡ true
append_distinct [] R q r m = r
append_distinct (x ∷ xs) R q r m =
    let a = apart x xs q in
    joined x (xs ++ R) (append_absent x xs R a.0 m.0) (append_distinct xs R a.1 r m.1)

append_below : (n : ℕ) (Q R : List ℕ) → AllBelow n Q → AllBelow n R → AllBelow n (Q ++ R)
append_below n [] R q r = r
append_below n (x ∷ xs) R q r = (q.0, append_below n xs R q.1 r)

-- A quorum: f+1 different replicas.
pub record Quorum (f : ℕ) (Q : List ℕ) : Type 0 where
  pub size : length Q ≡ f + 1
  pub different : distinct Q ≡ true
  pub replicas : AllBelow (replica_count f) Q

pub meet : (f : ℕ) (Q R : List ℕ) → Quorum f Q → Quorum f R → Shared Q R
meet f Q R q r =
    ⊎_elim (λ s. s)
    (λ m.
    let most =
    pigeonhole (replica_count f) (Q ++ R) (append_distinct Q R q.different r.different m)
    (append_below (replica_count f) Q R q.replicas r.replicas) in
    absurd (omega (arith, length-append Q R)))
    (search_shared Q R)
