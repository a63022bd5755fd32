-- Lists of certificates: an issued list names the same ones while these stand; and what holds of every issued certificate holds of each one
-- that an issued list names, of its first and of its greatest.
use Prim.Native.Nat.{ℕ, zero, suc, ◌≤◌, ◌<◌}
use mathlib.Core.Path.{◌≡◌, refl}
use mathlib.Core.Bool.{Bool, true}
use mathlib.Core.List.{List, [], ◌∷◌}
use native.Mathlib.Omega.{arith}
use lib.ListN.{length, get_or}
use Rattle.protocol.specs.Memory.{Memory, Certificate, certificate_count, certificate}
use Rattle.protocol.specs.Quorum.{every, is_quorum_size, is_issued, all_issued, certificates_of, first_of, is_greater, greater}
use Rattle.protocol.specs.Quorum.{greatest_from, greatest}
use Rattle.protocol.proofs.logic.Booleans.{tests, by_cond, and-true}

-- A test of every item, at one of them.
pub every_at : {A : Type 0} (test : A → Bool) (xs : List A) (d : A) → every test xs ≡ true → (i : ℕ) → i < length xs
    → test (get_or xs i d) ≡ true
unfolding every
every_at test [] d e i h = absurd (omega arith)
every_at test (x ∷ xs) d e zero h = (and-true (test x) (every test xs) e).0
every_at test (x ∷ xs) d e (suc i) h = every_at test xs d (and-true (test x) (every test xs) e).1 i (omega arith)

-- A list that is issued stays so as the count grows, and names the same certificates while these stand.
pub still_issued : (m m' : Memory) → certificate_count m ≤ certificate_count m' → (list : List ℕ) → all_issued m list ≡ true
    → all_issued m' list ≡ true
unfolding every
still_issued m m' grows [] e = refl
still_issued m m' grows (x ∷ xs) e =
    let both = and-true (is_issued m x) (all_issued m xs) e in
    let here : is_issued m' x ≡ true = omega tests in
    rw (here, still_issued m m' grows xs both.1) refl

pub same_named : (m m' : Memory) → ((c : ℕ) → c < certificate_count m → certificate m' c ≡ certificate m c) → (list : List ℕ)
    → all_issued m list ≡ true → certificates_of m' list ≡ certificates_of m list
unfolding every
same_named m m' same [] e = refl
same_named m m' same (x ∷ xs) e =
    let both = and-true (is_issued m x) (all_issued m xs) e in
    λ d. same x (omega tests) d ∷ same_named m m' same xs both.1 d

abbrev pub All : (Certificate → Type 0) → List Certificate → Type 0
All P [] = Unit {0}
All P (c ∷ cs) = P c × All P cs

module _ (P : Certificate → Type 0) where
  pub all_named : (m : Memory) (list : List ℕ) → all_issued m list ≡ true
      → ((c : ℕ) → c < certificate_count m → P (certificate m c)) → All P (certificates_of m list)
  unfolding every
  all_named m [] e h = tt
  all_named m (x ∷ xs) e h =
      let both = and-true (is_issued m x) (all_issued m xs) e in
      (h x (omega tests), all_named m xs both.1 h)

  pub first_named : (m : Memory) (list : List ℕ) → is_quorum_size m list ≡ true → All P (certificates_of m list)
      → P (first_of (certificates_of m list))
  first_named m [] e h = absurd (omega tests)
  first_named m (x ∷ xs) e h = h.0

  pub greatest-from : (best : Certificate) (cs : List Certificate) → P best → All P cs → P (greatest_from best cs)
  unfolding greatest_from
  greatest-from best [] p h = p
  greatest-from best (c ∷ cs) p h = greatest-from (greater best c) cs (by_cond P (is_greater c best) (λ e. h.0) (λ e. p)) h.1

  -- The two that the calls pick from a list.
  pub picked : (m : Memory) (list : List ℕ) → is_quorum_size m list ≡ true → All P (certificates_of m list)
      → P (first_of (certificates_of m list)) × P (greatest (certificates_of m list))
  picked m list e h =
      let first = first_named m list e h in
      (first, greatest-from (first_of (certificates_of m list)) (certificates_of m list) first h)
