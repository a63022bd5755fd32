-- Searching from the first number on: what is known of the numbers passed, and of the one found.
use Prim.Native.Nat.{ℕ, zero, suc, ◌+◌, ◌≤◌, ◌<◌}
use mathlib.Core.Path.{◌≡◌, ◌∙◌}
use mathlib.Core.Bool.{Bool, true, false}
use native.Mathlib.Omega.{arith}
use native.Mathlib.Numerals.{add-one}
use lib.Dec.{ltb, eqb}
use Rattle.protocol.specs.Certificates.{first_below}
use Rattle.protocol.proofs.logic.Booleans.{tests, by-test}
use Rattle.protocol.specs.inner.Groups.{four_ok}
use Rattle.protocol.proofs.logic.Below.{four_steps}

module _ (test : ℕ → Bool) where
  -- No number below i passes, and i does not either.
  pub none_yet : (i : ℕ) → first_below i test ≡ i → test i ≡ false → first_below (i + 1) test ≡ i + 1
  unfolding first_below
  none_yet i e miss = let l : ltb i i ≡ false = omega tests in rw (add-one i, e, l, miss) (omega arith)

  -- Nor do four, of each of which another test tells that it does not.
  pub none_of_four : (other : ℕ → Bool) → ((k : ℕ) → other k ≡ true → test k ≡ false) → (i : ℕ) → first_below i test ≡ i
      → four_ok other i ≡ true → first_below (i + 4) test ≡ i + 4
  none_of_four other misses = four_steps other (λ i. first_below i test ≡ i) (λ i e o. none_yet i e (misses i o))

  -- One that is found stays the first, however many follow.
  stays : (i n : ℕ) → first_below i test < i → i ≤ n → first_below n test ≡ first_below i test
  unfolding first_below
  stays i zero l h = absurd (omega arith)
  stays i (suc n) l h =
      by-test (eqb i (suc n)) (λ e. let q : i ≡ suc n = omega tests in rw q)
      (λ e.
      let rest = stays i n l (omega tests) in
      let t : ltb (first_below n test) n ≡ true = omega tests in
      rw t rest)

  -- No number below i passes, and i does.
  pub found : (i n : ℕ) → first_below i test ≡ i → test i ≡ true → i < n → first_below n test ≡ i
  unfolding first_below
  found i n e hit l =
      let first : first_below (suc i) test ≡ i = (let z : ltb i i ≡ false = omega tests in rw (e, z, hit)) in
      stays (suc i) n (omega arith) (omega arith) ∙ first

  -- No number below i passes, and there are no more.
  pub none : (i n : ℕ) → first_below i test ≡ i → i ≤ n → n ≤ i → first_below n test ≡ n
  none i n e l h = let q : i ≡ n = omega arith in rw q at e
