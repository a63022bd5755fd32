-- Tests below a count, as a loop goes over them.
use Prim.Native.Nat.{ℕ, ◌+◌, ◌-◌, ◌≤◌, ◌<◌}
use mathlib.Core.Path.{◌≡◌, refl, sym, subst, ◌∙◌}
use mathlib.Core.Bool.{Bool, true, false, ◌&&◌}
use mathlib.Core.List.{[], ◌∷◌}
use native.Mathlib.Numerals.{add-one}
use native.Mathlib.Omega.{arith}
use lib.Dec.{ltb}
use Rattle.protocol.specs.Form.{all_hold, all_below}
use Rattle.protocol.proofs.logic.Booleans.{tests, by-test, and-true, true_and, at_below, all-below}
use Rattle.protocol.specs.inner.Groups.{two_ok, four_ok}

twos : (a b c d : Bool) → (a && b) && (c && d) ≡ all_hold (a ∷ b ∷ c ∷ d ∷ [])
unfolding all_hold
twos false b c d = refl
twos true false c d = refl
twos true true false d = refl
twos true true true false = refl
twos true true true true = refl

module _ (test : ℕ → Bool) where
  -- Four are two and two.
  two_twos : (k : ℕ) → two_ok test k && two_ok test (k + 2) ≡ four_ok test k
  two_twos k = let e : k + 2 + 1 ≡ k + 3 = omega arith in rw e (twos (test k) (test (k + 1)) (test (k + 2)) (test (k + 3)))

  -- What one test takes on by one, two tests take on by two, and four by four.
  two_steps : (P : ℕ → Type 0) → ((k : ℕ) → P k → test k ≡ true → P (k + 1)) → (k : ℕ) → P k → two_ok test k ≡ true → P (k + 2)
  two_steps P step k p e =
      let both = and-true (test k) (test (k + 1)) e in
      let q : k + 1 + 1 ≡ k + 2 = omega arith in
      subst P q (step (k + 1) (step k p both.0) both.1)

  pub four_steps : (P : ℕ → Type 0) → ((k : ℕ) → P k → test k ≡ true → P (k + 1)) → (k : ℕ) → P k → four_ok test k ≡ true
      → P (k + 4)
  four_steps P step k p e =
      let both = and-true (two_ok test k) (two_ok test (k + 2)) (two_twos k ∙ e) in
      let q : k + 2 + 2 ≡ k + 4 = omega arith in
      subst P q (two_steps P step (k + 2) (two_steps P step k p both.0) both.1)

  pub one_more : (k : ℕ) → all_below k test && test k ≡ all_below (k + 1) test
  unfolding all_below
  one_more k = rw add-one refl

  -- One test more.
  pub next : (k : ℕ) → all_below k test ≡ true → test k ≡ true → all_below (k + 1) test ≡ true
  next k all e = sym (one_more k) ∙ true_and all e

  -- A group of tests more, of any size.
  pub next_group : (size k : ℕ) → all_below k test ≡ true → ((j : ℕ) → j < size → test (k + j) ≡ true) → all_below (k + size) test ≡ true
  next_group size k all group =
      all-below (k + size) test
      (λ i l.
      by-test (ltb i k) (λ e. at_below k test all i (omega tests))
      (λ e. let q : k + (i - k) ≡ i = omega tests in subst (λ (n : ℕ). test n ≡ true) q (group (i - k) (omega tests))))

  -- The loop has reached the count.
  pub at_end : {i k : ℕ} {b : Bool} → i ≤ k → k ≤ i → b ≡ all_below i test → b ≡ all_below k test
  at_end {i} {k} l h all = let e : i ≡ k = omega arith in rw (← e) all

  -- A test that all those below a count would show, and that fails.
  pub refuted : (k : ℕ) (t : Bool) → (((i : ℕ) → i < k → test i ≡ true) → t ≡ true) → t ≡ false → false ≡ all_below k test
  refuted k t shown e = by-test (all_below k test) (λ all. cc (shown (at_below k test all))) sym

  pub refuted_one : (n k : ℕ) → n < k → test n ≡ false → false ≡ all_below k test
  refuted_one n k h = refuted k (test n) (λ all. all n h)
