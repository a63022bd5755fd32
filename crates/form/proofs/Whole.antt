-- The form by its parts: bounds, lengths and counts first, then the words.
use Prim.Native.Nat.{ℕ, ◌≤◌, ◌<◌}
use mathlib.Core.Path.{◌≡◌, refl, sym}
use mathlib.Core.Bool.{true, false, ◌&&◌}
use native.Mathlib.Omega.{arith}
use lib.ListN.{length}
use Rattle.protocol.specs.Memory.{Memory, max_fault_bound, fault_bound, row_start}
use Rattle.protocol.specs.Form.{all_hold, is_fault_bound, lengths_fit, counts_fit, well_formed}
use Rattle.protocol.proofs.logic.Booleans.{tests, by-test, and-true, true_and, each}
use Rattle.protocol.proofs.memory.Formed.{formed, Sizes, sizes}
use Rattle.form.specs.inner.Parts.{words_ok}

pub bounded : (f : ℕ) → is_fault_bound f ≡ true → f ≤ max_fault_bound
bounded f e = let h = each _ e in omega tests

module _ (m : Memory) where
  pub too_short : length m.table < row_start → false ≡ well_formed m
  too_short h = by-test (well_formed m) (λ w. let s = sizes m (formed m w) in absurd (omega arith)) sym

  pub no_bound : is_fault_bound (fault_bound m) ≡ false → false ≡ well_formed m
  no_bound e = by-test (well_formed m) (λ w. cc (formed m w).faults) sym

  pub no_sizes : lengths_fit m (fault_bound m) && counts_fit m ≡ false → false ≡ well_formed m
  no_sizes e = by-test (well_formed m) (λ w. cc (true_and (formed m w).lengths (formed m w).counts)) sym

  module _ (f : is_fault_bound (fault_bound m) ≡ true) (s : lengths_fit m (fault_bound m) && counts_fit m ≡ true) where
    pub enough : Sizes m
    unfolding lengths_fit counts_fit
    enough =
        let a = each _ f in
        let both = and-true (lengths_fit m (fault_bound m)) (counts_fit m) s in
        let b = each _ both.0 in
        let c = each _ both.1 in
        omega tests

    pub by_words : words_ok m ≡ well_formed m
    unfolding well_formed all_hold
    by_words = let both = and-true (lengths_fit m (fault_bound m)) (counts_fit m) s in rw (f, both.0, both.1) refl
