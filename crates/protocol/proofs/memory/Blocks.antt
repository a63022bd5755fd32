-- The form of blocks, both ways; and that the heights of well-formed blocks are the steps to block 0.
use Prim.Native.Nat.{ℕ, zero, suc, ◌+◌, ◌≤◌, ◌<◌}
use mathlib.Core.Path.{◌≡◌, refl, sym, ap, ◌∙◌}
use mathlib.Core.Bool.{true, false, ◌&&◌}
use mathlib.Core.List.{[], ◌∷◌}
use native.Mathlib.Omega.{arith}
use lib.Dec.{ltb, eqb}
use Rattle.protocol.specs.Ancestry.{Falls, steps_to_root, height_by}
use Rattle.protocol.specs.Form.{all_hold, block_formed}
use Rattle.protocol.proofs.logic.Booleans.{tests, by-test, each, all-hold}
use Rattle.protocol.proofs.logic.Joined.{joined_all}
use Rattle.protocol.proofs.memory.Ancestors.{height_up, height_at_most}

module _ (p h : ℕ → ℕ) where
  -- Block 0.
  pub root-formed : p 0 ≡ 0 → h 0 ≡ 0 → block_formed p h 0 ≡ true
  unfolding block_formed
  root-formed parent height = all-hold _ (omega tests)

  pub root_form : block_formed p h 0 ≡ true → (p 0 ≡ 0) × (h 0 ≡ 0)
  unfolding block_formed
  root_form e = let t = each _ e in omega tests

  pub root_test : eqb (p 0) 0 && eqb (h 0) 0 ≡ block_formed p h 0
  unfolding block_formed
  root_test = joined_all _ (_ ∷ [])

  module _ (b : ℕ) (n : b ≡ 0 → ⊥) where
    -- Any other.
    pub child_formed : p b < b → h b ≡ h (p b) + 1 → block_formed p h b ≡ true
    unfolding block_formed
    child_formed parent height = let z : eqb b 0 ≡ false = omega tests in rw z (all-hold _ (omega tests))

    pub child_form : block_formed p h b ≡ true → (p b < b) × (h b ≡ h (p b) + 1)
    unfolding block_formed
    child_form e = let z : eqb b 0 ≡ false = omega tests in let t = each _ (rw z at e) in omega tests

  -- Parents and heights that are the same below a count have the same form there: of a parent that is not below its block no height is read.
  pub forms_same : (q k : ℕ → ℕ) (count : ℕ) → ((b : ℕ) → b < count → p b ≡ q b) → ((b : ℕ) → b < count → h b ≡ k b) → (b : ℕ) → b < count
      → block_formed p h b ≡ block_formed q k b
  unfolding block_formed all_hold
  forms_same q k count parents heights b l =
      by-test (eqb b 0) (λ e. rw (e, parents b l, heights b l) refl)
      (λ e.
      by-test (ltb (p b) b) (λ below. rw (e, heights b l, heights (p b) (omega tests), parents b l) refl)
      (λ above. rw (e, above, rw (parents b l) at above) refl))

  module _ (count : ℕ) (formed : (b : ℕ) → b < count → block_formed p h b ≡ true) where
    pub parents_fall : Falls p count
    parents_fall b l n = (child_form b n (formed b l)).0

    pub kept-height : (b : ℕ) → b < count → h b ≡ height_by p b
    unfolding steps_to_root
    kept-height b l = go (suc b) b (omega arith) l
      where
        go : (k b : ℕ) → b < k → b < count → h b ≡ height_by p b
        go zero b below l = absurd (omega arith)
        go (suc k) b below l =
            by-test (eqb b 0)
            (λ e. let q : b ≡ 0 = omega tests in rw q (root_form (rw q at (formed b l))).1)
            (λ e.
            let up = child_form b (omega tests) (formed b l) in
            up.1
            ∙ ap (λ (x : ℕ). x + 1) (go k (p b) (omega arith) (omega arith))
            ∙ sym (height_up p count parents_fall b l (omega tests)))

    pub height_bounded : (b : ℕ) → b < count → h b ≤ b
    height_bounded b l = let e = kept-height b l in let most = height_at_most p b in omega arith
