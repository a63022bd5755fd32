-- Lines of parents: where two agree, and of two blocks of one line.
use Prim.Native.Nat.{ℕ, zero, suc, ◌+◌, ◌≤◌, ◌<◌}
use mathlib.Core.Path.{◌≡◌, refl, ◌∙◌}
use mathlib.Core.Bool.{true, false, cond, false≢true}
use native.Mathlib.Omega.{arith}
use lib.Dec.{eqb}
use Rattle.protocol.specs.Ancestry.{ancestor_within, Falls, is_ancestor_by, steps_to_root, height_by}
use Rattle.protocol.proofs.logic.Booleans.{tests, by-test}
use Rattle.protocol.proofs.memory.Ancestors.{IsAncestor, self, up, is-ancestor, height_up, ancestor_height}
use Rattle.ancestry.proofs.Walks.{walk_ends, walk_goes_on, walk_same}
use Rattle.netting.specs.Netting.{sum_below}
use Rattle.netting.specs.Theorems.{chain_length}
use Rattle.netting.proofs.Sums.{sum_same, sum_rest}

-- The test is the same where the parents are.
pub chain_same : (p q : ℕ → ℕ) (count : ℕ) → Falls p count → ((b : ℕ) → b < count → p b ≡ q b) → (a b : ℕ) → b < count
    → is_ancestor_by p a b ≡ is_ancestor_by q a b
chain_same p q count falls same a b l = walk_same p count falls a q same b b b l (omega arith) (omega arith)

-- What the test tells.
steps_to : (p : ℕ → ℕ) (steps : ℕ) {a b : ℕ} → ancestor_within p steps a b ≡ true → IsAncestor p a b
unfolding ancestor_within
steps_to p zero {a} {b} e = let q : b ≡ a = omega tests in rw q self
steps_to p (suc steps) {a} {b} e =
    by-test (eqb a b) (λ w. let q : b ≡ a = omega tests in rw q self)
    (λ w.
    by-test (eqb b 0) (λ z. let clash : false ≡ true = rw (w, z) at e in absurd (false≢true clash))
    (λ z. up (omega tests) (steps_to p steps (rw (w, z) at e))))

goes_on : {p : ℕ → ℕ} {a b c : ℕ} → IsAncestor p a b → IsAncestor p b c → IsAncestor p a c
goes_on w self = w
goes_on w (up n v) = up n (goes_on w v)

module _ (p : ℕ → ℕ) (count : ℕ) (falls : Falls p count) where
  -- A block in the line of one in a line is in that line.
  pub chain_of_chain : (a b c : ℕ) → c < count → is_ancestor_by p a b ≡ true → is_ancestor_by p b c ≡ true → is_ancestor_by p a c ≡ true
  chain_of_chain a b c l x y = is-ancestor p count falls l (goes_on (steps_to p b x) (steps_to p c y))

  -- In a line only the block itself is as high as the block.
  as_high : {b c : ℕ} → c < count → IsAncestor p b c → height_by p c ≤ height_by p b → b ≡ c
  as_high l self h = refl
  as_high {b} {c} l (up n v) h =
      let lower = falls c l n in
      let more = height_up p count falls c l n in
      let below = ancestor_height p count falls (omega arith) v in
      absurd (omega arith)

  pub chain_as_high : (b c : ℕ) → c < count → is_ancestor_by p b c ≡ true → height_by p c ≤ height_by p b → b ≡ c
  chain_as_high b c l x h = as_high l (steps_to p c x) h

  -- A line has one block more than its block's height: the block itself, and its parent's line.
  in_chain : ℕ → ℕ → ℕ
  in_chain b a = cond (is_ancestor_by p a b) 1 0

  own : (b : ℕ) → b < count → in_chain b b ≡ 1
  unfolding in_chain
  own b l = let e : is_ancestor_by p b b ≡ true = walk_ends p count falls b b b l (omega arith) ∙ omega tests in rw e refl

  up_one : (b : ℕ) → b < count → (b ≡ 0 → ⊥) → sum_below b (in_chain b) ≡ chain_length p (p b)
  unfolding in_chain
  up_one b l n =
      let lower = falls b l n in
      sum_same b (in_chain b) (in_chain (p b)) (λ a below. rw (walk_goes_on p count falls a b l below) refl)
      ∙ sum_rest b (p b + 1) (in_chain (p b)) (omega arith)
      (λ a from to.
      let e : is_ancestor_by p a (p b) ≡ false = walk_ends p count falls a (p b) (p b) (omega arith) (omega arith) ∙ omega tests in
      rw e refl)

  chain_at_root : 0 < count → chain_length p 0 ≡ height_by p 0 + 1
  unfolding sum_below in_chain steps_to_root
  chain_at_root l = let first = own 0 l in omega arith

  chain_from : (steps b : ℕ) → b ≤ steps → b < count → chain_length p b ≡ height_by p b + 1
  unfolding sum_below in_chain
  chain_from zero b h l = let e : b ≡ 0 = omega arith in rw e (chain_at_root (omega arith))
  chain_from (suc steps) b h l =
      by-test (eqb b 0) (λ e. let z : b ≡ 0 = omega tests in rw z (chain_at_root (omega arith)))
      (λ e.
      let lower = falls b l (omega tests) in
      let first = own b l in
      let rest = up_one b l (omega tests) in
      let parents = chain_from steps (p b) (omega arith) (omega arith) in
      let higher = height_up p count falls b l (omega tests) in
      let next : b + 1 ≡ suc b = omega arith in
      rw next (omega arith))

  pub chain-length : (b : ℕ) → b < count → chain_length p b ≡ height_by p b + 1
  chain-length b l = chain_from b b (omega arith) l
