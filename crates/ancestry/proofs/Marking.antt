-- Marks on the way up a line: one block, some blocks, and the last.
use Prim.Native.Nat.{ℕ, ◌<◌}
use mathlib.Core.Path.{◌≡◌, refl, sym, ap, ◌∙◌}
use mathlib.Core.Bool.{Bool, true, false, ◌||◌, or-true}
use mathlib.Core.List.{List}
use native.Mathlib.Omega.{arith}
use lib.Dec.{ltb, eqb}
use lib.ListN.{length, get_or, set, length-set}
use lib.Seq.{get_or-set_same, get_or-set_other}
use Rattle.protocol.specs.Ancestry.{is_ancestor_by}
use Rattle.protocol.proofs.logic.Booleans.{tests, by-test}
use Rattle.blocks.specs.inner.Records.{parent_in}
use Rattle.ancestry.specs.inner.AncestryFits.{Markable, AncestorsMarked, Climbed}
use Rattle.ancestry.proofs.Fitting.{parent_fits}
use Rattle.ancestry.proofs.Walks.{walk_ends, walk_goes_on}

module _ (blocks : List ℕ) (b : ℕ) (before : List Bool) (h : Markable blocks b before) where
  there : b < length before
  there = omega (arith, h.below, h.size)

  in_own_chain : (a : ℕ) → a ≡ b → is_ancestor_by (parent_in blocks) a b ≡ true
  in_own_chain a e = walk_ends _ _ h.walk.falls a b b (omega arith) (omega arith) ∙ omega tests

  -- A block above b is not in its line.
  above : (a : ℕ) → b < a → is_ancestor_by (parent_in blocks) a b ≡ false
  above a l = walk_ends _ _ h.walk.falls a b b (omega arith) (omega arith) ∙ omega tests

  -- The last block.
  pub last_marked : b ≡ 0 → AncestorsMarked blocks b before (set before b true)
  last_marked z =
      record {
        size = length-set before _ _;
        marks =
            λ a.
            by-test (eqb a b)
            (λ e. let q : a ≡ b = omega tests in rw (in_own_chain a q, q) (get_or-set_same before b true false there))
            (λ e.
            get_or-set_other before b a true false (omega tests)
            ∙ ap (λ (t : Bool). t || get_or before a false) (sym (above a (omega tests))));
      }

  -- A line other than block 0's is its block and its parent's line.
  parent_chain : (b ≡ 0 → ⊥) → (marks : List Bool) → AncestorsMarked blocks (parent_in blocks b) (set before b true) marks
      → AncestorsMarked blocks b before marks
  parent_chain n marks w =
      let lower = h.walk.falls b (omega arith) n in
      let further = (parent_fits _ _ h.walk n).1 in
      record {
        size = w.size ∙ length-set before _ _;
        marks =
            λ a.
            w.marks a
            ∙ by-test (eqb a b)
            (λ e.
            let q : a ≡ b = omega tests in
            rw (in_own_chain a q, q, get_or-set_same before b true false there) (or-true (is_ancestor_by (parent_in blocks) b (parent_in blocks b))))
            (λ e.
            rw (get_or-set_other before b a true false (omega tests))
            (ap (λ (t : Bool). t || get_or before a false)
            (by-test (ltb a b) (λ low. sym (walk_goes_on _ _ h.walk.falls a b (omega arith) (omega tests)))
            (λ high.
            walk_ends _ _ further.falls a (parent_in blocks b) (parent_in blocks b) (omega arith) (omega tests)
            ∙ (let other : eqb a (parent_in blocks b) ≡ false = omega tests in other)
            ∙ sym (above a (omega tests))))));
      }

  -- Block 0 is marked once more.
  root_again : (marks : List Bool) → AncestorsMarked blocks b (set before b true) marks → AncestorsMarked blocks b before marks
  root_again marks w =
      record {
        size = w.size ∙ length-set before _ _;
        marks =
            λ a.
            w.marks a
            ∙ by-test (eqb a b) (λ e. let q : a ≡ b = omega tests in rw (in_own_chain a q) refl)
            (λ e. rw (get_or-set_other before b a true false (omega tests)) refl);
      }

  still_markable : Markable blocks b (set before b true)
  still_markable = record { walk = h.walk; below = h.below; size = length-set before _ _ ∙ h.size }

  pub block_marked : Climbed blocks b (parent_in blocks b) before (set before b true)
  block_marked =
      by-test (eqb b 0)
      (λ e.
      let z : b ≡ 0 = omega tests in
      let same : parent_in blocks b ≡ b = ap (parent_in blocks) z ∙ h.walk.root ∙ sym z in
      rw same (record { markable = still_markable; lower = λ n. absurd (n z); rest = root_again }))
      (λ e.
      let up = parent_fits _ _ h.walk (omega tests) in
      record {
        markable = record { walk = up.1; below = omega (arith, h.below, up.0); size = length-set before _ _ ∙ h.size };
        lower = λ n. up.0;
        rest = parent_chain (omega tests);
      })

climbs_on : {blocks : List ℕ} {b c d : ℕ} {x y z : List Bool} → Climbed blocks b c x y → Climbed blocks c d y z
    → Climbed blocks b d x z
climbs_on one more =
    record {
      markable = more.markable;
      lower = λ n. let second = more.lower n in let first = one.lower (omega arith) in omega arith;
      rest = λ marks w. one.rest marks (more.rest marks w);
    }

pub climbs_four : {blocks : List ℕ} {b c d e f : ℕ} {v w x y z : List Bool} → Climbed blocks b c v w → Climbed blocks c d w x
    → Climbed blocks d e x y → Climbed blocks e f y z → Climbed blocks b f v z
climbs_four one two three four = climbs_on (climbs_on (climbs_on one two) three) four

-- At block 0 the walk ends.
pub climbs_to_root : {blocks : List ℕ} {b top : ℕ} {x y : List Bool} → top ≡ 0 → Climbed blocks b top x y
    → AncestorsMarked blocks b x (set y 0 true)
climbs_to_root {blocks} {b} {top} {x} {y} z w = w.rest (set y 0 true) (rw (← z) (last_marked blocks top y w.markable z))
