-- Steps up a line toward a block: whether it is in the line does not change.
use Prim.Native.Nat.{ℕ, ◌≤◌, ◌<◌}
use mathlib.Core.Path.{◌≡◌, sym, ◌∙◌}
use mathlib.Core.List.{List}
use native.Mathlib.Omega.{arith}
use lib.Dec.{eqb}
use Rattle.protocol.specs.Ancestry.{is_ancestor_by}
use Rattle.blocks.specs.inner.Records.{parent_in}
use Rattle.ancestry.specs.inner.AncestryFits.{AncestryFits, Neared}
use Rattle.ancestry.proofs.Fitting.{parent_fits}
use Rattle.ancestry.proofs.Walks.{walk_ends, walk_goes_on}

pub one_nearer : (blocks : List ℕ) (a b : ℕ) → AncestryFits blocks b → a < b → Neared blocks a b (parent_in blocks b)
one_nearer blocks a b h l =
    let up = parent_fits blocks b h (λ z. omega arith) in
    record { walk = up.1; same = sym (walk_goes_on _ _ h.falls a b (omega arith) l); lower = λ above. up.0 }

nearer_still : {blocks : List ℕ} {a b c d : ℕ} → Neared blocks a b c → Neared blocks a c d → Neared blocks a b d
nearer_still one more =
    record {
      walk = more.walk;
      same = more.same ∙ one.same;
      lower = λ above. let second = more.lower above in let first = one.lower (omega arith) in omega arith;
    }

pub four_nearer : {blocks : List ℕ} {a b c d e f : ℕ} → Neared blocks a b c → Neared blocks a c d → Neared blocks a d e
    → Neared blocks a e f → Neared blocks a b f
four_nearer one two three four = nearer_still (nearer_still (nearer_still one two) three) four

-- Where the numbers have come down to a block, it is in the line only if it was met.
pub met : {blocks : List ℕ} {a b top : ℕ} → Neared blocks a b top → top ≤ a → eqb a top ≡ is_ancestor_by (parent_in blocks) a b
met {blocks} {a} {b} {top} h l = sym (walk_ends _ _ h.walk.falls a top top (omega arith) l) ∙ h.same
