-- Where a walk up the parents may start: at every block of well-formed memory, and at the parent of such a block.
use Prim.Native.Nat.{ℕ, ◌<◌}
use mathlib.Core.Path.{◌≡◌}
use mathlib.Core.List.{List}
use native.Mathlib.Omega.{arith}
use Rattle.protocol.specs.Memory.{Memory, block_count, parent, kept_height}
use Rattle.protocol.proofs.memory.Blocks.{root_form}
use Rattle.protocol.proofs.memory.Formed.{Formed, sizes, falls}
use Rattle.blocks.specs.inner.Records.{parent_in}
use Rattle.ancestry.specs.inner.AncestryFits.{AncestryFits}

pub ancestry_fits : (m : Memory) → Formed m → (b : ℕ) → b < block_count m → AncestryFits m.blocks b
ancestry_fits m h b l =
    let s = sizes m h in
    let root = root_form (parent m) (kept_height m) (h.blocks 0 (omega arith)) in
    record { in_slice = omega arith; falls = λ k below n. falls m h k (omega arith) n; root = root.0 }

pub parent_fits : (blocks : List ℕ) (b : ℕ) → AncestryFits blocks b → (b ≡ 0 → ⊥)
    → (parent_in blocks b < b) × AncestryFits blocks (parent_in blocks b)
parent_fits blocks b h n =
    let lower = h.falls b (omega arith) n in
    let within = h.in_slice in
    (lower, record { in_slice = omega arith; falls = λ k below n. h.falls k (omega arith) n; root = h.root })
