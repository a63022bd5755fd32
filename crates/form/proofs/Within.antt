-- What the form tells the code: that a block's record is there, and how large words are.
use Prim.Native.Nat.{ℕ, ◌+◌, ◌≤◌, ◌<◌}
use native.Mathlib.Omega.{arith}
use lib.ListN.{length}
use Rattle.protocol.specs.Memory.{Memory, replica_count, ceiling, fault_bound, certificate_count, block_count, retired, raised, replica}
use Rattle.protocol.specs.Memory.{certificate, block_words, block_at, parent, kept_height}
use Rattle.protocol.specs.Form.{last_kind, replica_formed, certificate_formed}
use Rattle.protocol.proofs.logic.Booleans.{tests, each}
use Rattle.protocol.proofs.memory.Blocks.{height_bounded}
use Rattle.protocol.proofs.memory.Formed.{Formed, Sizes}

pub block_within : (m : Memory) → Sizes m → (b : ℕ) → b < block_count m → block_at b + block_words ≤ length m.blocks
block_within m s b h = omega arith

pub record ReplicaBounds (m : Memory) (i : ℕ) : Type 0 where
  pub status : (replica m i).status ≤ retired
  pub boot : (replica m i).boot ≤ ceiling
  pub min_view_low : 1 ≤ (replica m i).min_view
  pub min_view : (replica m i).min_view ≤ (replica m i).view_limit
  pub view_limit : (replica m i).view_limit ≤ ceiling
  pub flag : (replica m i).flag ≤ raised
  pub stored_view : (replica m i).stored_view < (replica m i).min_view
  pub stored_block : (replica m i).stored_block < block_count m
  pub decided_view : (replica m i).decided_view ≤ ceiling
  pub decided_block : (replica m i).decided_block < block_count m

pub record CertificateBounds (m : Memory) (c : ℕ) : Type 0 where
  pub kind_low : 1 ≤ (certificate m c).kind
  pub kind : (certificate m c).kind ≤ last_kind
  pub signer : (certificate m c).signer < replica_count (fault_bound m)
  pub view : (certificate m c).view ≤ ceiling
  pub block : (certificate m c).block < block_count m
  pub of_view : (certificate m c).of_view ≤ ceiling
  pub subject : (certificate m c).subject < replica_count (fault_bound m)
  pub subject_boot : (certificate m c).subject_boot ≤ ceiling
  pub signer_boot : (certificate m c).signer_boot ≤ ceiling

module _ (m : Memory) (w : Formed m) where
  pub replica_bounds : (i : ℕ) → i < replica_count (fault_bound m) → ReplicaBounds m i
  unfolding replica_formed
  replica_bounds i l = let h = each _ (w.rows i l) in omega tests

  pub certificate_bounds : (c : ℕ) → c < certificate_count m → CertificateBounds m c
  unfolding certificate_formed
  certificate_bounds c l = let h = each _ (w.log c l) in omega tests

  pub height_below : (b : ℕ) → b < block_count m → kept_height m b ≤ b
  height_below = height_bounded (parent m) (kept_height m) (block_count m) w.blocks
