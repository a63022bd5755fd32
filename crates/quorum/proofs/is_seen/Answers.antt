-- A mask of one bit is a remainder by two.
use Prim.Native.Nat.{◌/◌, ◌^◌}
use mathlib.Core.Path.{refl}
use lib.Bits.{and_mask}
use Rattle.quorum.specs.inner.Signers.{holds}
use Rattle.quorum.proofs.is_seen.Goals as goal

pub returns : goal.returns
unfolding holds
returns c = rw (and_mask (c.args.seen / 2 ^ c.args.signer) 1) refl
