-- A set of signers as the bits of one number.
use Rattle.std.specs.Prelude.{ℕ, ◌/◌, ◌%◌, ◌^◌, Bool, eqb}

-- A signer's bit is set.
unfoldable pub holds : ℕ → ℕ → Bool
holds seen signer = eqb (seen / 2 ^ signer % 2) 1
