-- The ways that a block call goes, and what its code counts on.
use Prim.Native.Nat.{ℕ, ◌+◌, ◌≤◌, ◌<◌}
use mathlib.Core.Path.{◌≡◌}
use mathlib.Core.Bool.{true}
use mathlib.Core.List.{List, [], ◌∷◌}
use Rattle.std.specs.Prelude.{Result, Ok}
use lib.ListN.{length, set}
use lib.Seq.{sets}
use lib.Dec.{ltb}
use Rattle.protocol.specs.Memory.{Memory, block_count_at, block_count, row_start, block_words, block_at, kept_height, block_record}
use Rattle.protocol.specs.Memory.{max_blocks, append_block}
use Rattle.protocol.specs.Form.{well_formed}
use Rattle.protocol.specs.declared.Values.{Values}
use Rattle.protocol.specs.declared.Refusal.{Refusal}
use Rattle.protocol.specs.Outcome.{◌else◌, follow, told, left, wrong_form, unknown_number, no_room}
use Rattle.protocol.specs.FirstNeeds.{is_block}
use Rattle.protocol.specs.Calls.{block}
use Rattle.protocol.proofs.logic.Booleans.{tests}
use Rattle.protocol.proofs.memory.Formed.{formed, sizes}
use Rattle.form.proofs.Within.{height_below}
use Rattle.checks.proofs.Passing.{At, start, accepts}

module _ (m : Memory) (p : ℕ) where
  pub begun : At (block m p)
      (well_formed m else wrong_form
      ∷ is_block m p else unknown_number
      ∷ ltb (block_at (block_count m)) (length m.blocks) else no_room
      ∷ [])
  unfolding block
  begun = start _

  pub adds : {a : Result Values Refusal} {t b : List ℕ} → At (block m p) []
      → a ≡ Ok (record { first = block_count m; second = 0 })
      → t ≡ set m.table block_count_at (block_count m + 1)
      → b ≡ sets m.blocks (block_at (block_count m)) (block_record p (kept_height m p + 1))
      → left (told a) t m.log b ≡ follow m (block m p)
  unfolding block append_block
  adds at answer table blocks = accepts m at answer (rw (table, blocks))

-- What the code counts on once all three tests are passed: the words that it reads and writes are there, and no sum is too large.
pub record Ready (m : Memory) (p : ℕ) : Type 0 where
  pub height : kept_height m p < max_blocks
  pub count : block_count m < max_blocks
  pub header : row_start ≤ length m.table
  pub slot : block_at (block_count m) + block_words ≤ length m.blocks

pub ready : (m : Memory) (p : ℕ) → well_formed m ≡ true → is_block m p ≡ true
    → ltb (block_at (block_count m)) (length m.blocks) ≡ true → Ready m p
ready m p form known room =
    let z = formed m form in
    let s = sizes m z in
    let low = height_below m z p (omega tests) in
    omega tests
