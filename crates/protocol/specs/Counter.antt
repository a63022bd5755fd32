-- The steps of the monotonic counter (document 01, "Memory", the paragraph "Kinds": the meter; document 02, #104).
use Rattle.std.specs.Prelude.{ℕ, min, Bool, List, [], ◌∷◌, length, get_or, eqb}
use Rattle.protocol.specs.Memory.{Memory, step_count, last_step, kept_step}
use Rattle.protocol.specs.Form.{all_hold, steps_formed}

-- "Steps of the meter by boot 0 to 7: 64, 64, 128, 128, 256, 256, 512, 1024"
abbrev pub default_steps : List ℕ
default_steps = 64 ∷ 64 ∷ 128 ∷ 128 ∷ 256 ∷ 256 ∷ 512 ∷ 1024 ∷ []

-- Document 02, #104: "Opening may be given eight steps of the pool's own. [..] Opening without steps, in a script with an empty list, writes
-- the eight of 01." What an opening with this list beside it writes.
unfoldable pub steps_from : List ℕ → List ℕ
steps_from [] = default_steps
steps_from (step ∷ rest) = step ∷ rest

-- They are eight, "Each is 1 to 4,096 and none is smaller than the one before." Those of document 01 are.
unfoldable pub steps_allowed : List ℕ → Bool
steps_allowed list =
    let steps = steps_from list in
    all_hold (eqb (length steps) step_count ∷ steps_formed (λ k. get_or steps k 0) ∷ [])

-- The step of a boot, by the eight that the memory keeps; "later boots use the last".
unfoldable pub counter_step : Memory → ℕ → ℕ
counter_step m boot = kept_step m (min boot last_step)
