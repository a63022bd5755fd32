-- The list that is tested is the eight steps from the index on.
use Prim.Native.Nat.{ℕ, ◌+◌, ◌-◌}
use mathlib.Core.Path.{◌≡◌, ◌∙◌}
use native.Mathlib.Omega.{arith}
use lib.ListN.{length, length-take, length-drop, take, drop}
use Rattle.std.proofs.lemmas.List.{get_or-take, get_or-drop}
use Rattle.protocol.specs.Memory.{step_count}
use Rattle.protocol.proofs.memory.Formed.{steps_same}
use Rattle.counter.proofs.Rising.{sorted_formed}
use Rattle.counter.proofs.steps_formed.Goals as goal

pub returns : goal.returns
returns c =
    let start = c.args.start in
    let words = c.args.words.now in
    let eight : length (take (start + step_count - start) (drop start words)) ≡ step_count =
    omega (arith, c.requires, length-take {A = ℕ}, length-drop {A = ℕ}) in
    sorted_formed _ eight _ c.is_sorted.ensures.cases
    ∙ steps_same _ _ (λ k l. get_or-take (start + step_count - start) (drop start words) k 0 (omega arith) ∙ get_or-drop start words k 0)
