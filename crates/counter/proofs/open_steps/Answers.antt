-- The steps that are copied are eight, as the list is allowed.
use mathlib.Core.Path.{ap, refl, ◌∙◌}
use Prim.Native.Nat.{ℕ}
use lib.ListN.{length, length-take, length-drop}
use lib.Seq.{take_all}
use Rattle.std.proofs.lemmas.Slice.{put_mid-paste}
use Rattle.protocol.specs.Memory.{step_count, steps_at}
use Rattle.protocol.specs.Counter.{steps_from, steps_allowed}
use Rattle.protocol.proofs.logic.Booleans.{tests, each}
use Rattle.counter.proofs.Steps.{all_copied}
use Rattle.counter.proofs.open_steps.Goals as goal

pub slice_bounds-copy_from_slice-end-2 : goal.slice_bounds-copy_from_slice-end-2
unfolding steps_allowed
slice_bounds-copy_from_slice-end-2 c =
    let eight = each _ c.requires.1 in
    let long = ap length c.opening_steps-steps.ensures in
    omega (tests, length-take {A = ℕ})

pub copy_from_slice-requires : goal.copy_from_slice-requires
unfolding steps_allowed
copy_from_slice-requires c =
    let eight = each _ c.requires.1 in
    let long = ap length c.opening_steps-steps.ensures in
    omega (tests, length-take {A = ℕ}, length-drop {A = ℕ})

pub returns : goal.returns
unfolding steps_allowed
returns c =
    let eight = each _ c.requires.1 in
    let steps = steps_from c.args.list.now in
    let long = ap length c.opening_steps-steps.ensures in
    let whole = take_all step_count c.opening_steps-steps.result.now (omega tests) in (
      put_mid-paste steps_at step_count c.args.table.now c.copy_from_slice.new.self steps (length steps)
          (c.copy_from_slice.ensures.after ∙ whole ∙ c.opening_steps-steps.ensures) (omega tests) refl
          ∙ all_copied c.args.table.now steps steps_at (omega (tests, c.requires)),
      rw c.opening_steps-steps.ensures refl,
    )
