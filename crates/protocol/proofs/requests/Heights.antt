-- What specs/Heights.antt states.
use mathlib.Core.Path.{sym, ◌∙◌}
use mathlib.Core.List.{[]}
use native.Mathlib.Omega.{arith}
use Rattle.protocol.specs.Memory.{block_count, parent}
use Rattle.protocol.specs.Runs.{run}
use Rattle.protocol.specs.History.{given_parent}
use Rattle.protocol.specs.Agreement.{events_of, end_of}
use Rattle.protocol.specs.Heights.{HeightsKept, HeightsMatchHistory, HeightsStay}
use Rattle.protocol.proofs.memory.Formed.{formed, falls, height_kept}
use Rattle.protocol.proofs.memory.Ancestors.{height_same}
use Rattle.protocol.proofs.agreement.Agreement.{runs, reached_by}

pub heights-kept : HeightsKept
unfolding HeightsKept
heights-kept m form = height_kept m (formed m form)

pub heights-match-history : HeightsMatchHistory
unfolding HeightsMatchHistory
heights-match-history execution b l =
    let end = end_of execution in
    let h = reached_by execution in
    height_kept end h.safe.formed b l
    ∙ height_same (parent end) (given_parent (events_of execution)) (block_count end) (falls end h.safe.formed) h.told.parents b l

pub heights-stay : HeightsStay
unfolding HeightsStay
heights-stay execution more once b l =
    let end = end_of execution in
    let later = run end more in
    let h = reached_by execution in
    let on = runs execution.f (events_of execution) [] end more h once in
    let grows = on.extends.blocks in
    height_kept later on.reached.safe.formed b (omega arith)
    ∙ sym
    (height_same (parent end) (parent later) (block_count end) (falls end h.safe.formed) (λ x k. sym (on.extends.parent x k)) b l)
    ∙ sym (height_kept end h.safe.formed b l)
