-- Refused; or the record is written at the next slot, and counted.
use mathlib.Core.Path.{refl, sym, ◌∙◌}
use native.Mathlib.Omega.{arith}
use Rattle.protocol.proofs.memory.Formed.{formed, sizes}
use Rattle.checks.proofs.Needed.{needed}
use Rattle.checks.proofs.Passing.{need_stops, need_on}
use Rattle.opening.proofs.Blocks.{begun, adds, ready}
use Rattle.opening.proofs.block.Goals as goal

pub returns-in_err-need : goal.returns-in_err-need
returns-in_err-need c = need_stops _ _ (begun _ _) _ _ (rw c.is_well_formed.ensures at c.in_err-need.ensures) c.from_residual.ensures

pub bounds-table-2 : goal.bounds-table-2
bounds-table-2 c =
    let form = sym c.is_well_formed.ensures ∙ needed _ _ c.in_ok-need.ensures in
    omega (arith, sizes _ (formed _ form))

pub returns-in_err-need-2 : goal.returns-in_err-need-2
returns-in_err-need-2 c =
    let form = need_on _ _ (begun _ _) (rw c.is_well_formed.ensures at c.in_ok-need.ensures) in
    need_stops _ _ form _ _ c.in_err-need-2.ensures c.from_residual-in_err-need-2.ensures

pub returns-in_err-need-3 : goal.returns-in_err-need-3
returns-in_err-need-3 c =
    let form = need_on _ _ (begun _ _) (rw c.is_well_formed.ensures at c.in_ok-need.ensures) in
    let known = need_on _ _ form c.in_ok-need-2.ensures in
    need_stops _ _ known _ _ (rw c.block_at.ensures at c.in_err-need-3.ensures) c.from_residual-in_err-need-3.ensures

pub overflow_add-height : goal.overflow_add-height
overflow_add-height c =
    let form = sym c.is_well_formed.ensures ∙ needed _ _ c.in_ok-need.ensures in
    let room = needed _ _ (rw c.block_at.ensures at c.in_ok-need-3.ensures) in
    let passed = ready _ _ form (needed _ _ c.in_ok-need-2.ensures) room in
    omega (arith, passed.height, c.height-height.ensures)

pub overflow_add-table : goal.overflow_add-table
overflow_add-table c =
    let form = sym c.is_well_formed.ensures ∙ needed _ _ c.in_ok-need.ensures in
    let room = needed _ _ (rw c.block_at.ensures at c.in_ok-need-3.ensures) in
    let passed = ready _ _ form (needed _ _ c.in_ok-need-2.ensures) room in
    omega (arith, passed.count)

pub set_block-requires : goal.set_block-requires
set_block-requires c =
    let form = sym c.is_well_formed.ensures ∙ needed _ _ c.in_ok-need.ensures in
    let room = needed _ _ (rw c.block_at.ensures at c.in_ok-need-3.ensures) in
    let passed = ready _ _ form (needed _ _ c.in_ok-need-2.ensures) room in
    passed.slot

pub returns : goal.returns
returns c =
    let form = need_on _ _ (begun _ _) (rw c.is_well_formed.ensures at c.in_ok-need.ensures) in
    let known = need_on _ _ form c.in_ok-need-2.ensures in
    let room = need_on _ _ known (rw c.block_at.ensures at c.in_ok-need-3.ensures) in
    adds _ _ room c.accepted.ensures refl (rw c.height-height.ensures at c.set_block.ensures)
