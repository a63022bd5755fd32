-- f, the steps and the lengths are tested; then the header, the steps, block 0 and the rows are written, and nothing else.
use mathlib.Core.Path.{sym, ◌∙◌}
use native.Mathlib.Omega.{arith}
use Rattle.form.proofs.Whole.{bounded}
use Rattle.checks.proofs.Needed.{needed}
use Rattle.checks.proofs.Passing.{need_stops, need_on}
use Rattle.opening.proofs.Opens.{begun, opens, fitting}
use Rattle.opening.proofs.open_ledger.Goals as goal

pub returns-in_err-need : goal.returns-in_err-need
returns-in_err-need c = need_stops _ _ (begun _ _ _) _ _ (rw c.is_fault_bound.ensures at c.in_err-need.ensures) c.from_residual.ensures

pub returns-in_err-need-2 : goal.returns-in_err-need-2
returns-in_err-need-2 c =
    let bound = need_on _ _ (begun _ _ _) (rw c.is_fault_bound.ensures at c.in_ok-need.ensures) in
    need_stops _ _ bound _ _ (rw c.steps_allowed.ensures at c.in_err-need-2.ensures) c.from_residual-in_err-need-2.ensures

pub lengths_fit-requires : goal.lengths_fit-requires
lengths_fit-requires c = bounded _ (sym c.is_fault_bound.ensures ∙ needed _ _ c.in_ok-need.ensures)

pub returns-in_err-need-3 : goal.returns-in_err-need-3
returns-in_err-need-3 c =
    let bound = need_on _ _ (begun _ _ _) (rw c.is_fault_bound.ensures at c.in_ok-need.ensures) in
    let allowed = need_on _ _ bound (rw c.steps_allowed.ensures at c.in_ok-need-2.ensures) in
    need_stops _ _ allowed _ _ (rw c.lengths_fit.ensures at c.in_err-need-3.ensures) c.from_residual-in_err-need-3.ensures

pub fresh_header-requires : goal.fresh_header-requires
fresh_header-requires c =
    let bound = sym c.is_fault_bound.ensures ∙ needed _ _ c.in_ok-need.ensures in
    let z = fitting _ _ bound (sym c.lengths_fit.ensures ∙ needed _ _ c.in_ok-need-3.ensures) in
    (omega (arith, z), z.blocks)

pub open_steps-limit-requires : goal.open_steps-limit-requires
open_steps-limit-requires c =
    let bound = sym c.is_fault_bound.ensures ∙ needed _ _ c.in_ok-need.ensures in
    let fitted = fitting _ _ bound (sym c.lengths_fit.ensures ∙ needed _ _ c.in_ok-need-3.ensures) in
    (omega (arith, fitted), sym c.steps_allowed.ensures ∙ needed _ _ c.in_ok-need-2.ensures)

pub replica_count-replicas-requires : goal.replica_count-replicas-requires
replica_count-replicas-requires c = bounded _ (sym c.is_fault_bound.ensures ∙ needed _ _ c.in_ok-need.ensures)

pub fresh_rows-requires : goal.fresh_rows-requires
fresh_rows-requires c =
    let bound = sym c.is_fault_bound.ensures ∙ needed _ _ c.in_ok-need.ensures in
    let fitted = fitting _ _ bound (sym c.lengths_fit.ensures ∙ needed _ _ c.in_ok-need-3.ensures) in
    omega (arith, fitted, c.replica_count-replicas.ensures)

pub returns : goal.returns
returns c =
    let bound = need_on _ _ (begun _ _ _) (rw c.is_fault_bound.ensures at c.in_ok-need.ensures) in
    let allowed = need_on _ _ bound (rw c.steps_allowed.ensures at c.in_ok-need-2.ensures) in
    let fits = need_on _ _ allowed (rw c.lengths_fit.ensures at c.in_ok-need-3.ensures) in
    opens _ _ _ fits (c.fresh_header.ensures _) c.open_steps-limit.ensures.0 c.open_steps-limit.ensures.1 c.replica_count-replicas.ensures
    c.accepted.ensures c.fresh_rows.ensures
