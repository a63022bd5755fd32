-- Where the further slice has another length, refused; else as the ledger's opening, and where that opens, every word of it 0.
use mathlib.Core.Path.{◌≡◌, refl}
use lib.ListN.{length}
use Rattle.protocol.specs.Memory.{memory}
use Rattle.entries.specs.Entries.{waiting_words}
use Rattle.entries.specs.Waiting.{lent, waiting_step}
use Rattle.checks.proofs.Passing.{need_stops, need_on, handed_up, some_refusal}
use Rattle.waiting.proofs.Opening.{to_open, opens, refuses_plainly, refuses_length}
use Rattle.waiting.proofs.open_waiting.Goals as goal

pub returns-in_err-need : goal.returns-in_err-need
unfolding waiting_step
returns-in_err-need c =
    need_stops _ _ (to_open _ _ _) _ _ (rw c.is_fault_bound.ensures at c.in_err-need.ensures) c.from_residual.ensures

pub returns-in_err-need-2 : goal.returns-in_err-need-2
unfolding waiting_step
returns-in_err-need-2 c =
    let bound = need_on _ _ (to_open _ _ _) (rw c.is_fault_bound.ensures at c.in_ok-need.ensures) in
    need_stops _ _ bound {s = lent (memory c.args.table.now c.args.log.now c.args.blocks.now) c.args.waiting.now} _ _
    (rw c.steps_allowed.ensures at c.in_err-need-2.ensures) c.from_residual-in_err-need-2.ensures

pub returns-then-waiting-ne-WAITING_WORDS : goal.returns-then-waiting-ne-WAITING_WORDS
returns-then-waiting-ne-WAITING_WORDS c =
    let bound = need_on _ _ (to_open _ _ _) (rw c.is_fault_bound.ensures at c.in_ok-need.ensures) in
    let allowed = need_on _ _ bound (rw c.steps_allowed.ensures at c.in_ok-need-2.ensures) in
    refuses_length (lent (memory c.args.table.now c.args.log.now c.args.blocks.now) c.args.waiting.now) _ _
    c.if-waiting-ne-WAITING_WORDS.true allowed

pub returns-in_err-values : goal.returns-in_err-values
returns-in_err-values c =
    let a = c.args in
    let s = lent (memory a.table.now a.log.now a.blocks.now) a.waiting.now in
    rw (handed_up _ _ c.from_residual-in_err-values.ensures)
    (refuses_plainly s a.f a.steps.now c.in_err-values.ensures (some_refusal c.in_err-values.field-0.0))

pub returns : goal.returns
returns c =
    let a = c.args in
    let s = lent (memory a.table.now a.log.now a.blocks.now) a.waiting.now in
    let size : length a.waiting.now ≡ waiting_words = c.if-waiting-ne-WAITING_WORDS.false in
    rw (c.clear.ensures, size) (opens s a.f a.steps.now c.in_ok-values.ensures size refl)
