-- f, the lengths and the counts come first: without them no word may be read.
use mathlib.Core.Path.{◌∙◌}
use Rattle.protocol.proofs.logic.Joined.{denied, granted}
use Rattle.form.proofs.Whole.{bounded, too_short, no_bound, no_sizes, enough, by_words}
use Rattle.form.proofs.is_well_formed.Goals as goal

pub returns-then-table-lt-ROW_START : goal.returns-then-table-lt-ROW_START
returns-then-table-lt-ROW_START c = too_short _ c.if-table-lt-ROW_START.true

pub returns-then-not-is_fault_bound : goal.returns-then-not-is_fault_bound
returns-then-not-is_fault_bound c = no_bound _ (denied c.is_fault_bound.ensures c.if-not-is_fault_bound.true)

pub lengths_fit-requires : goal.lengths_fit-requires
lengths_fit-requires c = bounded _ (granted c.is_fault_bound.ensures c.if-not-is_fault_bound.false)

pub words_formed-requires : goal.words_formed-requires
words_formed-requires c =
    enough _ (granted c.is_fault_bound.ensures c.if-not-is_fault_bound.false)
    (rw (c.lengths_fit.ensures, c.counts_fit.ensures) at c.if-lengths_fit-counts_fit.true)

pub returns-then-lengths_fit-counts_fit : goal.returns-then-lengths_fit-counts_fit
returns-then-lengths_fit-counts_fit c =
    c.words_formed.ensures
    ∙ by_words _ (granted c.is_fault_bound.ensures c.if-not-is_fault_bound.false)
    (rw (c.lengths_fit.ensures, c.counts_fit.ensures) at c.if-lengths_fit-counts_fit.true)

pub returns-else-lengths_fit-counts_fit : goal.returns-else-lengths_fit-counts_fit
returns-else-lengths_fit-counts_fit c =
    c.if-lengths_fit-counts_fit.false
    ∙ no_sizes _ (rw (c.lengths_fit.ensures, c.counts_fit.ensures) at c.if-lengths_fit-counts_fit.false)
