-- For an f, the table's length, at most that of the largest.
use mathlib.Core.Path.{sym, ap, ◌∙◌}
use Rattle.protocol.specs.Memory.{row_at}
use Rattle.protocol.proofs.logic.Booleans.{tests, each}
use Rattle.script.proofs.Lending.{lends, lends_none}
use Rattle.script.proofs.lent_length.Goals as goal

pub replica_count-requires : goal.replica_count-requires
replica_count-requires c = omega (tests, each _ (sym c.is_fault_bound.ensures ∙ c.if-is_fault_bound.true))

pub returns-then-is_fault_bound : goal.returns-then-is_fault_bound
returns-then-is_fault_bound c =
    lends _ (sym c.is_fault_bound.ensures ∙ c.if-is_fault_bound.true) (c.row_at.ensures ∙ ap row_at c.replica_count.ensures)

pub returns-else-is_fault_bound : goal.returns-else-is_fault_bound
returns-else-is_fault_bound c = lends_none _ (sym c.is_fault_bound.ensures ∙ c.if-is_fault_bound.false)
