-- Statements with premises, used at worked instances: the premises hold there by computation.
use Prim.Native.Nat.{◌≤◌}
use mathlib.Core.Path.{◌≡◌, refl}
use mathlib.Core.Bool.{true}
use native.Mathlib.Omega.{arith}
use lib.IntN.{pos}
use Rattle.movements.specs.declared.Movement.{Movement}
use Rattle.protocol.specs.Ancestry.{ancestor_within}
use Rattle.protocol.specs.Theorems.{Accepted}
use Rattle.protocol.specs.History.{given_parent}
use Rattle.protocol.specs.Agreement.{events_of}
use Rattle.protocol.proofs.Witnesses.{worked, worked_told, first_decided, second_decided}
use Rattle.netting.specs.Netting.{counts_by, sum_below, netting}
use Rattle.netting.specs.Theorems.{total_below, BalancesAddUp, chain_length, LongerCountsMore}
use Rattle.netting.specs.cases.Balances.{forked, day}
use Rattle.netting.proofs.cases.Balances.{answers}

-- Replica 0's netting at block 2 is accepted: so is replica 1's, and all three add up to 0.
pub balances_add_up_used : BalancesAddUp
    → Accepted (netting forked day 2 1) × (total_below 3 (λ i. (netting forked day 2 i).answer.first) ≡ pos 0)
unfolding BalancesAddUp answers
balances_add_up_used statement = let all = statement forked day 2 0 refl in (all.accepted 1 (omega arith), all.total)

-- A movement in block 1, which is decided first, and then block 2.
abbrev moved : Movement
moved = record { block = 1; giver = 0; taker = 1; pallets = 5 }

longer : chain_length (given_parent (events_of worked)) 1 ≤ chain_length (given_parent (events_of worked)) 2
unfolding sum_below ancestor_within given_parent
longer = rw worked_told (omega arith)

counted : counts_by (given_parent (events_of worked)) 1 moved ≡ true
unfolding ancestor_within given_parent
counted = refl

pub longer_counts_more_used : LongerCountsMore → counts_by (given_parent (events_of worked)) 2 moved ≡ true
unfolding LongerCountsMore
longer_counts_more_used statement = statement worked 0 1 1 0 2 2 first_decided second_decided longer moved counted
