-- The movements passed so far are allowed, and each firm's balance is that of these.
use Rattle.netting.proofs.Tallying.{Passed}
use Rattle.netting.proofs.tally.Given as goal

abbrev pub invariant-loop-place : goal.invariant-loop-place
invariant-loop-place l = Passed l.movements l.marks l.replicas l.added l.initial.balances l.balances l.place
