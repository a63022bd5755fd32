-- What is still to be set, after the words that are set, makes what all make.
use mathlib.Core.Path.{◌≡◌}
use lib.ListN.{drop}
use Rattle.protocol.specs.Memory.{row_at, assign}
use Rattle.records.specs.inner.Replicas.{assignments}
use Rattle.records.proofs.set_words.Given as goal

abbrev pub invariant-loop-offset : goal.invariant-loop-offset
invariant-loop-offset l =
    assign l.table (row_at l.replica) (assignments (drop l.offset-index l.words))
    ≡ assign l.initial.table (row_at l.replica) (assignments l.words)
