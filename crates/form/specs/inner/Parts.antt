-- The parts of the form that go over words, each over the one slice that it reads.
use Rattle.std.specs.Prelude.{ℕ, Bool, List, [], ◌∷◌}
use Rattle.protocol.specs.Memory.{Memory, memory, replica_count, fault_bound, certificate_count, block_count, steps_at, replica}
use Rattle.protocol.specs.Form.{all_hold, all_below, steps_formed, replica_formed}
use Rattle.blocks.specs.inner.Records.{block_ok}
use Rattle.counter.specs.inner.Rising.{step_in}
use Rattle.certificate_log.specs.inner.Records.{certificate_ok}

-- The test of one replica, where so many blocks are added.
abbrev pub replica_ok : List ℕ → ℕ → ℕ → Bool
replica_ok table added i = replica_formed added (replica (memory table [] []) i)

-- All of them, as in the form whole.
abbrev pub words_ok : Memory → Bool
words_ok m =
    all_hold
    (steps_formed (step_in m.table steps_at)
    ∷ all_below (block_count m) (block_ok m.blocks)
    ∷ all_below (replica_count (fault_bound m)) (replica_ok m.table (block_count m))
    ∷ all_below (certificate_count m) (certificate_ok m.log (replica_count (fault_bound m)) (block_count m))
    ∷ [])
