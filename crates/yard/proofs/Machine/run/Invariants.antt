-- Between two turns no text is pending, and the stream is the first one after the reads so far.
use Rattle.stream.specs.Turns.{Ran}
use Rattle.yard.specs.inner.Writing.{stream_in, Flushed}
use Rattle.yard.proofs.Machine.run.Given as goal

abbrev pub invariant-loop : goal.invariant-loop
invariant-loop l = Flushed l.self.progress × Ran (stream_in l.initial.self) (stream_in l.self)
