-- Line after line, as far as the chunk goes: what is still to be fed gives what the whole chunk gives.
use lib.ListN.{length}
use Rattle.stream.specs.Stream.{fed, stream_of}
use Rattle.stream.proofs.Feeding.{Going}
use Rattle.stream.proofs.feed.Given as goal

abbrev pub invariant-loop-p : goal.invariant-loop-p
invariant-loop-p l =
    let i = l.initial in
    Going (fed (stream_of i.p i.table i.log i.blocks i.line i.text) l.chunk) (length l.chunk) (length i.text) (length i.log) (length i.blocks)
    l.p l.table l.log l.blocks l.line l.text l.rest

abbrev pub decreases-loop-p : goal.decreases-loop-p
decreases-loop-p l = length l.rest
