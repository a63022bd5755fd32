-- The line is answered from the chunk.
use Rattle.stream.specs.Stream.{stream_of}
use Rattle.stream.proofs.Answers.{from_chunk}
use Rattle.stream.proofs.answer_from.Goals as goal

pub returns-then-p-eq0-clause-text_after : goal.returns-then-p-eq0-clause-text_after
returns-then-p-eq0-clause-text_after c =
    let a = c.args in
    let s = stream_of a.p.now a.table.now a.log.now a.blocks.now a.line.now a.text.now in
    from_chunk s a.line.now a.bytes.now a.p.now.held c.if-p-eq0.true (c.answer.ensures.by_index _)
