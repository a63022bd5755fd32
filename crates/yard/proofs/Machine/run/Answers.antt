-- Each turn takes what was read, and writes what is pending then.
use Rattle.std.proofs.Common.{ap, ◌∙◌}
use Rattle.std.specs.Prelude.{not}
use Rattle.yard.specs.declared.Machine.{Machine}
use Rattle.yard.proofs.Turning.{begins, turned, stands, flushes}
use Rattle.yard.proofs.Machine.run.Goals as goal

pub loop-init : goal.loop-init
loop-init c = (c.requires, begins _)

pub returns-then-is_none : goal.returns-then-is_none
returns-then-is_none c =
    let l = c.loop in
    let m : Machine = record l.self { chunk = c.read_chunk.new.chunk } in
    let o = c.take_read.ensures in
    let ran = turned m _ l.invariant.0 l.invariant.1 o.text_after in
    stands c.take_read.new.self _ _ ran o.in_place c.write_pending.ensures

pub loop-preserved : goal.loop-preserved
loop-preserved c =
    let l = c.loop in
    let m : Machine = record l.self { chunk = c.read_chunk.new.chunk } in
    let o = c.take_read.ensures in
    let ran = turned m _ l.invariant.0 l.invariant.1 o.text_after in
    flushes c.take_read.new.self _ _ ran o.in_place c.write_pending.ensures (c.is_none.ensures ∙ ap not c.if-is_none.false)
