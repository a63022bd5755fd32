-- The line feed is fed that the last line lacks, or nothing is held.
use native.Mathlib.Omega.{arith}
use Rattle.stream.proofs.Answers.{nothing_held, feed_lacking}
use Rattle.stream.proofs.finish.Goals as goal

pub returns-then-p-ne0-clause-text_after : goal.returns-then-p-ne0-clause-text_after
returns-then-p-ne0-clause-text_after c =
    feed_lacking c.args.p.now _ _ _ c.args.line.now _ (omega (arith, c.requires)) c.if-p-ne0.true c.feed.ensures.text_after

pub returns-else-p-ne0-clause-text_after : goal.returns-else-p-ne0-clause-text_after
returns-else-p-ne0-clause-text_after c = nothing_held c.args.p.now _ _ _ _ _ (omega arith)
