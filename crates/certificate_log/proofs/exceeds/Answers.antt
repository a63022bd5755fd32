use Rattle.certificate_log.specs.inner.Records.{exceeds}
use borrow.Author.Rules.{rules}
use Rattle.certificate_log.proofs.exceeds.Goals as goal

pub returns : goal.returns
unfolding exceeds
returns c = search rules
