use Rattle.certificate_log.specs.inner.Records.{has_kind}
use borrow.Author.Rules.{rules}
use Rattle.certificate_log.proofs.has_kind.Goals as goal

pub returns : goal.returns
unfolding has_kind
returns c = search rules
