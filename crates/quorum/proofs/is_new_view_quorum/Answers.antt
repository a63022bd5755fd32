use borrow.Author.Rules.{rules}
use Rattle.protocol.specs.Form.{all_hold}
use Rattle.protocol.specs.Quorum.{is_new_view_of}
use Rattle.quorum.proofs.is_new_view_quorum.Goals as goal

pub returns : goal.returns
unfolding all_hold
returns c = c.is_quorum.ensures (is_new_view_of c.args.view) (λ x r p. search rules)
