use Rattle.protocol.specs.Form.{replica_formed}
use Rattle.form.proofs.Order.{replica_order}
use Rattle.form.proofs.replica_formed.Goals as goal

pub returns : goal.returns
unfolding replica_formed
returns c = rw (c.row_at-row.ensures, c.word.ensures, c.word-2.ensures) (replica_order _ _ _ _ _ _ _ _ _ _)
