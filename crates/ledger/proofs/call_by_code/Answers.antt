-- The code gives a call, or a refusal to hand up.
use Rattle.ledger.proofs.Calling.{not_called, is_called}
use Rattle.ledger.proofs.call_by_code.Goals as goal

pub returns-in_err-call : goal.returns-in_err-call
returns-in_err-call c = not_called _ _ _ _ _ _ _ _ _ c.in_err-call.ensures c.from_residual.ensures

pub returns : goal.returns
returns c = is_called _ _ _ _ _ _ _ c.in_ok-call.ensures c.invoke.ensures
