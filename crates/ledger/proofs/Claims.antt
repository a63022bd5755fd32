-- The proof of each claim.
use Rattle.ledger.specs.Claims.{Claims}
use Rattle.ledger.proofs.ByCode.{codes-make-calls, codes-go-on}

pub claimed : Claims
claimed = record { codes_make_calls = codes-make-calls; codes_go_on = codes-go-on }
