-- What is claimed of calls by their codes: each field is a statement of this crate; proofs/Claims.antt holds the proof of each.
use Rattle.ledger.specs.ByCode.{CodesMakeCalls, CodesGoOn}

pub record Claims : Type 0 where
  -- calls by their codes are answered as the calls are, and leave the same
  pub codes_make_calls : CodesMakeCalls
  -- ---- A way on (document 02, #109).
  -- the same of the calls that end in a decision
  pub codes_go_on : CodesGoOn
