-- Everything that is claimed, on one page: a field for each crate that claims something, whose own page, specs/Claims.antt, has a field for
-- each statement. One value of the record, in proofs/, holds every proof. A proof that is missing, or that asks more than its statement
-- does, fails its crate; the gate holds that no statement of any specs/ is missing on its crate's page, and no crate's page here.
use Rattle.protocol.specs.Claims as Protocol
use Rattle.field.specs.Claims as Field
use Rattle.panel.specs.Claims as Panel
use Rattle.netting.specs.Claims as Netting
use Rattle.entries.specs.Claims as Entries
use Rattle.ledger.specs.Claims as Ledger
use Rattle.script.specs.Claims as Script
use Rattle.stream.specs.Claims as Stream

pub record Claims : Type 0 where
  -- the ledger, its calls and lists of calls
  pub protocol : Protocol.Claims
  -- eight-column numbers
  pub field : Field.Claims
  -- the front panel
  pub panel : Panel.Claims
  -- nettings
  pub netting : Netting.Claims
  -- movements that wait
  pub entries : Entries.Claims
  -- calls by their codes
  pub ledger : Ledger.Claims
  -- script lines
  pub script : Script.Claims
  -- the program's bytes
  pub stream : Stream.Claims
