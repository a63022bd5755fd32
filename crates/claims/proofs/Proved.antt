-- The proof of each crate's claims.
use Rattle.claims.specs.Claims.{Claims}
use Rattle.protocol.proofs.Claims as Protocol
use Rattle.field.proofs.Claims as Field
use Rattle.panel.proofs.Claims as Panel
use Rattle.netting.proofs.Claims as Netting
use Rattle.entries.proofs.Claims as Entries
use Rattle.ledger.proofs.Claims as Ledger
use Rattle.script.proofs.Claims as Script
use Rattle.stream.proofs.Claims as Stream

pub proved : Claims
proved =
    record {
      protocol = Protocol.claimed;
      field = Field.claimed;
      panel = Panel.claimed;
      netting = Netting.claimed;
      entries = Entries.claimed;
      ledger = Ledger.claimed;
      script = Script.claimed;
      stream = Stream.claimed;
    }
