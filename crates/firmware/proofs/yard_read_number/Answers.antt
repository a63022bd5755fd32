-- The number that was found, or the number for none.
use Rattle.std.proofs.Common.{ap, ◌∙◌}
use Rattle.std.specs.Prelude.{unwrap_or}
use Rattle.field.specs.Field.{no_number}
use Rattle.field.proofs.Theorems.{number_back}
use Rattle.firmware.proofs.yard_read_number.Goals as goal

pub returns : goal.returns
returns c = c.unwrap_or.ensures ∙ ap (λ r. unwrap_or r no_number) c.read_number.ensures ∙ number_back c.args.bytes.now
