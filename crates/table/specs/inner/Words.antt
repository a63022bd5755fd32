-- The words that stand for a replica's status and its flag.
use Rattle.std.specs.Prelude.{ℕ}
use Rattle.protocol.specs.Memory.{live, recovering, retired, lowered, raised}
use Rattle.table.specs.declared.Status.{Status}
use Rattle.table.specs.declared.Status.TheVariants.{Live, Recovering, Retired}
use Rattle.table.specs.declared.Flag.{Flag}
use Rattle.table.specs.declared.Flag.TheVariants.{Lowered, Raised}

abbrev pub status_word : Status → ℕ
status_word Live = live
status_word Recovering = recovering
status_word Retired = retired

abbrev pub flag_word : Flag → ℕ
flag_word Lowered = lowered
flag_word Raised = raised
