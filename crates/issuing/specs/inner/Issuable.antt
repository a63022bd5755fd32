-- What issuing a certificate rests on: the log fits, and the replica's row is there.
use Rattle.std.specs.Prelude.{ℕ, ◌+◌, ◌≤◌, List, length}
use Rattle.protocol.specs.Memory.{row_at, replica_words}
use Rattle.certificate_log.specs.inner.LogFits.{LogFits}

pub record Issuable (table log : List ℕ) (i : ℕ) : Type 0 where
  pub fits : LogFits table log
  pub row : row_at i + replica_words ≤ length table
