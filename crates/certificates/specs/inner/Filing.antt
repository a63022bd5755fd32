-- What filing a certificate asks of the log, and what it gives.
use Rattle.std.specs.Prelude.{ℕ, ◌+◌, ◌<◌, Bool, not, List, [], ◌∷◌, length, get_or, eqb}
use Rattle.protocol.specs.Memory.{Memory, certificate_words, certificate_at, view_at}
use Rattle.protocol.specs.Form.{all_below}
use Rattle.protocol.specs.Certificates.{number_for, found_or_appended, can_file, file}
use Rattle.protocol.specs.Outcome.{◌else◌, Rule, no_room}
use Rattle.certificate_log.specs.inner.LogFits.{count_in, LogFits}

-- The log fits, with a slot free.
pub record LogHasRoom (table log : List ℕ) : Type 0 where
  pub fits : LogFits table log
  pub room : certificate_at (count_in table) < length log

-- The words of the log from an index on are those of a certificate.
unfoldable pub equal_from : List ℕ → ℕ → List ℕ → Bool
equal_from log start ws = all_below certificate_words (λ k. eqb (get_or log (start + k) 0) (get_or ws k 0))

abbrev pub is_equal : List ℕ → List ℕ → ℕ → Bool
is_equal log ws number = equal_from log (certificate_at number) ws

abbrev pub is_of_other_view : List ℕ → ℕ → ℕ → Bool
is_of_other_view log view number = not (eqb (get_or log (certificate_at number + view_at) 0) view)

-- Filing a certificate of these words, as a rule: its number, and whether it is found or appended; it is refused where none is equal and no
-- slot is free.
unfoldable pub filing : Memory → List ℕ → Rule
filing m ws =
    record {
      needs = can_file m ws else no_room ∷ [];
      first = number_for m ws;
      second = found_or_appended m ws;
      after = file m ws;
    }
