-- A log that fits what the table counts.
use Rattle.std.specs.Prelude.{ℕ, ◌≤◌, ◌<◌, ◌%◌, ◌≡◌, List, length, get_or}
use Rattle.protocol.specs.Memory.{certificate_count_at, certificate_words, certificate_at, max_certificates}

-- The number of certificates issued, in the table's words.
abbrev pub count_in : List ℕ → ℕ
count_in table = get_or table certificate_count_at 0

-- The facts of the form that finding a certificate and filing one rest on: the table has the count; the log has whole slots, at most 4,096,
-- and no fewer than the count.
pub record LogFits (table log : List ℕ) : Type 0 where
  pub counted : certificate_count_at < length table
  pub whole : length log % certificate_words ≡ 0
  pub small : length log ≤ certificate_at max_certificates
  pub issued : certificate_at (count_in table) ≤ length log
