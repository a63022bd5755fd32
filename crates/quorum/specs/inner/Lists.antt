-- What the contracts say of a list of certificate numbers, beside the definitions of protocol's Quorum.
use Rattle.std.specs.Prelude.{ℕ, ◌+◌, ◌≤◌, ◌<◌, ◌≡◌, Bool, List, [], length, get_or}
use Rattle.protocol.specs.Memory.{Certificate, memory, certificate_words, certificate_at, certificate}
use Rattle.protocol.specs.Memory.{max_certificates}
use Rattle.protocol.specs.Quorum.{certificates_of, greatest}
use Rattle.certificate_log.specs.declared.Certificate as Log
use Rattle.certificate_log.specs.inner.Certificates.{certificate_of}

-- Certificates are read from the log alone: in any memory with this log they are the same.
abbrev pub certificate_in : List ℕ → ℕ → Certificate
certificate_in log number = certificate (memory [] log []) number

abbrev pub certificates_in : List ℕ → List ℕ → List Certificate
certificates_in log list = certificates_of (memory [] log []) list

-- The bits of the word that holds the signers seen.
abbrev pub max_signers : ℕ
max_signers = 64

-- The record of a certificate lies within a log of lawful length.
pub record InLog (log : List ℕ) (number : ℕ) : Type 0 where
  pub short : length log ≤ certificate_at max_certificates
  pub within : certificate_at number + certificate_words ≤ length log

-- So does that of each certificate of a list, and its signer has a bit.
pub record Listed (log list : List ℕ) : Type 0 where
  pub in_log : (i : ℕ) → i < length list → InLog log (get_or list i 0)
  pub signed : (i : ℕ) → i < length list → (certificate_in log (get_or list i 0)).signer < max_signers

-- The answers of what is asked of each certificate are those of a test of the definitions.
abbrev pub Tests : (Log.Certificate → Bool → Type 0) → (Certificate → Bool) → Type 0
Tests answers test = (c : Log.Certificate) (r : Bool) → answers c r → r ≡ test (certificate_of c)

-- An index of the list, where its greatest certificate stands.
pub record Greatest (log list : List ℕ) (r : ℕ) : Type 0 where
  pub within : r < length list
  pub is : certificate_in log (get_or list r 0) ≡ greatest (certificates_in log list)
