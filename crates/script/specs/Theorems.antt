-- What holds of the answers to lines. Proved in proofs/ under the same name in lower case with hyphens.
use Rattle.std.specs.Prelude.{ℕ, ◌≡◌, true, List}
use Rattle.protocol.specs.Memory.{Memory}
use Rattle.protocol.specs.Outcome.{wrong_form}
use Rattle.ledger.specs.Called.{MakeCall}
use Rattle.ledger.specs.Coding.{open_code}
use Rattle.script.specs.Lines.{field_count, numbers, has_numbers}
use Rattle.script.specs.Session.{Session, code_in, replica_in, number_in, list_in, unchanged, answer_line}
use Rattle.script.specs.Text.{Printable}

-- Every answer can be printed: a call's number is at most 9, or an opening's 12, an unreadable line's is 10, and values are at most
-- 1,000,000.
unfoldable pub AnswersPrintable : Type 0
AnswersPrintable = (s : Session) (line : List ℕ) → Printable (answer_line s line).answer

-- "1, 0, 0 [..] all words as before", and so on to "10, 0, 0 | script line unreadable", and 12: a line that is not accepted has two zeros
-- for values, and leaves the words and the f in use.
unfoldable pub RefusedLeavesSession : Type 0
RefusedLeavesSession =
    (s : Session) (line : List ℕ) → ((answer_line s line).answer.number ≡ 0 → ⊥)
    → answer_line s line ≡ unchanged (answer_line s line).answer.number s

-- These numbers make a call, and it is no opening.
pub record OtherCall (m : Memory) (given : List ℕ) : Type 0 where
  pub made : MakeCall m (code_in given) (replica_in given) (number_in given) (list_in given)
  pub other : code_in given ≡ open_code → ⊥

-- "Before the first accepted opening a readable line other than opening returns 1." Readable: it has numbers, and these make a call.
unfoldable pub BeforeOpening : Type 0
BeforeOpening =
    (s : Session) (line : List ℕ) → s.fault_bound ≡ 0 → has_numbers line ≡ true
    → OtherCall s.memory (numbers line (field_count line)) → answer_line s line ≡ unchanged wrong_form s
