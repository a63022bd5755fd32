-- The ledger that a script works on: what is lent to a line's call, and what the line gives.
use Rattle.std.specs.Prelude.{ℕ, cond, List, ◌++◌, eqb, take, drop, get_or, Result}
use Rattle.protocol.specs.declared.Values.{Values}
use Rattle.protocol.specs.declared.Refusal.{Refusal}
use Rattle.protocol.specs.Memory.{Memory, memory, max_fault_bound, table_length}
use Rattle.protocol.specs.Form.{is_fault_bound}
use Rattle.protocol.specs.Outcome.{Answer, Outcome, told, unreadable}
use Rattle.ledger.specs.Called.{called}
use Rattle.ledger.specs.Coding.{open_code}
use Rattle.script.specs.Lines.{field_count, numbers, has_numbers}

-- The f of the last accepted opening, 0 before the first; and the words, the table's as many as the largest f needs.
pub record Session : Type 0 where
  pub fault_bound : ℕ
  pub memory : Memory

abbrev pub session : ℕ → List ℕ → List ℕ → List ℕ → Session
session f t l b = record { fault_bound = f; memory = memory t l b }

abbrev pub max_table : ℕ
max_table = table_length max_fault_bound

-- "it lends a table of the length that f needs": none for a number that is no f.
unfoldable pub lent_length : ℕ → ℕ
lent_length f = cond (is_fault_bound f) (table_length f) 0

abbrev pub lent : ℕ → Memory → Memory
lent f m = memory (take (lent_length f) m.table) m.log m.blocks

-- "call code, box, number, list. Codes: 0 open (f as box)"
abbrev pub code_field : ℕ
code_field = 0

abbrev pub replica_field : ℕ
replica_field = 1

abbrev pub number_field : ℕ
number_field = 2

abbrev pub list_field : ℕ
list_field = 3

abbrev pub code_in : List ℕ → ℕ
code_in given = get_or given code_field 0

abbrev pub replica_in : List ℕ → ℕ
replica_in given = get_or given replica_field 0

abbrev pub number_in : List ℕ → ℕ
number_in given = get_or given number_field 0

abbrev pub list_in : List ℕ → List ℕ
list_in given = drop list_field given

-- "f being the one being opened or else the one last opened"
abbrev pub fault_bound_for : ℕ → ℕ → ℕ → ℕ
fault_bound_for in_use code replica = cond (eqb code open_code) replica in_use

-- What a line of these numbers gives on the memory that is lent for f. The table's other words stay.
unfoldable pub lending : ℕ → Memory → List ℕ → Outcome
lending f m given =
    let o = called (lent f m) (code_in given) (replica_in given) (number_in given) (list_in given) in
    record {
      answer = o.answer;
      state = memory (o.state.table ++ drop (lent_length f) m.table) o.state.log o.state.blocks;
    }

-- An answer, and the session that it leaves.
pub record Answered : Type 0 where
  pub answer : Answer
  pub session : Session

-- The same of the code's answer, the f in use and the words.
abbrev pub leaves : Result Values Refusal → ℕ → List ℕ → List ℕ → List ℕ → Answered
leaves a f t l b = record { answer = told a; session = session f t l b }

-- The number and two zeros, and the session as before.
abbrev pub unchanged : ℕ → Session → Answered
unchanged number s = record { answer = record { number = number; first = 0; second = 0 }; session = s }

-- The f in use changes with an accepted opening alone.
unfoldable pub answer_numbers : Session → List ℕ → Answered
answer_numbers s given =
    let f = fault_bound_for s.fault_bound (code_in given) (replica_in given) in
    let o = lending f s.memory given in
    record {
      answer = o.answer;
      session = record { fault_bound = cond (eqb o.answer.number 0) f s.fault_bound; memory = o.state };
    }

-- What a line gives. "Anything else, an empty line included, returns 10".
unfoldable pub answer_line : Session → List ℕ → Answered
answer_line s line = cond (has_numbers line) (answer_numbers s (numbers line (field_count line))) (unchanged unreadable s)
