-- The way on of the program (document 02, #109), over the bytes that it reads and writes: calls written as lines after those of an input.
use Rattle.std.specs.Prelude.{ℕ, suc, ◌+◌, ◌≤◌, ◌≡◌, true, List, [], ◌∷◌, ◌++◌, map, length}
use Rattle.protocol.specs.Memory.{Memory, fault_bound}
use Rattle.protocol.specs.Outcome.{Answer}
use Rattle.protocol.specs.Runs.{Invocation}
use Rattle.protocol.specs.WayOn.{decision_calls, can_decide, way_on, numbered_answers}
use Rattle.ledger.specs.Coding.{coded}
use Rattle.script.specs.Text.{line_feed, text_of, answer_text}
use Rattle.script.specs.Agreement.{session_after, ledger_of}
use Rattle.script.specs.WayOn.{numbers_of}
use Rattle.stream.specs.Output.{lines_of, max_lines, new_session, output}
use Rattle.stream.specs.Agreement.{lines_read, OpenedAt}

-- The ledger that the lines of an input leave.
abbrev pub ledger_after : List ℕ → Memory
ledger_after bytes = ledger_of (session_after new_session (lines_read bytes))

-- The lines of calls, each with its line feed.
abbrev pub text_of_calls : List Invocation → List ℕ
text_of_calls calls = text_of (map (λ q. numbers_of (coded q)) calls)

-- "Each line yields line number, answer and both values": answers, numbered on; so many lines were answered before.
unfoldable pub answer_texts : ℕ → List Answer → List ℕ
answer_texts count [] = []
answer_texts count (a ∷ rest) = answer_text (suc count) a ++ answer_texts (suc count) rest

-- For every input of whole lines, whose last accepted opening is the line at index i, with n lines after it to the end: where what must
-- last lasts in the ledger that they leave, and as many lines as there are calls are left before "reading stops after line 99,999,999",
-- the calls written as lines after it are answered so that the last is the decision. Every byte of it is known before the first.
unfoldable pub ProgramGoesOn : Type 0
ProgramGoesOn =
    (bytes front : List ℕ) → bytes ≡ front ++ (line_feed ∷ [])
    → let count = length (lines_of bytes) in
    let m = ledger_after bytes in
    (i n : ℕ) → OpenedAt bytes i n → suc i + n ≡ count
    → (replicas : List ℕ) (w : ℕ) → can_decide m replicas w ≡ true → count + decision_calls (fault_bound m) ≤ max_lines
    → output (bytes ++ text_of_calls (way_on m replicas w)) ≡ output bytes ++ answer_texts count (numbered_answers m w)
