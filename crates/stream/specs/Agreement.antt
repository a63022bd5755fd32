-- Demand 3 of the program (document 01, "Whole lists of calls"), over the bytes that it reads and writes and nothing else.
use Rattle.std.specs.Prelude.{ℕ, suc, ◌≡◌, take, drop, get_or}
use mathlib.Core.List.{List, [], ◌∷◌, Memᴰ}
use Rattle.protocol.specs.Outcome.{Answer}
use Rattle.protocol.specs.History.{Event, reopened}
use Rattle.protocol.specs.Agreement.{Agreed}
use Rattle.ledger.specs.Coding.{open_code}
use Rattle.script.specs.Lines.{number_at}
use Rattle.script.specs.Session.{code_in}
use Rattle.script.specs.Agreement.{numbers_in, line_event}
use Rattle.stream.specs.Output.{lines_of, max_lines, output}

-- The lines of the input that are answered.
abbrev pub lines_read : List ℕ → List (List ℕ)
lines_read bytes = take max_lines (lines_of bytes)

-- "Each line yields line number, answer and both values": the answer that a line of the output shows.
abbrev pub answer_read : List ℕ → Answer
answer_read text = record { number = number_at text 1; first = number_at text 2; second = number_at text 3 }

-- What lines of the input tell with the lines of the output beside them, the newest first, after earlier events.
unfoldable pub told_history : List Event → List (List ℕ) → List (List ℕ) → List Event
told_history past [] texts = past
told_history past (line ∷ lines) [] = past
told_history past (line ∷ lines) (text ∷ texts) = told_history (line_event line (answer_read text) ∷ past) lines texts

-- What the n lines tell that come after the line at index i, counted from 0.
abbrev pub told_within : List ℕ → ℕ → ℕ → List Event
told_within bytes i n = told_history [] (take n (drop (suc i) (lines_read bytes))) (take n (drop (suc i) (lines_of (output bytes))))

-- The line at index i is an opening, the output shows 0 for it, and shows 0 for no opening among the n lines after it. (A line without
-- numbers has code 0 here too, but the output shows 10 for it; past the last line it shows nothing.)
pub record OpenedAt (bytes : List ℕ) (i n : ℕ) : Type 0 where
  pub opens : code_in (numbers_in (get_or (lines_read bytes) i [])) ≡ open_code
  pub accepted : (answer_read (get_or (lines_of (output bytes)) i [])).number ≡ 0
  pub once : Memᴰ reopened (told_within bytes i n) → ⊥

-- For every input: of the blocks that any two Decides among these lines named for which the output shows 0, one is in the other's line,
-- by the parents that the Blocks among them were given for which it shows 0; and no panel's height falls.
unfoldable pub ProgramAgrees : Type 0
ProgramAgrees = (bytes : List ℕ) (i n : ℕ) → OpenedAt bytes i n → Agreed (told_within bytes i n)
