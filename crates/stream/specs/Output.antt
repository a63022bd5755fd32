-- The output of the script program, from its input's lines.
use Rattle.std.specs.Prelude.{ℕ, suc, cond, List, [], ◌∷◌, ◌++◌, eqb, take, replicate}
use Rattle.protocol.specs.Memory.{certificate_at, block_at}
use Rattle.script.specs.Session.{Session, session, max_table, answer_line}
use Rattle.script.specs.Text.{line_feed, answer_text}

-- The lines of a text, after the bytes of a line that has begun. "A last line may lack its line feed": bytes after the last line feed are
-- a line, if there are any.
unfoldable pub lines_from : List ℕ → List ℕ → List (List ℕ)
lines_from [] [] = []
lines_from (byte ∷ line) [] = (byte ∷ line) ∷ []
lines_from line (byte ∷ bytes) = cond (eqb byte line_feed) (line ∷ lines_from [] bytes) (lines_from (line ++ (byte ∷ [])) bytes)

abbrev pub lines_of : List ℕ → List (List ℕ)
lines_of bytes = lines_from [] bytes

-- The answers to lines, each with its number; so many lines were answered before.
unfoldable pub answers_to : Session → ℕ → List (List ℕ) → List ℕ
answers_to s count [] = []
answers_to s count (line ∷ lines) =
    let o = answer_line s line in
    answer_text (suc count) o.answer ++ answers_to o.session (suc count) lines

-- "reading stops after line 99,999,999"
abbrev pub max_lines : ℕ
max_lines = 99999999

-- "with 2,048 certificate and 1,024 block places"
abbrev pub certificate_slots : ℕ
certificate_slots = 2048

abbrev pub block_slots : ℕ
block_slots = 1024

-- Nothing is opened yet.
abbrev pub new_session : Session
new_session = session 0 (replicate max_table 0) (replicate (certificate_at certificate_slots) 0) (replicate (block_at block_slots) 0)

-- "yard" reads these bytes and writes this text.
unfoldable pub output : List ℕ → List ℕ
output bytes = answers_to new_session 0 (take max_lines (lines_of bytes))
