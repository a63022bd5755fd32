-- The output of Output.antt, byte by byte: what the program keeps between two bytes, and what each byte does to it.
use Rattle.std.specs.Prelude.{ℕ, suc, ◌*◌, cond, ◌&&◌, List, [], ◌∷◌, ◌++◌, ltb, eqb, length, take}
use Rattle.field.specs.Field.{columns}
use Rattle.script.specs.Lines.{max_fields}
use Rattle.script.specs.Session.{Session, session, answer_line}
use Rattle.script.specs.Text.{line_feed, answer_text}
use Rattle.stream.specs.declared.Progress.{Progress}
use Rattle.stream.specs.Output.{max_lines, new_session}

-- The ledger, the number of lines answered, the bytes held of the line that has begun, and the text that is still to be written.
pub record Stream : Type 0 where
  pub session : Session
  pub lines : ℕ
  pub held : List ℕ
  pub text : List ℕ

-- What the program has of it: some numbers, the ledger's words, places for a line and for text.
abbrev pub stream_of : Progress → List ℕ → List ℕ → List ℕ → List ℕ → List ℕ → Stream
stream_of p t l b line text =
    record {
      session = session p.fault_bound t l b;
      lines = p.lines;
      held = take p.held line;
      text = take p.pending text;
    }

-- One more byte than a readable line can have: what comes after these tells nothing more.
abbrev pub held_places : ℕ
held_places = suc (columns * max_fields)

abbrev pub holding : List ℕ → ℕ → List ℕ
holding held byte = cond (ltb (length held) held_places) (held ++ (byte ∷ [])) held

-- The line that has begun ends, and is answered.
unfoldable pub end_line : Stream → Stream
end_line s =
    let o = answer_line s.session s.held in
    record {
      session = o.session;
      lines = suc s.lines;
      held = [];
      text = s.text ++ answer_text (suc s.lines) o.answer;
    }

unfoldable pub hold : Stream → ℕ → Stream
hold s byte = record { session = s.session; lines = s.lines; held = holding s.held byte; text = s.text }

-- One byte. After the last line that is read, bytes do nothing.
unfoldable pub byte_in : Stream → ℕ → Stream
byte_in s byte = cond (ltb s.lines max_lines) (cond (eqb byte line_feed) (end_line s) (hold s byte)) s

-- A chunk of bytes.
unfoldable pub fed : Stream → List ℕ → Stream
fed s [] = s
fed s (byte ∷ bytes) = fed (byte_in s byte) bytes

-- The end of the input.
unfoldable pub finished : Stream → Stream
finished s = cond (ltb s.lines max_lines && ltb 0 (length s.held)) (end_line s) s

-- The text is written.
abbrev pub emptied : Stream → Stream
emptied s = record { session = s.session; lines = s.lines; held = s.held; text = [] }

abbrev pub new_stream : Stream
new_stream = record { session = new_session; lines = 0; held = []; text = [] }

-- All that is written where the input comes in these chunks, after each chunk its text.
unfoldable pub written : Stream → List (List ℕ) → List ℕ
written s [] = (finished (emptied s)).text
written s (chunk ∷ chunks) = let next = fed (emptied s) chunk in next.text ++ written next chunks
