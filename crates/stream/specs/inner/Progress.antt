-- A stream with other bytes held; the places that the program has for one.
use Rattle.std.specs.Prelude.{ℕ, ◌+◌, ◌*◌, ◌≤◌, ◌<◌, ◌≡◌, List, length, take}
use Rattle.script.specs.Session.{max_table}
use Rattle.script.specs.Text.{answer_bytes}
use Rattle.stream.specs.declared.Progress.{Progress}
use Rattle.stream.specs.Output.{max_lines}
use Rattle.stream.specs.Stream.{Stream, held_places}

-- The stream with these bytes held.
abbrev pub with_held : Stream → List ℕ → Stream
with_held s bytes = record { session = s.session; lines = s.lines; held = bytes; text = s.text }

-- The stream where a line has begun with these bytes.
abbrev pub begun : Stream → List ℕ → Stream
begun s line = with_held s (take held_places line)

-- A further line can be answered.
pub record Room (p : Progress) (words places : List ℕ) : Type 0 where
  pub table : length words ≡ max_table
  pub lines : p.lines < max_lines
  pub text : p.pending + answer_bytes ≤ length places

-- The answer to a line follows the text, and nothing is held.
pub record OneMore (p r : Progress) : Type 0 where
  pub held : r.held ≡ 0
  pub pending : r.pending ≡ p.pending + answer_bytes

-- Nothing is to be written yet, and there is room for the answers to a chunk's lines.
pub record Ready (p : Progress) (words line_places places : List ℕ) (bytes : ℕ) : Type 0 where
  pub table : length words ≡ max_table
  pub line : length line_places ≡ held_places
  pub held : p.held ≤ held_places
  pub pending : p.pending ≡ 0
  pub text : answer_bytes * bytes ≤ length places

-- What is to be written, and what is held, lies within its places.
pub record Within (r : Progress) (places : List ℕ) : Type 0 where
  pub held : r.held ≤ held_places
  pub pending : r.pending ≤ length places
