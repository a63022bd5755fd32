-- What holds between two turns of the program, and what writing a text leaves.
use Rattle.std.specs.Prelude.{ℕ, ◌*◌, ◌≤◌, ◌≡◌, Option, None, Some}
use Rattle.script.specs.Text.{answer_bytes}
use Rattle.stream.specs.declared.Progress.{Progress}
use Rattle.stream.specs.Stream.{Stream, held_places, stream_of}
use Rattle.yard.specs.declared.Machine.{Machine}

-- A chunk of the input, and the answers to as many lines.
abbrev pub chunk_bytes : ℕ
chunk_bytes = 8192

abbrev pub text_bytes : ℕ
text_bytes = answer_bytes * chunk_bytes

-- The stream that the program's words and bytes are.
abbrev pub stream_in : Machine → Stream
stream_in m = stream_of m.progress m.table m.log m.blocks m.line m.text

-- What is held, and what is to be written, lies within its places.
pub record InPlace (p : Progress) : Type 0 where
  pub held : p.held ≤ held_places
  pub pending : p.pending ≤ text_bytes

-- No text is pending, and what is held lies within its places.
pub record Flushed (p : Progress) : Type 0 where
  pub held : p.held ≤ held_places
  pub pending : p.pending ≡ 0

-- Where a stream stands once its text is written: as before, and nothing is pending.
abbrev pub cleared : Progress → Progress
cleared p = record { fault_bound = p.fault_bound; lines = p.lines; held = p.held; pending = 0 }

-- What writing the text leaves: all was written, and nothing is pending, or it failed, and all is as before.
abbrev pub Written : Machine → Option (Unit {0}) → Machine → Type 0
Written m (Some done) n = n ≡ record m { progress = cleared m.progress }
Written m None n = n ≡ m
