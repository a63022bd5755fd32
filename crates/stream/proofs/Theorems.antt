-- What is written is the output for the bytes, in whatever chunks they come; so are the texts of the program's turns.
use Prim.Native.Nat.{ℕ, suc, ◌-◌}
use mathlib.Core.Path.{◌≡◌, refl, ◌∙◌}
use mathlib.Core.Bool.{true, false, cond}
use mathlib.Core.List.{List, [], ◌∷◌, ◌++◌, append_assoc, append-nil}
use lib.Dec.{ltb, eqb}
use lib.ListN.{length, take}
use lib.Seq.{take-nil}
use Rattle.protocol.proofs.logic.Booleans.{tests, by-test}
use Rattle.script.specs.Text.{line_feed}
use Rattle.stream.specs.Output.{lines_from, answers_to, max_lines, output}
use Rattle.stream.specs.Stream.{Stream, held_places, end_line, fed, finished, new_stream}
use Rattle.stream.specs.Turns.{taken, after, texts, bytes_of, AllCame}
use Rattle.stream.specs.Theorems.{joined, ChunksDoNotMatter, TurnsGiveOutput}
use Rattle.stream.specs.inner.Progress.{begun}
use Rattle.stream.proofs.Fed.{fed_append, answered, line_ended, at_feed, at_other, fed_stopped}
use Rattle.stream.proofs.Front.{fronted, front_fed, front_finished, written_at_once}

pub lines_next : (line : List ℕ) (byte : ℕ) (bytes : List ℕ)
    → lines_from line (byte ∷ bytes) ≡ cond (eqb byte line_feed) (line ∷ lines_from [] bytes) (lines_from (line ++ (byte ∷ [])) bytes)
unfolding lines_from
lines_next [] byte bytes = refl
lines_next (b ∷ line) byte bytes = refl

-- The answers to the lines that are still read.
abbrev answers : Stream → List (List ℕ) → List ℕ
answers s lines = answers_to s.session s.lines (take (max_lines - s.lines) lines)

module _ (s : Stream) (high : ltb s.lines max_lines ≡ false) where
  no_answers : (lines : List (List ℕ)) → answers s lines ≡ []
  unfolding answers_to
  no_answers lines = let z : max_lines - s.lines ≡ 0 = omega tests in rw z

  nothing_more : (bytes : List ℕ) (lines : List (List ℕ)) → (finished (fed s bytes)).text ≡ s.text ++ answers s lines
  unfolding finished
  nothing_more bytes lines = rw (fed_stopped s bytes (omega tests), high, no_answers lines, append-nil)

module _ (s : Stream) (low : ltb s.lines max_lines ≡ true) where
  first_answer : (line : List ℕ) (lines : List (List ℕ))
      → s.text ++ answers s (line ∷ lines) ≡ (answered s line).text ++ answers (answered s line) lines
  unfolding answers_to end_line
  first_answer line lines =
      let m : max_lines - s.lines ≡ suc (max_lines - suc s.lines) = omega tests in rw (m, append_assoc)

  at_end : (line : List ℕ) → (finished (begun s line)).text ≡ s.text ++ answers s (lines_from line [])
  unfolding finished lines_from answers_to
  at_end [] = rw (low, take-nil (max_lines - s.lines), append-nil)
  at_end (b ∷ line) =
      let p : ltb 0 (length (take held_places (b ∷ line))) ≡ true = omega tests in
      rw (low, p, line_ended s (b ∷ line), first_answer (b ∷ line) [], take-nil, append-nil)

-- What comes out for bytes after those of a line that has begun.
all_answers : (bytes : List ℕ) (s : Stream) (line : List ℕ)
    → (finished (fed (begun s line) bytes)).text ≡ s.text ++ answers s (lines_from line bytes)
unfolding fed end_line
all_answers [] s line = by-test (ltb s.lines max_lines) (λ low. at_end s low line) (λ high. nothing_more (begun s line) high [] _)
all_answers (byte ∷ bytes) s line =
    by-test (ltb s.lines max_lines)
    (λ low.
    by-test (eqb byte line_feed)
    (λ f.
    rw (at_feed s line low byte f, line_ended s line, lines_next, f, first_answer s low line (lines_from [] bytes))
    (all_answers bytes (answered s line) []))
    (λ f. rw (at_other s line low byte f, lines_next, f) (all_answers bytes s (line ++ (byte ∷ [])))))
    (λ high. nothing_more (begun s line) high (byte ∷ bytes) _)

finished_output : (bytes : List ℕ) → (finished (fed new_stream bytes)).text ≡ output bytes
unfolding output
finished_output bytes = all_answers bytes new_stream []

pub chunks-do-not-matter : ChunksDoNotMatter
unfolding ChunksDoNotMatter
chunks-do-not-matter chunks = written_at_once new_stream chunks ∙ finished_output (joined chunks)

-- All bytes at once give the same stream, with the texts before its own.
at_once : (reads : List (List ℕ)) → AllCame reads → fed new_stream (bytes_of reads) ≡ fronted (texts new_stream reads) (after new_stream reads)
unfolding bytes_of texts after taken fed
at_once [] h = refl
at_once ([] ∷ earlier) h = absurd h
at_once ((byte ∷ bytes) ∷ earlier) h =
    rw (fed_append, at_once earlier h, front_fed (texts new_stream earlier) (after new_stream earlier) (byte ∷ bytes), append-nil)

pub turns-give-output : TurnsGiveOutput
unfolding TurnsGiveOutput texts taken
turns-give-output reads h =
    rw (at_once reads h, front_finished (texts new_stream reads) (after new_stream reads)) at (finished_output (bytes_of reads))
