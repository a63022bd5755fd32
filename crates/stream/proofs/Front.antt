-- Text in front stays in front; so what is written chunk by chunk is what all bytes at once give.
use Prim.Native.Nat.{ℕ}
use mathlib.Core.Path.{◌≡◌, refl, sym}
use mathlib.Core.Bool.{◌&&◌}
use mathlib.Core.List.{List, [], ◌∷◌, ◌++◌, append_assoc, append-nil}
use lib.Dec.{ltb, eqb}
use lib.ListN.{length}
use Rattle.protocol.proofs.logic.Booleans.{by-test}
use Rattle.script.specs.Text.{line_feed}
use Rattle.stream.specs.Output.{max_lines}
use Rattle.stream.specs.Stream.{Stream, end_line, hold, byte_in, fed, finished, emptied, written}
use Rattle.stream.specs.Theorems.{joined}
use Rattle.stream.proofs.Fed.{fed_append}

-- A stream with text in front of its own.
abbrev pub fronted : List ℕ → Stream → Stream
fronted t s = record { session = s.session; lines = s.lines; held = s.held; text = t ++ s.text }

module _ (t : List ℕ) where
  front_line : (s : Stream) → end_line (fronted t s) ≡ fronted t (end_line s)
  unfolding end_line
  front_line s = rw append_assoc

  front_byte : (s : Stream) (byte : ℕ) → byte_in (fronted t s) byte ≡ fronted t (byte_in s byte)
  unfolding byte_in hold
  front_byte s byte =
      by-test (ltb s.lines max_lines)
      (λ e. rw e (by-test (eqb byte line_feed) (λ f. rw f (front_line s)) (λ f. rw f)))
      (λ e. rw e)

  pub front_fed : (s : Stream) (bytes : List ℕ) → fed (fronted t s) bytes ≡ fronted t (fed s bytes)
  unfolding fed
  front_fed s [] = refl
  front_fed s (byte ∷ bytes) = rw (front_byte s byte) (front_fed (byte_in s byte) bytes)

  pub front_finished : (s : Stream) → finished (fronted t s) ≡ fronted t (finished s)
  unfolding finished
  front_finished s =
      by-test (ltb s.lines max_lines && ltb 0 (length s.held)) (λ e. rw e (front_line s)) (λ e. rw e)

  front_text : (s : Stream) (bytes : List ℕ) → (finished (fed (fronted t s) bytes)).text ≡ t ++ (finished (fed s bytes)).text
  front_text s bytes = rw (front_fed s bytes, front_finished)

-- The text so far, then what comes out with none.
pub text_apart : (s : Stream) (bytes : List ℕ) → (finished (fed s bytes)).text ≡ s.text ++ (finished (fed (emptied s) bytes)).text
text_apart s bytes = rw (append-nil s.text) at (front_text s.text (emptied s) bytes)

pub written_at_once : (s : Stream) (chunks : List (List ℕ)) → written s chunks ≡ (finished (fed (emptied s) (joined chunks))).text
unfolding written joined fed
written_at_once s [] = refl
written_at_once s (chunk ∷ chunks) =
    let next = fed (emptied s) chunk in
    rw (fed_append, written_at_once next chunks) (sym (text_apart next (joined chunks)))
