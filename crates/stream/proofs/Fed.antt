-- Bytes fed one after the other, to a stream where a line has begun.
use Prim.Native.Nat.{ℕ, ◌≤◌}
use mathlib.Core.Path.{◌≡◌, refl}
use mathlib.Core.Bool.{true, false}
use mathlib.Core.List.{List, [], ◌∷◌, ◌++◌}
use lib.Dec.{ltb, eqb}
use lib.ListN.{length, take, length-take, length-append}
use lib.Seq.{take_all, take-append-le}
use Rattle.protocol.proofs.logic.Booleans.{tests, by-test}
use Rattle.script.specs.Text.{line_feed}
use Rattle.stream.specs.Output.{max_lines}
use Rattle.stream.specs.Stream.{Stream, held_places, holding, end_line, hold, byte_in, fed}
use Rattle.stream.specs.inner.Progress.{with_held, begun}
use Rattle.stream.proofs.Long.{held_answer}

pub fed_append : (s : Stream) (xs ys : List ℕ) → fed s (xs ++ ys) ≡ fed (fed s xs) ys
unfolding fed
fed_append s [] ys = refl
fed_append s (byte ∷ xs) ys = fed_append (byte_in s byte) xs ys

-- After the last line that is read.
pub fed_stopped : (s : Stream) (bytes : List ℕ) → max_lines ≤ s.lines → fed s bytes ≡ s
unfolding fed byte_in
fed_stopped s [] h = refl
fed_stopped s (byte ∷ bytes) h = let t : ltb s.lines max_lines ≡ false = omega tests in rw t (fed_stopped s bytes h)

-- The stream after the answer to a line.
abbrev pub answered : Stream → List ℕ → Stream
answered s line = end_line (with_held s line)

one_more_held : (line : List ℕ) (byte : ℕ) → holding (take held_places line) byte ≡ take held_places (line ++ (byte ∷ []))
one_more_held line byte =
    by-test (ltb (length line) held_places)
    (λ t.
    rw (take_all held_places line (omega tests), t, take_all held_places (line ++ (byte ∷ [])) (simp length-append (omega tests))))
    (λ t.
    let f : ltb (length (take held_places line)) held_places ≡ false = simp length-take (omega tests) in
    rw (f, take-append-le held_places line (byte ∷ []) (omega tests)))

module _ (s : Stream) (line : List ℕ) where
  pub line_ended : end_line (begun s line) ≡ answered s line
  unfolding end_line
  line_ended = rw held_answer

  module _ (low : ltb s.lines max_lines ≡ true) (byte : ℕ) where
    pub at_feed : eqb byte line_feed ≡ true → byte_in (begun s line) byte ≡ end_line (begun s line)
    unfolding byte_in
    at_feed f = rw (low, f)

    pub at_other : eqb byte line_feed ≡ false → byte_in (begun s line) byte ≡ begun s (line ++ (byte ∷ []))
    unfolding byte_in hold
    at_other f = rw (low, f, one_more_held)
