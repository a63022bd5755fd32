-- Bytes up to a line feed fed at once, as the program takes them.
use Rattle.std.proofs.Common.{ℕ, suc, ◌≤◌, ◌<◌, ◌≡◌, refl, ap, ◌∙◌, true, false, List, [], ◌∷◌, ◌++◌, length, append_assoc, append-nil, get_or, arith}
use lib.Dec.{ltb, eqb}
use lib.Seq.{take_all}
use Rattle.protocol.proofs.logic.Booleans.{tests, by-test}
use Rattle.script.specs.Text.{line_feed}
use Rattle.stream.specs.Output.{max_lines}
use Rattle.stream.specs.Stream.{Stream, held_places, end_line, byte_in, fed}
use Rattle.stream.specs.inner.Progress.{begun}
use Rattle.stream.proofs.Fed.{fed_append, at_feed, at_other}

-- No byte is a line feed.
abbrev pub NoFeed : List ℕ → Type 0
NoFeed bytes = (k : ℕ) → k < length bytes → eqb (get_or bytes k 0) line_feed ≡ true → ⊥

module _ (s : Stream) (low : ltb s.lines max_lines ≡ true) where
  run_held : (bytes line : List ℕ) → NoFeed bytes → fed (begun s line) bytes ≡ begun s (line ++ bytes)
  unfolding fed
  run_held [] line free = rw append-nil refl
  run_held (byte ∷ bytes) line free =
      let other : eqb byte line_feed ≡ false = by-test (eqb byte line_feed) (λ t. absurd (free 0 (omega arith) t)) (λ f. f) in
      rw (at_other s line low byte other)
      (rw append_assoc at (run_held bytes (line ++ (byte ∷ [])) (λ k l. free (suc k) (omega arith))))

module _ (s : Stream) (low : s.lines < max_lines) (fits : length s.held ≤ held_places) where
  held_begun : begun s s.held ≡ s
  held_begun = rw (take_all held_places s.held fits)

  -- Bytes without a line feed are held.
  pub fed_rest : (bytes : List ℕ) → NoFeed bytes → fed s bytes ≡ begun s (s.held ++ bytes)
  fed_rest bytes free = rw held_begun at (run_held s (omega tests) bytes s.held free)

  -- Up to a line feed, and from there.
  pub fed_line : (bytes rest : List ℕ) → NoFeed bytes
      → fed s (bytes ++ (line_feed ∷ rest)) ≡ fed (end_line (begun s (s.held ++ bytes))) rest
  unfolding fed
  fed_line bytes rest free =
      let is : eqb line_feed line_feed ≡ true = refl in
      fed_append s bytes (line_feed ∷ rest) ∙ ap (λ (x : Stream). fed (byte_in x line_feed) rest) (fed_rest bytes free)
      ∙ ap (λ (x : Stream). fed x rest) (at_feed s (s.held ++ bytes) (omega tests) line_feed is)
