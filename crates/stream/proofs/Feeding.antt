-- A chunk, line after line.
use Rattle.std.proofs.Common.{ℕ, suc, ◌+◌, ◌*◌, ◌≤◌, ◌<◌, ◌≡◌, sym, List, ◌∷◌, ◌++◌, length, take, drop, get_or, true, add-one, arith}
use Rattle.std.proofs.lemmas.List.{take-append-drop}
use lib.Dec.{eqb}
use Rattle.std.proofs.lemmas.List.{get_or-take}
use lib.Seq.{drop-cons, length-take-le}
use Rattle.protocol.proofs.logic.Booleans.{tests}
use Rattle.script.specs.Session.{max_table}
use Rattle.script.specs.Text.{line_feed, answer_bytes}
use Rattle.stream.specs.declared.Progress.{Progress}
use Rattle.stream.specs.Output.{max_lines}
use Rattle.stream.specs.Stream.{Stream, stream_of, held_places, end_line, fed}
use Rattle.stream.specs.inner.Progress.{with_held, begun}
use Rattle.stream.specs.inner.Holding.{Held}
use Rattle.stream.proofs.Fed.{fed_stopped}
use Rattle.stream.proofs.Runs.{NoFeed, fed_rest, fed_line}

-- What stays so from line to line. So far there were lines up to what is left of the chunk.
pub record Going (whole : Stream) (chunk_bytes room log_words block_words : ℕ)
    (p : Progress) (t l b line text rest : List ℕ) : Type 0 where
  pub within : length rest ≤ chunk_bytes
  pub table_length : length t ≡ max_table
  pub log_length : length l ≡ log_words
  pub blocks_length : length b ≡ block_words
  pub line_length : length line ≡ held_places
  pub text_length : length text ≡ room
  pub held : p.held ≤ held_places
  pub pending : p.pending + answer_bytes * length rest ≤ answer_bytes * chunk_bytes
  pub same : fed (stream_of p t l b line text) rest ≡ whole

module _ (p : Progress) (t l b line text rest : List ℕ) where
  abbrev s : Stream
  s = stream_of p t l b line text

  pub stopped : max_lines ≤ p.lines → fed s rest ≡ s
  stopped h = fed_stopped s rest h

  module _ (low : p.lines < max_lines) (held : p.held ≤ held_places) (long : length line ≡ held_places) where
    fits : length (take p.held line) ≤ held_places
    fits = let n = length-take-le p.held line (omega (arith, held, long)) in omega (arith, n, held)

    -- No line ends in what is left.
    pub rest_held : {count : ℕ} {places : List ℕ} → NoFeed rest → Held count places (take p.held line ++ rest)
        → fed s rest ≡ with_held s (take count places)
    rest_held free u = rw u.bytes (fed_rest s low fits rest free)

    -- One ends at an index.
    pub line_fed : (end : ℕ) {o : Stream} → end < length rest → eqb (get_or rest end 0) line_feed ≡ true
        → ((k : ℕ) → k < end → eqb (get_or rest k 0) line_feed ≡ true → ⊥)
        → o ≡ end_line (begun s (take p.held line ++ take end rest)) → fed o (drop (end + 1) rest) ≡ fed s rest
    line_fed end {o} h at free u =
        let e : get_or rest end 0 ≡ line_feed = omega tests in
        let long = length-take-le end rest (omega arith) in
        let free_front : NoFeed (take end rest) = λ k l t. free k (omega (arith, long)) (rw (get_or-take end rest k 0 (omega (arith, long))) at t) in
        let line_first : take end rest ++ (line_feed ∷ drop (suc end) rest) ≡ rest =
        rw (← e, ← drop-cons rest end 0 h) (take-append-drop end rest) in
        let f = fed_line s low fits (take end rest) (drop (suc end) rest) free_front in
        rw (add-one, u) (sym (rw line_first at f))
