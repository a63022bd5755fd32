-- A line that is answered.
use Prim.Native.Nat.{ℕ, suc, ◌+◌, ◌≤◌}
use mathlib.Core.Path.{◌≡◌, refl, sym, ap, subst, ◌∙◌}
use mathlib.Core.Bool.{true}
use mathlib.Core.List.{List, [], ◌∷◌, ◌++◌}
use native.Mathlib.Omega.{arith}
use lib.Dec.{ltb}
use lib.ListN.{length, take}
use lib.Seq.{length-take-le}
use Rattle.std.specs.Prelude.{Result}
use Rattle.protocol.specs.declared.Values.{Values}
use Rattle.protocol.specs.declared.Refusal.{Refusal}
use Rattle.protocol.specs.Outcome.{told}
use Rattle.protocol.proofs.logic.Booleans.{tests, by-test}
use Rattle.script.specs.Session.{Session, session, Answered, leaves, answer_line}
use Rattle.script.specs.Text.{line_feed, answer_text, answer_bytes, Printable}
use Rattle.script.specs.Theorems.{AnswersPrintable}
use Rattle.script.proofs.Theorems.{answers-printable}
use Rattle.stream.specs.declared.Progress.{Progress}
use Rattle.stream.specs.Output.{max_lines}
use Rattle.stream.specs.Stream.{Stream, stream_of, end_line, byte_in, fed, finished}
use Rattle.stream.specs.inner.Progress.{with_held, begun}
use Rattle.stream.proofs.Fed.{line_ended}

-- Where a stream stands after one more answer.
abbrev pub after : Progress → ℕ → Progress
after p f = record { fault_bound = f; lines = p.lines + 1; held = 0; pending = p.pending + answer_bytes }

pub fits : (s : Session) (line : List ℕ) (a : Result Values Refusal) {f : ℕ} {t l b : List ℕ} → leaves a f t l b ≡ answer_line s line
    → Printable (told a)
unfolding AnswersPrintable
fits s line a e = subst (λ (o : Answered). Printable o.answer) (sym e) (answers-printable s line)

module _ (p : Progress) (t l b places text line : List ℕ) where
  pub line_answered : (a : Result Values Refusal) {f : ℕ} {t' l' b' : List ℕ} (text' : List ℕ)
      → leaves a f t' l' b' ≡ answer_line (session p.fault_bound t l b) line
      → take (p.pending + answer_bytes) text' ≡ take p.pending text ++ answer_text (p.lines + 1) (told a)
      → stream_of (after p f) t' l' b' places text' ≡ end_line (with_held (stream_of p t l b places text) line)
  unfolding end_line
  line_answered a text' e x =
      let one : p.lines + 1 ≡ suc p.lines = omega arith in
      rw (x, one)
      (ap (λ (o : Answered).
      record {
        session = o.session;
        lines = suc p.lines;
        held = [];
        text = take p.pending text ++ answer_text (suc p.lines) o.answer;
      })
      e)

-- A line that ends with bytes of a chunk: all of it lies there, or its beginning is held.
module _ (s : Stream) (line bytes : List ℕ) (held : ℕ) {o : Stream} where
  pub from_chunk : held ≡ 0 → o ≡ end_line (with_held s bytes) → o ≡ end_line (begun s (take held line ++ bytes))
  from_chunk e u = u ∙ sym (line_ended s bytes) ∙ rw e refl

-- The end of the input.
module _ (p : Progress) (t l b line text : List ℕ) where
  abbrev s : Stream
  s = stream_of p t l b line text

  pub nothing_held : p.held ≡ 0 → s ≡ finished s
  unfolding finished
  nothing_held e = by-test (ltb p.lines max_lines) (λ t. rw (t, e) refl) (λ t. rw t refl)

  -- The line feed that the last line may lack.
  pub feed_lacking : {o : Stream} → p.held ≤ length line → (p.held ≡ 0 → ⊥) → o ≡ fed s (line_feed ∷ []) → o ≡ finished s
  unfolding finished fed byte_in
  feed_lacking fits some e =
      let long = length-take-le p.held line fits in
      let u : ltb 0 (length (take p.held line)) ≡ true = omega (tests, long) in
      by-test (ltb p.lines max_lines) (λ t. rw (t, u) (rw t at e)) (λ t. rw t (rw t at e))
