-- The lines of the output show the answers: no field has a line feed in it, and what was written reads back.
use Prim.Native.Nat.{ℕ, zero, suc, ◌+◌, ◌-◌, ◌/◌, ◌≤◌}
use mathlib.Core.Path.{◌≡◌, ◌∙◌}
use mathlib.Core.Bool.{false}
use mathlib.Core.List.{List, [], ◌∷◌, ◌++◌, append_assoc, append-nil}
use native.Mathlib.Omega.{arith}
use lib.Dec.{eqb}
use lib.ListN.{length, replicate}
use Rattle.protocol.specs.Outcome.{Answer}
use Rattle.protocol.proofs.logic.Booleans.{tests}
use Rattle.field.specs.Digits.{digit_count, digits}
use Rattle.field.specs.Field.{columns, blank, max_number, field_of}
use Rattle.script.specs.Session.{Session, answer_line}
use Rattle.script.specs.Text.{line_feed, answer_text, Printable}
use Rattle.script.specs.Theorems.{AnswersPrintable}
use Rattle.script.proofs.Theorems.{answers-printable}
use Rattle.script.proofs.Written.{field_here, field_after}
use Rattle.stream.specs.Output.{lines_from, lines_of, answers_to, max_lines}
use Rattle.stream.specs.Agreement.{answer_read}
use Rattle.stream.proofs.Theorems.{lines_next}

-- ---- no line feed in a field

-- Bytes of which none is a line feed.
pub data NoFeed : List ℕ → Type 0 where
  end : NoFeed []
  then : {byte : ℕ} {bytes : List ℕ} → eqb byte line_feed ≡ false → NoFeed bytes → NoFeed (byte ∷ bytes)

pub both : {xs ys : List ℕ} → NoFeed xs → NoFeed ys → NoFeed (xs ++ ys)
both end k = k
both (then e h) k = then e (both h k)

no_feed_blanks : (k : ℕ) → NoFeed (replicate k blank)
no_feed_blanks zero = end
no_feed_blanks (suc k) = then {byte = blank} (omega tests) (no_feed_blanks k)

no_feed_digits : (k n : ℕ) → NoFeed (digits k n)
unfolding digits
no_feed_digits zero n = end
no_feed_digits (suc k) n = both (no_feed_digits k (n / 10)) (then (omega tests) end)

pub no_feed : (n : ℕ) → NoFeed (field_of n)
unfolding field_of
no_feed n = both (no_feed_blanks (columns - digit_count n)) (no_feed_digits (digit_count n) n)

-- The line that has begun ends at the first line feed.
pub line_ends : (line rest : List ℕ) {bytes : List ℕ} → NoFeed bytes
    → lines_from line (bytes ++ (line_feed ∷ rest)) ≡ (line ++ bytes) ∷ lines_from [] rest
line_ends line rest end = rw (lines_next, append-nil)
line_ends line rest (then {byte} e h) = rw (lines_next, e) (rw append_assoc at (line_ends (line ++ (byte ∷ [])) rest h))

-- ---- a line of the output

-- The four fields, without the line feed.
abbrev fields : ℕ → Answer → List ℕ
fields line a = field_of line ++ (field_of a.number ++ (field_of a.first ++ (field_of a.second ++ [])))

answer-line : (line : ℕ) (a : Answer) (rest : List ℕ) → lines_of (answer_text line a ++ rest) ≡ fields line a ∷ lines_of rest
unfolding answer_text
answer-line line a rest =
    let e : answer_text line a ++ rest ≡ fields line a ++ (line_feed ∷ rest) = simp append_assoc in
    let none = both (no_feed line) (both (no_feed a.number) (both (no_feed a.first) (both (no_feed a.second) end))) in
    rw e (line_ends [] rest none)

shows : (line : ℕ) (a : Answer) → line ≤ max_number → Printable a → answer_read (fields line a) ≡ a
shows line a small p =
    let after_first = field_after a.first p.first _ 0 ∙ field_here a.second p.second [] in
    let after-number = field_after a.number p.number _ in
    let after_line = field_after line small _ in
    let x = after_line 0 ∙ field_here a.number p.number _ in
    let y = after_line 1 ∙ after-number 0 ∙ field_here a.first p.first _ in
    let z = after_line 2 ∙ after-number 1 ∙ after_first in
    λ i. record { number = x i; first = y i; second = z i }

-- ---- all lines

-- Each text shows the answer to its line.
abbrev pub Shows : Session → List (List ℕ) → List (List ℕ) → Type 0
Shows s [] [] = Unit {0}
Shows s [] (text ∷ texts) = ⊥
Shows s (line ∷ lines) [] = ⊥
Shows s (line ∷ lines) (text ∷ texts) = (answer_read text ≡ (answer_line s line).answer) × Shows (answer_line s line).session lines texts

pub output_shows : (s : Session) (count : ℕ) (lines : List (List ℕ)) → count + length lines ≤ max_lines
    → Shows s lines (lines_of (answers_to s count lines))
unfolding answers_to lines_from AnswersPrintable
output_shows s count [] h = tt
output_shows s count (line ∷ lines) h =
    let o = answer_line s line in
    rw (answer-line (suc count) o.answer (answers_to o.session (suc count) lines))
    (shows (suc count) o.answer (omega arith) (answers-printable s line), output_shows o.session (suc count) lines (omega arith))
