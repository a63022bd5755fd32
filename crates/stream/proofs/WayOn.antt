-- The way on of the program: the theorem that specs/WayOn.antt states.
use Prim.Native.Nat.{ℕ, suc, ◌+◌, ◌≤◌}
use mathlib.Core.Path.{◌≡◌, refl, sym, ap, ◌∙◌}
use mathlib.Core.Bool.{true}
use mathlib.Core.List.{List, [], ◌∷◌, ◌++◌, map, append_assoc}
use native.Mathlib.Omega.{arith}
use lib.Dec.{eqb}
use lib.ListN.{length, take, drop, length-map, length-append, length-drop}
use lib.Seq.{take_all}
use Rattle.protocol.specs.Outcome.{Answer}
use Rattle.protocol.specs.Memory.{fault_bound}
use Rattle.protocol.specs.Runs.{Invocation}
use Rattle.protocol.specs.WayOn.{decision_calls, can_decide, way_on, numbered_answers}
use Rattle.protocol.proofs.logic.Booleans.{by-test}
use Rattle.ledger.specs.Coding.{coded}
use Rattle.script.specs.Session.{Session, answer_line}
use Rattle.script.specs.Text.{line_feed, line_of, text_of, answer_text}
use Rattle.script.specs.Agreement.{session_after, OpenedOnce, ledger_of}
use Rattle.script.specs.WayOn.{numbers_of, line_of_call, answers_to_lines, session_of, LinesGoOn}
use Rattle.script.proofs.WayOn.{numbered_after, lines-go-on}
use Rattle.stream.specs.Output.{lines_from, lines_of, answers_to, max_lines, new_session, output}
use Rattle.stream.specs.Agreement.{lines_read}
use Rattle.stream.specs.WayOn.{ledger_after, text_of_calls, answer_texts, ProgramGoesOn}
use Rattle.stream.proofs.Theorems.{lines_next}
use Rattle.stream.proofs.Shown.{NoFeed, end, both, no_feed, line_ends}
use Rattle.stream.proofs.Agreement.{opened_within}

-- ---- the lines of a longer input

-- Bytes after a line feed are lines of their own.
lines_apart : (front rest line : List ℕ)
    → lines_from line (front ++ (line_feed ∷ rest)) ≡ lines_from line (front ++ (line_feed ∷ [])) ++ lines_of rest
unfolding lines_from
lines_apart [] rest line = simp lines_next
lines_apart (byte ∷ front) rest line =
    by-test (eqb byte line_feed) (λ e. simp (lines_next, e) (ap (λ (l : List (List ℕ)). line ∷ l) (lines_apart front rest [])))
    (λ e. simp (lines_next, e) (lines_apart front rest (line ++ (byte ∷ []))))

no_feed_line : (numbers : List ℕ) → NoFeed (line_of numbers)
unfolding line_of
no_feed_line [] = end
no_feed_line (number ∷ numbers) = both (no_feed number) (no_feed_line numbers)

lines_of_calls : (calls : List Invocation) → lines_of (text_of_calls calls) ≡ map line_of_call calls
unfolding text_of lines_from
lines_of_calls [] = refl
lines_of_calls (q ∷ qs) =
    line_ends [] (text_of_calls qs) (no_feed_line (numbers_of (coded q)))
    ∙ ap (λ (l : List (List ℕ)). line_of_call q ∷ l) (lines_of_calls qs)

all_lines : (bytes front : List ℕ) → bytes ≡ front ++ (line_feed ∷ []) → (calls : List Invocation)
    → lines_of (bytes ++ text_of_calls calls) ≡ lines_of bytes ++ map line_of_call calls
all_lines bytes front e calls = rw (e, append_assoc, lines_apart front (text_of_calls calls) [], lines_of_calls calls)

-- ---- the answers to them

answers_apart : (s : Session) (count : ℕ) (lines more : List (List ℕ))
    → answers_to s count (lines ++ more) ≡ answers_to s count lines ++ answers_to (session_after s lines) (count + length lines) more
unfolding answers_to session_after
answers_apart s count [] more = let e : count + 0 ≡ count = omega arith in rw e
answers_apart s count (line ∷ lines) more =
    let e : count + suc (length lines) ≡ suc count + length lines = omega arith in
    let o = answer_line s line in
    rw (answers_apart o.session (suc count) lines more, e) (sym (append_assoc (answer_text (suc count) o.answer) _ _))

texts_of_answers : (s : Session) (count : ℕ) (lines : List (List ℕ)) → answers_to s count lines ≡ answer_texts count (answers_to_lines s lines)
unfolding answers_to answers_to_lines answer_texts
texts_of_answers s count [] = refl
texts_of_answers s count (line ∷ lines) = rw (texts_of_answers (answer_line s line).session (suc count) lines)

answers-on : (lines more : List (List ℕ)) {answers : List Answer} → answers_to_lines (session_after new_session lines) more ≡ answers
    → answers_to new_session 0 (lines ++ more) ≡ answers_to new_session 0 lines ++ answer_texts (length lines) answers
answers-on lines more e =
    let z : 0 + length lines ≡ length lines = omega arith in
    answers_apart new_session 0 lines more ∙ rw (z, texts_of_answers (session_after new_session lines) (length lines) more, e)

-- ---- the theorem

-- What an opening and the lines after it leave goes on.
record GoesOn (now : Session) (replicas : List ℕ) (w : ℕ) : Type 0 where
  count : length (way_on (ledger_of now) replicas w) ≡ decision_calls (fault_bound (ledger_of now))
  answered : answers_to_lines now (map line_of_call (way_on (ledger_of now) replicas w)) ≡ numbered_answers (ledger_of now) w

goes_on : (s now : Session) (opening : List ℕ) (lines : List (List ℕ)) → OpenedOnce s opening lines → now ≡ session_of s opening lines
    → (replicas : List ℕ) (w : ℕ) → can_decide (ledger_of now) replicas w ≡ true → GoesOn now replicas w
unfolding LinesGoOn
goes_on s now opening lines h same replicas w can =
    let can = rw same at can in
    rw same
    (record {
      count = (numbered_after s opening lines h replicas w can).1.ends.count;
      answered = lines-go-on s opening lines h replicas w can;
    })

-- All lines are read, and the n lines after index i are all that come after it.
read_all : (lines : List (List ℕ)) (more : ℕ) → length lines + more ≤ max_lines → take max_lines lines ≡ lines
read_all lines more h = take_all max_lines lines (omega arith)

rest_all : (i n : ℕ) (lines : List (List ℕ)) → suc i + n ≡ length lines → take n (drop (suc i) lines) ≡ drop (suc i) lines
rest_all i n lines e = take_all n (drop (suc i) lines) (omega (arith, length-drop (suc i) lines))

joined_fit : (lines : List (List ℕ)) (calls : List Invocation) {k : ℕ} → length calls ≡ k → length lines + k ≤ max_lines
    → length (lines ++ map line_of_call calls) + 0 ≤ max_lines
joined_fit lines calls e h = omega (arith, length-append lines (map line_of_call calls), length-map calls line_of_call)

pub program-goes-on : ProgramGoesOn
unfolding ProgramGoesOn output
program-goes-on bytes front e i n h all replicas w can room =
    let lines = lines_of bytes in
    let read : lines_read bytes ≡ lines = read_all lines _ room in
    let x = opened_within bytes i n h in
    let whole = rest_all i n (lines_read bytes) (all ∙ ap length (sym read)) in
    let on = goes_on x.before _ x.opening _ (rw whole at x.opened) x.session replicas w can in
    let way = way_on (ledger_after bytes) replicas w in
    let more = map line_of_call way in
    let read-on : lines_read (bytes ++ text_of_calls way) ≡ lines_read bytes ++ more =
    ap (take max_lines) (all_lines bytes front e way) ∙ read_all (lines ++ more) 0 (joined_fit lines way on.count room)
    ∙ ap (λ (l : List (List ℕ)). l ++ more) (sym read) in
    ap (answers_to new_session 0) read-on ∙ answers-on (lines_read bytes) more on.answered
    ∙ ap (λ (k : ℕ). output bytes ++ answer_texts k (numbered_answers (ledger_after bytes) w)) (ap length read)
