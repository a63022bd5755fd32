-- Demand 3 of the program: the theorem that specs/Agreement.antt states; and what an opening and the lines after it are.
use Prim.Native.Nat.{ℕ, zero, suc, ◌+◌, ◌≤◌}
use mathlib.Core.Path.{◌≡◌, refl, sym, ap, ◌∙◌}
use mathlib.Core.List.{List, [], ◌∷◌, Memᴰ}
use native.Mathlib.Omega.{arith}
use lib.ListN.{length, take, drop, get_or, length-take}
use Rattle.protocol.specs.Outcome.{Answer}
use Rattle.protocol.specs.History.{Event, reopened}
use Rattle.field.specs.Field.{read_field}
use Rattle.ledger.specs.Coding.{open_code}
use Rattle.script.specs.Session.{Session, code_in, answer_line}
use Rattle.script.specs.Agreement.{numbers_in, line_event, line_history, session_after, told_after, OpenedOnce, ScriptsAgree}
use Rattle.script.specs.WayOn.{session_of}
use Rattle.script.proofs.Agreement.{scripts-agree}
use Rattle.stream.specs.Output.{lines_of, max_lines, new_session, output}
use Rattle.stream.specs.Agreement.{lines_read, answer_read, told_history, told_within, OpenedAt, ProgramAgrees}
use Rattle.stream.proofs.Shown.{Shows, output_shows}

-- What is shown is what was answered.
shown_told : (n : ℕ) (past : List Event) (s : Session) (lines texts : List (List ℕ)) → Shows s lines texts
    → told_history past (take n lines) (take n texts) ≡ line_history past s (take n lines)
unfolding told_history line_history
shown_told zero past s lines texts h = refl
shown_told (suc n) past s [] [] h = refl
shown_told (suc n) past s [] (text ∷ texts) h = absurd h
shown_told (suc n) past s (line ∷ lines) [] h = absurd h
shown_told (suc n) past s (line ∷ lines) (text ∷ texts) h =
    rw h.0 (shown_told n (line_event line (answer_line s line).answer ∷ past) (answer_line s line).session lines texts h.1)

-- The opening at index i, on the session before it, and the n lines after it.
pub record Opened (s : Session) (i n : ℕ) (lines : List (List ℕ)) (told : List Event) : Type 0 where
  pub before : Session
  pub opening : List ℕ
  pub opened : OpenedOnce before opening (take n (drop (suc i) lines))
  pub same : told ≡ told_after before opening (take n (drop (suc i) lines))
  pub session : session_after s lines ≡ session_of before opening (drop (suc i) lines)

opened_shown : (i n : ℕ) (s : Session) (lines texts : List (List ℕ)) → Shows s lines texts
    → code_in (numbers_in (get_or lines i [])) ≡ open_code → (answer_read (get_or texts i [])).number ≡ 0
    → let told = told_history [] (take n (drop (suc i) lines)) (take n (drop (suc i) texts)) in
    (Memᴰ reopened told → ⊥) → Opened s i n lines told
unfolding session_after read_field
opened_shown i n s [] [] h opens accepted once = absurd (omega arith)
opened_shown i n s [] (text ∷ texts) h opens accepted once = absurd h
opened_shown i n s (line ∷ lines) [] h opens accepted once = absurd h
opened_shown zero n s (line ∷ lines) (text ∷ texts) h opens accepted once =
    let e = shown_told n [] (answer_line s line).session lines texts h.1 in
    record {
      before = s;
      opening = line;
      opened =
          record { opens = opens; accepted = sym (ap (λ (a : Answer). a.number) h.0) ∙ accepted; once = rw e at once };
      same = e;
      session = refl;
    }
opened_shown (suc i) n s (line ∷ lines) (text ∷ texts) h opens accepted once =
    let later = opened_shown i n (answer_line s line).session lines texts h.1 opens accepted once in
    record {
      before = later.before;
      opening = later.opening;
      opened = later.opened;
      same = later.same;
      session = later.session;
    }

few : (k : ℕ) (lines : List (List ℕ)) → 0 + length (take k lines) ≤ k
few k lines = let short = length-take k lines in omega arith

pub opened_within : (bytes : List ℕ) (i n : ℕ) → OpenedAt bytes i n → Opened new_session i n (lines_read bytes) (told_within bytes i n)
unfolding output
opened_within bytes i n h =
    let shows = output_shows new_session 0 (lines_read bytes) (few max_lines (lines_of bytes)) in
    opened_shown i n new_session (lines_read bytes) (lines_of (output bytes)) shows h.opens h.accepted h.once

pub program-agrees : ProgramAgrees
unfolding ProgramAgrees ScriptsAgree
program-agrees bytes i n h =
    let o = opened_within bytes i n h in rw o.same (scripts-agree o.before o.opening _ o.opened)
