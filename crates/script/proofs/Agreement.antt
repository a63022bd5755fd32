-- Demand 3 of a script: the theorems that specs/Agreement.antt states.
use Prim.Native.Nat.{ℕ, zero, suc}
use mathlib.Core.Path.{◌≡◌, refl, sym, ap, ◌∙◌}
use mathlib.Core.Bool.{Bool, true, false}
use mathlib.Core.List.{List, [], ◌∷◌, Memᴰ}
use lib.Dec.{eqb}
use lib.ListN.{length, get_or}
use lib.Seq.{take-append_seam}
use borrow.Author.Tests.{ne_eqb}
use Rattle.protocol.specs.declared.Call.{Call}
use Rattle.protocol.specs.declared.Call.TheVariants.{Open}
use Rattle.protocol.specs.Memory.{Memory, table_length}
use Rattle.protocol.specs.Form.{all_hold, lengths_fit}
use Rattle.protocol.specs.Outcome.{Answer, Outcome, unreadable, first_refusal, answered, follow}
use Rattle.protocol.specs.Calls.{opening}
use Rattle.protocol.specs.Runs.{Invocation, rule_of, step, run}
use Rattle.protocol.specs.Theorems.{Accepted, RefusedChangesNothing, LengthsStay}
use Rattle.protocol.specs.History.{Event, reopened, other, accepted_event, event_of, history}
use Rattle.protocol.specs.Agreement.{Agreement}
use Rattle.protocol.proofs.logic.Booleans.{tests, by-test, by_cond, each}
use Rattle.protocol.proofs.calls.Needs.{no_refusal}
use Rattle.protocol.proofs.calls.Rules.{needs_hold, refused-changes-nothing}
use Rattle.protocol.proofs.calls.Frame.{lengths-stay}
use Rattle.protocol.proofs.agreement.Agreement.{agreement}
use Rattle.std.specs.Prelude.{Ok, Err}
use Rattle.codes.specs.Codes.{Coded, is_short, no_call, when, code_table, coded_call}
use Rattle.ledger.specs.Coding.{open_code}
use Rattle.script.specs.Session.{Session, lent_length, lent, code_in, replica_in, number_in, list_in, Answered, unchanged}
use Rattle.script.specs.Session.{answer_line}
use Rattle.script.specs.Agreement.{numbers_in, event_table, accepted_line, line_event, line_history, session_after}
use Rattle.script.specs.Agreement.{OpenedOnce, ScriptsAgree, ledger_of, ScriptIsExecution}
use Rattle.script.specs.WayOn.{session_of}
use Rattle.script.proofs.Lending.{lends}
use Rattle.script.proofs.Ways.{line_leaves, put_back, lent_for, made, by_line}

-- ---- what a line tells is what its call tells

-- The call, if there is one, tells this event where it is accepted with this answer.
abbrev Tells : Answer → Event → Coded → Type 0
Tells a e (Ok call) = accepted_event call a ≡ e
Tells a e (Err refusal) = Unit {0}

-- The same of a table of calls and a table of events; past the last event nothing is told.
abbrev AllTell : Answer → List Event → List Coded → Type 0
AllTell a events [] = Unit {0}
AllTell a [] (coded ∷ rest) = Tells a other coded × AllTell a [] rest
AllTell a (e ∷ events) (coded ∷ rest) = Tells a e coded × AllTell a events rest

tells : (a : Answer) {e : Event} (t : Bool) (call : Call) → accepted_event call a ≡ e → Tells a e (when t call)
unfolding when
tells a true call told = told
tells a false call told = tt

tells_at : (a : Answer) (events : List Event) (table : List Coded) (code : ℕ) → AllTell a events table
    → Tells a (get_or events code other) (get_or table code no_call)
tells_at a events [] code h = tt
tells_at a [] (coded ∷ rest) zero h = h.0
tells_at a [] (coded ∷ rest) (suc code) h = tells_at a [] rest code h.1
tells_at a (e ∷ events) (coded ∷ rest) zero h = h.0
tells_at a (e ∷ events) (coded ∷ rest) (suc code) h = tells_at a events rest code h.1

line_tells : (a : Answer) (s : Session) (given : List ℕ) {call : Call} → made s given ≡ Ok call
    → accepted_event call a ≡ accepted_line given a
unfolding event_table code_table
line_tells a s given e =
    let m = lent (lent_for s given) s.memory in
    let i = replica_in given in
    let n = number_in given in
    rw e at (tells_at a (event_table i n a) (code_table m i n (list_in given)) (code_in given) (search tells))

-- The call of an opening.
opening_made : (m : Memory) (code replica number : ℕ) (list : List ℕ) {call : Call} → code ≡ open_code
    → coded_call m code replica number list ≡ Ok call → call ≡ Open replica
unfolding code_table when
opening_made m code replica number list z e = go (is_short number list) (rw z at e)
  where
    go : (t : Bool) {call : Call} → when t (Open replica) ≡ Ok call → call ≡ Open replica
    go true e = cc
    go false e = cc

-- ---- one line

-- The table is long enough for f.
abbrev pub Full : ℕ → Memory → Type 0
Full f m = length (lent f m).table ≡ lent_length f

-- What a call leaves of what is lent for f is the ledger, where f is then in use.
pub record Carried (o : Outcome) (s : Session) : Type 0 where
  pub memory : o.state ≡ ledger_of s
  pub full : Full s.fault_bound s.memory

-- What is lent next is what the call left.
taken_back : (s : Session) (f : ℕ) (o : Outcome) → length o.state.table ≡ lent_length f
    → lent f (line_leaves s f o).session.memory ≡ o.state
taken_back s f o long = rw (← long, take-append_seam)

pub carried : (s : Session) (f : ℕ) (call : Call) (list : List ℕ) → Full f s.memory
    → let o = step (lent f s.memory) call list in (line_leaves s f o).session.fault_bound ≡ f → Carried o (line_leaves s f o).session
unfolding LengthsStay
carried s f call list full in_use =
    let o = step (lent f s.memory) call list in
    let long = (lengths-stay (lent f s.memory) call list).table ∙ full in
    let same = taken_back s f o long in
    rw in_use (record { memory = sym same; full = ap (λ (m : Memory). length m.table) same ∙ long })

-- A call on the ledger that tells what the line tells, and leaves what it leaves.
record Made (s : Session) (line : List ℕ) (x : Answered) : Type 0 where
  invocation : Invocation
  event : event_of invocation.call (step (ledger_of s) invocation.call invocation.list).answer ≡ line_event line x.answer
  carried : Carried (step (ledger_of s) invocation.call invocation.list) x.session

module _ (s : Session) (full : Full s.fault_bound s.memory) (line : List ℕ) where
  -- A line that is not accepted does no more than an opening for f = 0, which is refused.
  nothing_told : (n : ℕ) → (n ≡ 0 → ⊥) → Made s line (unchanged n s)
  unfolding step rule_of opening follow first_refusal answered event_of line_event all_hold
  nothing_told n h =
      record {
        invocation = record { call = Open 0; list = [] };
        event = rw (ne_eqb n 0 h) refl;
        carried = record { memory = refl; full = full };
      }

  -- A call on the ledger of the f in use.
  call_told : (f : ℕ) (call : Call) (list : List ℕ) → f ≡ s.fault_bound
      → ((a : Answer) → accepted_event call a ≡ accepted_line (numbers_in line) a)
      → Made s line (line_leaves s f (step (lent f s.memory) call list))
  unfolding event_of line_event
  call_told f call list same told =
      let a = (step (ledger_of s) call list).answer in
      let in_use = by_cond (λ (x : ℕ). x ≡ s.fault_bound) (eqb a.number 0) (λ e. refl) (λ e. refl) in
      rw same
      (record {
        invocation = record { call = call; list = list };
        event = rw (told a);
        carried = carried s s.fault_bound call list full in_use;
      })

  -- An opening that is not accepted.
  opening_refused : (f : ℕ) (call : Call) (list : List ℕ) → let o = step (lent f s.memory) call list in (Accepted o → ⊥)
      → Made s line (line_leaves s f o)
  unfolding RefusedChangesNothing
  opening_refused f call list h =
      let r = refused-changes-nothing (lent f s.memory) call list h in
      rw (put_back s f _ r.state r.first r.second h) (nothing_told _ h)

  reopens : (a : Answer) → code_in (numbers_in line) ≡ open_code → a.number ≡ 0 → line_event line a ≡ reopened
  unfolding line_event event_table
  reopens a code z = rw (z, code) refl

  line_made : (line_event line (answer_line s line).answer ≡ reopened → ⊥) → Made s line (answer_line s line)
  line_made =
      by_line (λ (x : Answered). (line_event line x.answer ≡ reopened → ⊥) → Made s line x) s line
      (λ again. nothing_told unreadable (λ z. omega tests))
      (λ call e again.
      by-test (eqb (code_in (numbers_in line)) open_code)
      (λ t. opening_refused _ call _ (λ z. again (reopens _ (omega tests) z)))
      (λ t. call_told _ call _ (rw t refl) (λ a. line_tells a s (numbers_in line) e)))

-- ---- lines one after the other

kept : {e : Event} {past : List Event} (s : Session) (lines : List (List ℕ)) → Memᴰ e past
    → Memᴰ e (line_history past s lines)
unfolding line_history
kept s [] w = w
kept {e = e} {past = past} s (line ∷ lines) w =
    let x = answer_line s line in kept {e = e} {past = line_event line x.answer ∷ past} x.session lines (Memᴰ.tail w)

-- Calls on the ledger that tell what the lines tell, and leave what they leave.
record Runs (past : List Event) (s : Session) (lines : List (List ℕ)) : Type 0 where
  calls : List Invocation
  events : history past (ledger_of s) calls ≡ line_history past s lines
  memory : run (ledger_of s) calls ≡ ledger_of (session_after s lines)
  full : Full (session_after s lines).fault_bound (session_after s lines).memory

runs : (past : List Event) (s : Session) (lines : List (List ℕ)) → Full s.fault_bound s.memory
    → (Memᴰ reopened (line_history past s lines) → ⊥) → Runs past s lines
unfolding history run line_history session_after
runs past s [] full once = record { calls = []; events = refl; memory = refl; full = full }
runs past s (line ∷ lines) full once =
    let x = answer_line s line in
    let e = line_event line x.answer in
    let now = line_made s full line (λ again. once (kept x.session lines (Memᴰ.head (sym again)))) in
    let then = runs (e ∷ past) x.session lines now.carried.full once in
    record {
      calls = now.invocation ∷ then.calls;
      events = rw (now.event, now.carried.memory) then.events;
      memory = rw now.carried.memory then.memory;
      full = then.full;
    }

-- ---- the opening

-- An accepted opening leaves a ledger of its f.
record Starts (s : Session) (f : ℕ) (list : List ℕ) (x : Answered) : Type 0 where
  opened : Accepted (step (lent f s.memory) (Open f) list)
  carried : Carried (step (lent f s.memory) (Open f) list) x.session

starts : (s : Session) (f g : ℕ) (call : Call) (list : List ℕ) → g ≡ f → call ≡ Open f
    → let o = step (lent g s.memory) call list in Accepted o → Starts s f list (line_leaves s g o)
unfolding step rule_of opening lengths_fit
starts s f g call list same is_open accepted =
    let m = lent f s.memory in
    let a = rw (same, is_open) at accepted in
    let h = needs_hold m (Open f) list (no_refusal m (rule_of m (Open f) list) a) in
    let fit = each _ h.1.1.0 in
    let long : length m.table ≡ table_length f = omega tests in
    rw (same, is_open) (record { opened = a; carried = carried s f (Open f) list (lends f h.0 long).0 (rw a refl) })

line_starts : (s : Session) (line : List ℕ) → code_in (numbers_in line) ≡ open_code → (answer_line s line).answer.number ≡ 0
    → Starts s (replica_in (numbers_in line)) (list_in (numbers_in line)) (answer_line s line)
line_starts s line code =
    let given = numbers_in line in
    by_line (λ (x : Answered). x.answer.number ≡ 0 → Starts s (replica_in given) (list_in given) x) s line
    (λ z. absurd (omega tests))
    (λ call e z. starts s (replica_in given) _ call _ (rw code refl) (opening_made _ _ _ (number_in given) (list_in given) code e) z)

-- ---- the theorems

-- The lines after an opening, as calls.
all_lines : (s : Session) (opening : List ℕ) (lines : List (List ℕ)) → OpenedOnce s opening lines
    → Runs [] (answer_line s opening).session lines
all_lines s opening lines h =
    runs [] (answer_line s opening).session lines (line_starts s opening h.opens h.accepted).carried.full h.once

pub stays_full : (s : Session) (opening : List ℕ) (lines : List (List ℕ)) → OpenedOnce s opening lines
    → let now = session_of s opening lines in Full now.fault_bound now.memory
stays_full s opening lines h = (all_lines s opening lines h).full

pub script-is-execution : ScriptIsExecution
unfolding ScriptIsExecution
script-is-execution s opening lines h =
    let start = line_starts s opening h.opens h.accepted in
    let all = all_lines s opening lines h in
    let events = rw (← start.carried.memory) at all.events in
    let f = replica_in (numbers_in opening) in
    record {
      execution =
          record {
            start = lent f s.memory;
            f = f;
            list = list_in (numbers_in opening);
            calls = all.calls;
            opened = start.opened;
            once = rw events h.once;
          };
      f = refl;
      list = refl;
      start = refl;
      events = events;
      memory = rw (← start.carried.memory) at all.memory;
    }

pub scripts-agree : ScriptsAgree
unfolding ScriptsAgree ScriptIsExecution Agreement
scripts-agree s opening lines h =
    let l = script-is-execution s opening lines h in rw l.events at (agreement l.execution)
