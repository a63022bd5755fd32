-- Demand 3: the theorems that specs/Agreement.antt states.
use Prim.Native.Nat.{ℕ, ◌≤◌}
use mathlib.Core.Path.{◌≡◌, refl, sym, ap, ◌∙◌}
use mathlib.Core.List.Memᴰ
use mathlib.Core.List.{List, [], ◌∷◌, Memᴰ}
use native.Mathlib.Omega.{arith}
use lib.Dec.{eqb-suc-zero}
use Rattle.protocol.specs.declared.Call.{Call}
use Rattle.protocol.specs.declared.Call.TheVariants.{Open, Block, Prepare, Store, View, Accumulate, Decide, Reboot}
use Rattle.protocol.specs.declared.Call.TheVariants.{Reserve, Request, Reply, Recover}
use Rattle.protocol.specs.Memory.{Memory, Replica}
use Rattle.protocol.specs.Calls.{opening, block, decide}
use Rattle.protocol.specs.Runs.{Invocation, rule_of, step, run}
use Rattle.protocol.specs.Theorems.{Accepted}
use Rattle.protocol.specs.History.{Event, reopened, other, accepted_event, event_of, history, given_parent, highest, panel}
use Rattle.protocol.specs.Agreement.{PanelsRise, OpensNone, Execution, opened_by, events_of, end_of, Agreement, WordsMatchHistory}
use Rattle.protocol.specs.Agreement.{Extends, OnlyAppended}
use Rattle.protocol.specs.Agreement.{WouldAgree}
use Rattle.protocol.proofs.calls.Needs.{Holds, outcome_cases, no_refusal, accepted_after, accepted_first}
use Rattle.protocol.proofs.calls.Rules.{needs_hold}
use Rattle.protocol.proofs.memory.Opened.{opened}
use Rattle.protocol.proofs.agreement.Safety.{Chosen, Safe}
use Rattle.protocol.proofs.agreement.Acts.{GoesOn}
use Rattle.protocol.proofs.agreement.SafeCalls.{store_safe, view_safe, accumulate_safe, reboot_safe, reserve_safe, request_safe}
use Rattle.protocol.proofs.agreement.SafeCalls.{reply_safe, recover_safe, chosen}
use Rattle.protocol.proofs.agreement.SafePrepare.{prepare_safe}
use Rattle.protocol.proofs.agreement.SafeEnds.{opened_safe}
use Rattle.protocol.proofs.agreement.Reached.{Reached, Follows, one-chain, chosen_known, quiet, added_block, decides}

-- ---- one call

-- The event of a call that is accepted, with its values.
abbrev event_if_accepted : Memory → Call → List ℕ → Event
event_if_accepted m call list =
    let rule = rule_of m call list in
    accepted_event call (record { number = 0; first = rule.first; second = rule.second })

-- A refused call, or an accepted one.
step-cases : (P : Event → Memory → Type 0) (m : Memory) (call : Call) (list : List ℕ) → P other m
    → (Holds (rule_of m call list).needs → P (event_if_accepted m call list) (rule_of m call list).after)
    → P (event_of call (step m call list).answer) (step m call list).state
unfolding step event_of
step-cases P m call list refused accepted =
    outcome_cases m (rule_of m call list) (λ o. P (event_of call o.answer) o.state) (λ n e. rw (eqb-suc-zero n) refused)
    (λ e. accepted (needs_hold m call list e))

-- Nothing moves.
idle : (m : Memory) → Safe m → GoesOn m m
idle m safe =
    record {
      safe = safe;
      moves =
          record {
            faults = refl;
            extends = record { certificates = omega arith; certificate = λ c l. refl; blocks = omega arith; parent = λ b l. refl };
            min_views = λ i. omega arith;
            limits = λ i. omega arith;
            flags = λ i a b e. e;
            commits = λ c a b k. absurd (omega arith);
          };
      quiet = record { blocks = refl; parents = λ b. refl; decided_view = λ j. refl; decided_block = λ j. refl };
    }

accepted_step : (f : ℕ) (past : List Event) (m : Memory) → Reached f past m → (call : Call) (list : List ℕ)
    → Holds (rule_of m call list).needs → (event_if_accepted m call list ≡ reopened → ⊥)
    → Follows f (event_if_accepted m call list ∷ past) m (rule_of m call list).after
unfolding rule_of block
accepted_step f past m h (Open g) list hold again = absurd (again refl)
accepted_step f past m h (Block p) list hold again = added_block f past m h p hold
accepted_step f past m h (Prepare i b j) list hold again = quiet f past m h (prepare_safe m i b j list hold h.safe)
accepted_step f past m h (Store i number) list hold again = quiet f past m h (store_safe m i number hold h.safe)
accepted_step f past m h (View i w) list hold again = quiet f past m h (view_safe m i w hold h.safe)
accepted_step f past m h (Accumulate i) list hold again = quiet f past m h (accumulate_safe m i list hold h.safe)
accepted_step f past m h (Decide i) list hold again = decides f past m h i list hold
accepted_step f past m h (Reboot i) list hold again = quiet f past m h (reboot_safe m i hold h.safe)
accepted_step f past m h (Reserve i) list hold again = quiet f past m h (reserve_safe m i hold h.safe)
accepted_step f past m h (Request i) list hold again = quiet f past m h (request_safe m i hold h.safe)
accepted_step f past m h (Reply i number) list hold again = quiet f past m h (reply_safe m i number hold h.safe)
accepted_step f past m h (Recover i) list hold again = quiet f past m h (recover_safe m i list hold h.safe)

next : (f : ℕ) (past : List Event) (m : Memory) → Reached f past m → (call : Call) (list : List ℕ)
    → (event_of call (step m call list).answer ≡ reopened → ⊥)
    → Follows f (event_of call (step m call list).answer ∷ past) m (step m call list).state
next f past m h call list =
    step-cases (λ e x. (e ≡ reopened → ⊥) → Follows f (e ∷ past) m x) m call list
    (λ again. quiet f past m h (idle m h.safe))
    (λ hold. accepted_step f past m h call list hold)

-- ---- a list of calls

extends_on : {m m' m'' : Memory} → Extends m m' → Extends m' m'' → Extends m m''
extends_on a b =
    let certificates = a.certificates in
    let more = b.certificates in
    let blocks = a.blocks in
    let further = b.blocks in
    record {
      certificates = omega arith;
      certificate = λ c l. b.certificate c (omega arith) ∙ a.certificate c l;
      blocks = omega arith;
      parent = λ x l. b.parent x (omega arith) ∙ a.parent x l;
    }

pub kept : {e : Event} {past : List Event} (m : Memory) (calls : List Invocation) → Memᴰ e past
    → Memᴰ e (history past m calls)
unfolding history
kept m [] w = w
kept {e = e} {past = past} m (q ∷ qs) w =
    let o = step m q.call q.list in
    kept {e = e} {past = event_of q.call o.answer ∷ past} o.state qs (Memᴰ.tail w)

-- The history may begin anywhere: only that no opening is in it is asked.
pub runs : (f : ℕ) (past since : List Event) (m : Memory) (calls : List Invocation) → Reached f past m
    → (Memᴰ reopened (history since m calls) → ⊥) → Follows f (history past m calls) m (run m calls)
unfolding history run
runs f past since m [] h once = record { reached = h; extends = (idle m h.safe).moves.extends }
runs f past since m (q ∷ qs) h once =
    let o = step m q.call q.list in
    let e = event_of q.call o.answer in
    let now = next f past m h q.call q.list (λ again. once (kept o.state qs (Memᴰ.head (sym again)))) in
    let then = runs f (e ∷ past) (e ∷ since) o.state qs now.reached once in
    record { reached = then.reached; extends = extends_on now.extends then.extends }

-- What an accepted opening leaves is a start.
start : (m : Memory) (f : ℕ) (list : List ℕ) → Accepted (step m (Open f) list) → Reached f [] (step m (Open f) list).state
unfolding step rule_of opening given_parent highest
start m f list accepted =
    let h = needs_hold m (Open f) list (no_refusal m (rule_of m (Open f) list) accepted) in
    let o = opened m f list h.1.0 h.1.1.0 in
    rw (accepted_after m (rule_of m (Open f) list) accepted)
    (record {
      safe = opened_safe m f list _ h.0 h.1.0 h.1.1.0 o;
      faults = o.header.faults;
      told =
          record {
            parents = λ b l. let one = o.header.blocks in let q : b ≡ 0 = omega arith in rw q o.root;
            views = λ i l. ap (λ (r : Replica). r.decided_view) (o.rows i l);
            blocks = λ i l. ap (λ (r : Replica). r.decided_block) (o.rows i l);
          };
      strangers = λ i l. refl;
      decisions = λ i b v w. absurd (Memᴰ.not-nil w);
      panels = tt;
    })

-- All that an execution reaches.
pub reached_by : (x : Execution) → Reached x.f (events_of x) (end_of x)
reached_by x = (runs x.f [] [] (opened_by x) x.calls (start x.start x.f x.list x.opened) x.once).reached

-- And all that more calls reach.
pub reached_on : (x : Execution) (more : List Invocation) → OpensNone (end_of x) more
    → Follows x.f (history (events_of x) (end_of x) more) (end_of x) (run (end_of x) more)
reached_on x more once = runs x.f (events_of x) [] (end_of x) more (reached_by x) once

-- A panel after more calls is no lower.
rises : (past : List Event) (m : Memory) (calls : List Invocation) → PanelsRise (history past m calls)
    → ((i : ℕ) → panel past i ≤ panel (history past m calls) i) × PanelsRise past
unfolding history
rises past m [] up = (λ i. omega arith, up)
rises past m (q ∷ qs) up =
    let o = step m q.call q.list in
    let now = rises (event_of q.call o.answer ∷ past) o.state qs up in
    (λ i. let first = now.1.0 i in let then = now.0 i in omega arith, now.1.1)

pub panel_stays_up : (x : Execution) (more : List Invocation) → OpensNone (end_of x) more → (i : ℕ)
    → panel (events_of x) i ≤ panel (history (events_of x) (end_of x) more) i
panel_stays_up x more once i = (rises (events_of x) (end_of x) more (reached_on x more once).reached.panels).0 i

-- ---- the theorems

pub agreement : Agreement
unfolding Agreement
agreement x =
    let h = reached_by x in
    let events = events_of x in
    record {
      one_chain =
          λ i b v j c w hb hc.
          let first = h.decisions i b v hb in
          let second = h.decisions j c w hc in
          one-chain x.f events _ h (chosen_known x.f events _ h first) (chosen_known x.f events _ h second) first second;
      panels_rise = h.panels;
    }

pub words-match-history : WordsMatchHistory
unfolding WordsMatchHistory
words-match-history x = (reached_by x).told

pub only-appended : OnlyAppended
unfolding OnlyAppended
only-appended x more once = (reached_on x more once).extends

-- What an accepted Decide returns is chosen.
would_choose : (m : Memory) → Safe m → (i : ℕ) (l : List ℕ) → Accepted (step m (Decide i) l)
    → Chosen m (decide m i l).second (step m (Decide i) l).answer.first
unfolding step rule_of
would_choose m safe i l accepted =
    let e = no_refusal m (decide m i l) accepted in
    rw (accepted_first m (decide m i l) accepted) (chosen m i l (needs_hold m (Decide i) l e) safe)

pub would-agree : WouldAgree
unfolding WouldAgree
would-agree x i j l₁ l₂ a b =
    let h = reached_by x in
    let events = events_of x in
    let first = would_choose _ h.safe i l₁ a in
    let second = would_choose _ h.safe j l₂ b in
    one-chain x.f events _ h (chosen_known x.f events _ h first) (chosen_known x.f events _ h second) first second
