-- A ledger whose slices its own calls alone change: it is ready for every call on entries, and answers what its history tells.
use Prim.Native.Nat.{ℕ, ◌<◌}
use mathlib.Core.Path.{◌≡◌, refl, sym, ap, ◌∙◌}
use mathlib.Core.Bool.{true}
use mathlib.Core.List.{List, [], ◌∷◌, ◌++◌, append-nil, append_assoc, Memᴰ}
use native.Mathlib.Omega.{arith}
use lib.Dec.{eqb, eqb-suc-zero}
use Rattle.protocol.specs.declared.Call.{Call}
use Rattle.protocol.specs.Memory.{Memory, replica_count, fault_bound}
use Rattle.protocol.specs.Form.{well_formed}
use Rattle.protocol.specs.Outcome.{Answer, first_refusal}
use Rattle.protocol.specs.Calls.{opening}
use Rattle.protocol.specs.Runs.{step}
use Rattle.protocol.specs.Theorems.{Accepted, RefusedChangesNothing, AcceptedLeavesForm, LengthsStay}
use Rattle.protocol.proofs.logic.Booleans.{tests, by-test}
use Rattle.protocol.proofs.memory.Formed.{sizes}
use Rattle.protocol.proofs.memory.Formed as Memory
use Rattle.protocol.proofs.memory.Opened as Opening
use Rattle.protocol.proofs.calls.Needs.{all_needs, none_refuses, outcome_cases, outcome_state, no_refusal, accepted_after, accepted_first}
use Rattle.protocol.proofs.calls.Rules.{refused-changes-nothing}
use Rattle.protocol.proofs.calls.LeavesForm.{accepted-leaves-form}
use Rattle.protocol.proofs.calls.Frame.{lengths-stay}
use Rattle.entries.specs.declared.Entry.{Entry}
use Rattle.entries.specs.Waiting.{Lent, lent, WaitingCall, Open, Enter, Withdraw, Match, Ask, open_rule, enter_rule, withdraw_rule}
use Rattle.entries.specs.Waiting.{match_rule, ask_rule, waiting_rule, waiting_step}
use Rattle.entries.specs.Arrivals.{Event, opened, entered, withdrawn, matched, accepted_events, events_of, still_waiting, replicas_by}
use Rattle.entries.specs.Arrivals.{LedgerCall, plain, on_entries, ledger_step, ledger_events, ledger_after, ledger_history, LedgerRun}
use Rattle.entries.specs.Arrivals.{opened_ledger, ledger_end, ledger_told}
use Rattle.entries.specs.Theorems.{FormLeft, AcceptedWaitingLeavesForm, AnswersBy, LedgerAnswersPass}
use Rattle.entries.proofs.Lists.{member_waits}
use Rattle.entries.proofs.Slices.{form}
use Rattle.entries.proofs.Needs.{Ready, ready}
use Rattle.entries.proofs.Rules.{form_left, accepted-waiting-leaves-form}
use Rattle.entries.proofs.Histories.{Told, told_step, asked, by_history, opening_told}

-- ---- a call on the three slices leaves their form and the fault bound, which the table's length tells

pub record Stays (m m' : Memory) : Type 0 where
  pub formed : well_formed m' ≡ true
  pub faults : fault_bound m' ≡ fault_bound m

form_stays : (m : Memory) (call : Call) (list : List ℕ) → well_formed m ≡ true → well_formed (step m call list).state ≡ true
unfolding AcceptedLeavesForm RefusedChangesNothing
form_stays m call list whole =
    by-test (eqb (step m call list).answer.number 0) (λ accepted. accepted-leaves-form m call list (omega tests))
    (λ refused. rw (refused-changes-nothing m call list (λ accepted. omega tests)).state whole)

plain_stays : (m : Memory) (call : Call) (list : List ℕ) → well_formed m ≡ true → Stays m (step m call list).state
unfolding LengthsStay
plain_stays m call list whole =
    let left = (step m call list).state in
    let formed = form_stays m call list whole in
    let before = sizes m (Memory.formed m whole) in
    let after = sizes left (Memory.formed left formed) in
    let same = lengths-stay m call list in
    record { formed = formed; faults = omega arith }

-- ---- what holds after each call

pub record Stands (events : List Event) (s : Lent) : Type 0 where
  pub told : Told events s.waiting
  pub ready : Ready s
  pub replicas : replicas_by events 0 ≡ replica_count (fault_bound s.memory)

replicas_append : (events more : List Event) (n : ℕ) → replicas_by (events ++ more) n ≡ replicas_by more (replicas_by events n)
unfolding replicas_by
replicas_append [] more n = refl
replicas_append (opened k ∷ later) more n = replicas_append later more k
replicas_append (entered e ∷ later) more n = replicas_append later more n
replicas_append (withdrawn gone ∷ later) more n = replicas_append later more n
replicas_append (matched gone place ∷ later) more n = replicas_append later more n

left_ready : (s : Lent) → FormLeft s → Ready s
left_ready s h = ready s h.memory h.waiting

opened_replicas : (s : Lent) (f : ℕ) (steps : List ℕ) → first_refusal (open_rule s f steps).needs ≡ 0
    → (open_rule s f steps).first ≡ replica_count (fault_bound (open_rule s f steps).after.memory)
unfolding open_rule opening
opened_replicas s f steps pass =
    let h = all_needs (open_rule s f steps).needs refl pass in
    ap replica_count (sym (Opening.opened s.memory f steps h.1.0 h.1.1.0).header.faults)

module _ (past : List Event) (s : Lent) (h : Stands past s) where
  plain_stands : (call : Call) (list : List ℕ) → Stays s.memory (step s.memory call list).state
      → Stands (past ++ []) (lent (step s.memory call list).state s.waiting)
  plain_stands call list stays =
      let r = h.ready in
      let same = stays.faults in
      rw (append-nil past)
      (record {
        told = h.told;
        ready = record { memory = stays.formed; waiting = rw same r.waiting; replicas = rw same r.replicas };
        replicas = rw same h.replicas;
      })

  replicas_accepted : (call : WaitingCall) → first_refusal (waiting_rule s call).needs ≡ 0
      → let a : Answer = record { number = 0; first = (waiting_rule s call).first; second = (waiting_rule s call).second } in
      replicas_by (past ++ accepted_events call a) 0
      ≡ replica_count (fault_bound (waiting_rule s call).after.memory)
  unfolding waiting_rule enter_rule withdraw_rule match_rule ask_rule replicas_by
  replicas_accepted (Open f steps) pass = replicas_append past _ 0 ∙ opened_replicas s f steps pass
  replicas_accepted (Enter e) pass = replicas_append past _ 0 ∙ h.replicas
  replicas_accepted (Withdraw identity) pass = replicas_append past _ 0 ∙ h.replicas
  replicas_accepted (Match movements i identity place) pass = replicas_append past _ 0 ∙ h.replicas
  replicas_accepted (Ask taker) pass = replicas_append past _ 0 ∙ h.replicas

  waiting_stands : (call : WaitingCall) → Stands (past ++ events_of call (waiting_step s call).answer) (waiting_step s call).state
  unfolding waiting_step events_of
  waiting_stands call =
      record {
        told = told_step past s.memory s.waiting h.told call;
        ready = outcome_state s (waiting_rule s call) Ready h.ready (λ pass. left_ready _ (form_left s call pass));
        replicas =
            outcome_cases s (waiting_rule s call)
            (λ o. replicas_by (past ++ events_of call o.answer) 0 ≡ replica_count (fault_bound o.state.memory))
            (λ n e. rw (eqb-suc-zero n, append-nil past) h.replicas)
            (λ pass. replicas_accepted call pass);
      }

  stands_step : (q : LedgerCall) → Stands (past ++ ledger_events q (ledger_step s q).answer) (ledger_step s q).state
  unfolding ledger_step
  stands_step (plain q) = plain_stands q.call q.list (plain_stays s.memory q.call q.list h.ready.memory)
  stands_step (on_entries call) = waiting_stands call

stands_after : (qs : List LedgerCall) (past : List Event) (s : Lent) → Stands past s
    → Stands (past ++ ledger_history s qs) (ledger_after s qs)
unfolding ledger_history ledger_after
stands_after [] past s h = rw (append-nil past) h
stands_after (q ∷ qs) past s h =
    let o = ledger_step s q in
    rw (← append_assoc past (ledger_events q o.answer) (ledger_history o.state qs))
    (stands_after qs (past ++ ledger_events q o.answer) o.state (stands_step past s h q))

-- ---- from an accepted opening on

opening_stands : (s : Lent) (f : ℕ) (steps : List ℕ) → Accepted (waiting_step s (Open f steps))
    → Stands (events_of (Open f steps) (waiting_step s (Open f steps)).answer) (waiting_step s (Open f steps)).state
unfolding waiting_step waiting_rule events_of replicas_by AcceptedWaitingLeavesForm
opening_stands s f steps accepted =
    let rule = open_rule s f steps in
    record {
      told = opening_told s f steps accepted;
      ready = left_ready _ (accepted-waiting-leaves-form s (Open f steps) accepted);
      replicas =
          rw (accepted_after s rule accepted, accepted)
          (accepted_first s rule accepted ∙ opened_replicas s f steps (no_refusal s rule accepted));
    }

ledger_stands : (x : LedgerRun) → Stands (ledger_told x) (ledger_end x)
ledger_stands x =
    stands_after x.calls _ (opened_ledger x) (opening_stands x.start x.f x.steps x.accepted)

module _ (events : List Event) (s : Lent) (h : Stands events s) where
  stands_by_history : AnswersBy events s
  stands_by_history =
      let r = h.ready in
      by_history events s.memory s.waiting h.told (record { memory = r.memory; waiting = form _ s.waiting r.waiting })

  ask_accepted : (taker : ℕ) → taker < replicas_by events 0 → Accepted (waiting_step s (Ask taker))
  ask_accepted taker own = let n = h.replicas in stands_by_history.asks taker ∙ none_refuses _ (omega tests, tt)

  withdraw_accepted : (e : Entry) → Memᴰ e (still_waiting events) → Accepted (waiting_step s (Withdraw e.identity))
  withdraw_accepted e waits =
      stands_by_history.withdraws e.identity ∙ none_refuses _ (member_waits e (still_waiting events) waits, tt)

pub ledger-answers-pass : LedgerAnswersPass
unfolding LedgerAnswersPass
ledger-answers-pass x =
    let s = ledger_end x in
    let h = ledger_stands x in
    record {
      asks = λ taker own. asked (ledger_told x) s.memory s.waiting h.told taker (ask_accepted (ledger_told x) s h taker own);
      withdraws = withdraw_accepted (ledger_told x) s h;
      calls = stands_by_history (ledger_told x) s h;
    }
