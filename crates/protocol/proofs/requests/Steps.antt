-- A pool's own steps: the theorems that specs/Steps.antt states.
use Prim.Native.Nat.{ℕ, zero, suc, min, ◌+◌, ◌-◌, ◌/◌, ◌%◌, ◌<◌}
use mathlib.Core.Path.{◌≡◌, refl, sym, ap, ◌∙◌}
use mathlib.Core.Bool.{true}
use mathlib.Core.Logic.{◌≢◌, ⊎_elim}
use mathlib.Core.List.Memᴰ
use mathlib.Core.List.{List, [], ◌∷◌, Memᴰ}
use native.Mathlib.Omega.{arith}
use lib.ListN.{get_or}
use lib.Seq.{ext_get_or}
use lib.Dec.{ltb, eqb}
use Rattle.protocol.specs.declared.Call.{Call}
use Rattle.protocol.specs.declared.Call.TheVariants.{Open, Block, Prepare, Store, View, Accumulate, Decide, Reboot}
use Rattle.protocol.specs.declared.Call.TheVariants.{Reserve, Request, Reply, Recover}
use Rattle.protocol.specs.Memory.{Memory, Replica, Assignment, replica_count, step_count, last_step, step_at, kept_step, row_at}
use Rattle.protocol.specs.Memory.{replica_words}
use Rattle.protocol.specs.Memory.{replica_word, status_at, recovering, retired, replica, ◌becomes◌, update}
use Rattle.protocol.specs.Form.{lengths_fit}
use Rattle.protocol.specs.Counter.{steps_from, steps_allowed, counter_step}
use Rattle.protocol.specs.Outcome.{Answer, first_refusal, answered, follow}
use Rattle.protocol.specs.Calls.{opening, reboot, reserve}
use Rattle.protocol.specs.Runs.{Invocation, rule_of, step, run}
use Rattle.protocol.specs.Theorems.{Accepted, Address, table_word, log_word, block_word, word_at, named}
use Rattle.protocol.specs.Theorems.{OnlyNamedChange, RefusedChangesNothing, SameLengths}
use Rattle.protocol.specs.History.{Event, reopened, accepted_event, event_of, history}
use Rattle.protocol.specs.Agreement.{Execution, opened_by, end_of}
use Rattle.protocol.specs.Steps.{OpeningReadsNothing, WithoutStepsIsDefault, step_of, FirstLimitIsFirstStep, CountersMoveBySteps}
use Rattle.protocol.proofs.logic.Booleans.{tests, by-test, by_cond, each}
use Rattle.protocol.proofs.calls.Needs.{accepted_after, accepted_first}
use Rattle.protocol.proofs.calls.Rules.{accepted_needs, refused-changes-nothing}
use Rattle.protocol.proofs.memory.Formed.{formed, sizes}
use Rattle.protocol.proofs.memory.Changes.{update_own}
use Rattle.protocol.proofs.memory.Keeps.{lengths_same}
use Rattle.protocol.proofs.memory.Opened.{Opened, opened}
use Rattle.protocol.proofs.calls.LeavesForm.{reboot_retires}
use Rattle.protocol.proofs.calls.Frame.{only-named-change}
use Rattle.protocol.proofs.agreement.Agreement.{kept}

-- ---- opening reads no word

-- Equal replicas have equal words.
same_word : (m m' : Memory) (i k : ℕ) → replica m i ≡ replica m' i → k < replica_words → replica_word m i k ≡ replica_word m' i k
same_word m m' i zero e l = ap (λ (r : Replica). r.status) e
same_word m m' i (suc zero) e l = ap (λ (r : Replica). r.boot) e
same_word m m' i (suc (suc zero)) e l = ap (λ (r : Replica). r.min_view) e
same_word m m' i (suc (suc (suc zero))) e l = ap (λ (r : Replica). r.view_limit) e
same_word m m' i (suc (suc (suc (suc zero)))) e l = ap (λ (r : Replica). r.flag) e
same_word m m' i (suc (suc (suc (suc (suc zero))))) e l = ap (λ (r : Replica). r.stored_view) e
same_word m m' i (suc (suc (suc (suc (suc (suc zero)))))) e l = ap (λ (r : Replica). r.stored_block) e
same_word m m' i (suc (suc (suc (suc (suc (suc (suc zero))))))) e l = ap (λ (r : Replica). r.decided_view) e
same_word m m' i (suc (suc (suc (suc (suc (suc (suc (suc zero)))))))) e l = ap (λ (r : Replica). r.decided_block) e
same_word m m' i (suc (suc (suc (suc (suc (suc (suc (suc (suc k))))))))) e l = absurd (omega arith)

-- Two tables as openings of one f and one list leave them: header, steps and rows are the same.
tables_same : {m m' o o' : Memory} {f : ℕ} {steps : List ℕ} → lengths_fit m f ≡ true → SameLengths m m' → Opened m f steps o
    → Opened m' f steps o' → o.table ≡ o'.table
unfolding lengths_fit
tables_same {m} {m'} {o} {o'} {f} fit same a b =
    let h = each _ fit in
    let s = a.lengths in
    ext_get_or 0 o.table o'.table (s.table ∙ same.table ∙ sym b.lengths.table) (λ k l. word k (omega tests))
  where
    step_word : (k : ℕ) → k < step_count → get_or o.table (step_at k) 0 ≡ get_or o'.table (step_at k) 0
    step_word k l = a.steps k l ∙ sym (b.steps k l)

    row_word : (i k : ℕ) → i < replica_count f → k < replica_words → get_or o.table (row_at i + k) 0 ≡ get_or o'.table (row_at i + k) 0
    row_word i k own l = same_word o o' i k (a.rows i own ∙ sym (b.rows i own)) l

    word : (k : ℕ) → k < row_at (replica_count f) → get_or o.table k 0 ≡ get_or o'.table k 0
    word zero l = a.header.faults ∙ sym b.header.faults
    word (suc zero) l = a.header.certificates ∙ sym b.header.certificates
    word (suc (suc zero)) l = a.header.blocks ∙ sym b.header.blocks
    word (suc (suc (suc k))) l =
        by-test (ltb k step_count) (λ e. let at : suc (suc (suc k)) ≡ step_at k = omega arith in rw at (step_word k (omega tests)))
        (λ e.
        let i = (k - step_count) / replica_words in
        let j = (k - step_count) % replica_words in
        let at : suc (suc (suc k)) ≡ row_at i + j = omega tests in
        rw at (row_word i j (omega tests) (omega arith)))

module _ (m m' : Memory) (f : ℕ) (list : List ℕ) (same : SameLengths m m') where
  answer_same : (step m (Open f) list).answer ≡ (step m' (Open f) list).answer
  unfolding step rule_of opening follow answered
  answer_same =
      let refusal : first_refusal (opening m f list).needs ≡ first_refusal (opening m' f list).needs =
      rw (lengths_same m m' f same) refl in
      ap (λ (n : ℕ). (answered n m (opening m f list)).answer) refusal ∙ go (first_refusal (opening m' f list).needs)
    where
      go : (n : ℕ) → (answered n m (opening m f list)).answer ≡ (answered n m' (opening m' f list)).answer
      go zero = refl
      go (suc n) = refl

  table_same : Accepted (step m (Open f) list) → (step m (Open f) list).state.table ≡ (step m' (Open f) list).state.table
  unfolding step rule_of opening
  table_same accepted =
      let h = accepted_needs m (Open f) list accepted in
      let also = sym (ap (λ (a : Answer). a.number) answer_same) ∙ accepted in
      rw (accepted_after m (opening m f list) accepted, accepted_after m' (opening m' f list) also)
      (tables_same h.1.1.0 same (opened m f list h.1.0 h.1.1.0)
      (opened m' f list h.1.0 (sym (lengths_same m m' f same) ∙ h.1.1.0)))

pub opening-reads-nothing : OpeningReadsNothing
unfolding OpeningReadsNothing
opening-reads-nothing m m' f list same = record { answer = answer_same m m' f list same; table = table_same m m' f list same }

-- ---- the steps stay

-- Addresses of which none is this step's.
abbrev Outside : ℕ → List Address → Type 0
Outside k [] = Unit {0}
Outside k (table_word j ∷ rest) = (step_at k ≢ j) × Outside k rest
Outside k (log_word j ∷ rest) = Outside k rest
Outside k (block_word j ∷ rest) = Outside k rest

not_among : (k : ℕ) (xs : List Address) → Outside k xs → Memᴰ (table_word (step_at k)) xs → ⊥
not_among k [] h w = Memᴰ.not-nil w
not_among k (table_word j ∷ xs) h w =
    ⊎_elim (λ e. let same : step_at k ≡ j = cc in h.0 same) (λ rest. not_among k xs h.1 rest) (Memᴰ.cases_cons w)
not_among k (log_word j ∷ xs) h w =
    ⊎_elim (λ e. let clash : ◌≡◌ {A = ℕ} 0 1 = cc in absurd (omega arith)) (λ rest. not_among k xs h rest) (Memᴰ.cases_cons w)
not_among k (block_word j ∷ xs) h w =
    ⊎_elim (λ e. let clash : ◌≡◌ {A = ℕ} 0 1 = cc in absurd (omega arith)) (λ rest. not_among k xs h rest) (Memᴰ.cases_cons w)

module _ (k : ℕ) (l : k < step_count) where
  -- No call but an opening names a step.
  outside_named : (m : Memory) (call : Call) (a : Answer) → (accepted_event call a ≡ reopened → ⊥) → Outside k (named m call)
  unfolding named
  outside_named m (Open f) a other = absurd (other refl)
  outside_named m (Block p) a other = omega arith
  outside_named m (Prepare i b justification) a other = omega arith
  outside_named m (Store i number) a other = omega arith
  outside_named m (View i w) a other = omega arith
  outside_named m (Accumulate i) a other = omega arith
  outside_named m (Decide i) a other = omega arith
  outside_named m (Reboot i) a other = omega arith
  outside_named m (Reserve i) a other = omega arith
  outside_named m (Request i) a other = omega arith
  outside_named m (Reply i number) a other = omega arith
  outside_named m (Recover i) a other = omega arith

  -- A call that is no accepted opening leaves the step.
  stays : (m : Memory) (call : Call) (list : List ℕ) → (event_of call (step m call list).answer ≡ reopened → ⊥)
      → kept_step (step m call list).state k ≡ kept_step m k
  unfolding OnlyNamedChange RefusedChangesNothing word_at event_of
  stays m call list other =
      let a = (step m call list).answer in
      by-test (eqb a.number 0)
      (λ e.
      only-named-change m call list (table_word (step_at k)) (not_among k (named m call) (outside_named m call a (rw e at other))))
      (λ e. ap (λ (x : Memory). kept_step x k) (refused-changes-nothing m call list (λ accepted. omega tests)).state)

  run_stays : (since : List Event) (m : Memory) (calls : List Invocation) → (Memᴰ reopened (history since m calls) → ⊥)
      → kept_step (run m calls) k ≡ kept_step m k
  unfolding history run
  run_stays since m [] once = refl
  run_stays since m (q ∷ qs) once =
      let o = step m q.call q.list in
      let e = event_of q.call o.answer in
      run_stays (e ∷ since) o.state qs once
      ∙ stays m q.call q.list (λ again. once (kept o.state qs (Memᴰ.head (sym again))))

-- ---- the theorems

pub without-steps-is-default : WithoutStepsIsDefault
unfolding WithoutStepsIsDefault step rule_of opening steps_from steps_allowed
without-steps-is-default m f = refl

pub first-limit-is-first-step : FirstLimitIsFirstStep
unfolding FirstLimitIsFirstStep step rule_of opening
first-limit-is-first-step m f list accepted i own =
    let h = accepted_needs m (Open f) list accepted in
    rw (accepted_after m (opening m f list) accepted)
    (ap (λ (r : Replica). r.view_limit) ((opened m f list h.1.0 h.1.1.0).rows i own))

-- The steps that the memory keeps are those of the opening, whatever calls came since.
kept_since : (x : Execution) (boot : ℕ) → counter_step (end_of x) boot ≡ step_of x.list boot
unfolding counter_step step rule_of opening
kept_since x boot =
    let m = x.start in
    let k = min boot last_step in
    let h = accepted_needs m (Open x.f) x.list x.opened in
    run_stays k (omega arith) [] (opened_by x) x.calls x.once
    ∙ rw (accepted_after m (rule_of m (Open x.f) x.list) x.opened)
    ((opened m x.f x.list h.1.0 h.1.1.0).steps k (omega arith))

-- What a Reserve and a Reboot leave, by the steps that the memory keeps; and what a Reserve answers.
module _ (m : Memory) (i : ℕ) (beside : List ℕ) (accepted : Accepted (step m (Reserve i) beside)) where
  reserved : (replica (step m (Reserve i) beside).state i).view_limit ≡ (replica m i).view_limit + counter_step m (replica m i).boot
  unfolding step rule_of reserve
  reserved =
      let h = accepted_needs m (Reserve i) beside accepted in
      let z = sizes m (formed m h.0) in
      rw (accepted_after m (reserve m i) accepted) (ap (λ (r : Replica). r.view_limit) (update_own m i _ refl (omega tests)))

  told : (step m (Reserve i) beside).answer.first ≡ (replica (step m (Reserve i) beside).state i).view_limit
  unfolding step rule_of reserve
  told = accepted_first m (reserve m i) accepted ∙ sym reserved

rebooted : (m : Memory) (i : ℕ) (beside : List ℕ) → Accepted (step m (Reboot i) beside)
    → (replica (step m (Reboot i) beside).state i).status ≡ recovering
    → (replica (step m (Reboot i) beside).state i).view_limit ≡ (replica m i).view_limit + counter_step m ((replica m i).boot + 1)
unfolding step rule_of reboot
rebooted m i beside accepted =
    let h = accepted_needs m (Reboot i) beside accepted in
    let z = sizes m (formed m h.0) in
    rw (accepted_after m (reboot m i) accepted)
    (by_cond
    (λ (cs : List Assignment). (replica (update m i cs) i).status ≡ recovering
    → (replica (update m i cs) i).view_limit ≡ (replica m i).view_limit + counter_step m ((replica m i).boot + 1))
    (reboot_retires m i)
    (λ e status.
    let own = ap (λ (r : Replica). r.status) (update_own m i (status_at becomes retired ∷ []) refl (omega tests)) in
    absurd (omega arith))
    (λ e status. ap (λ (r : Replica). r.view_limit) (update_own m i _ refl (omega tests))))

pub counters-move-by-steps : CountersMoveBySteps
unfolding CountersMoveBySteps
counters-move-by-steps execution i beside =
    let o = end_of execution in
    let same = kept_since execution in
    record {
      reserve = λ accepted. reserved o i beside accepted ∙ ap (λ (x : ℕ). (replica o i).view_limit + x) (same (replica o i).boot);
      answer = λ accepted. told o i beside accepted;
      reboot =
          λ accepted status.
          rebooted o i beside accepted status ∙ ap (λ (x : ℕ). (replica o i).view_limit + x) (same ((replica o i).boot + 1));
    }
