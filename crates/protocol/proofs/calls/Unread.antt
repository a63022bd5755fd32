-- Words past the counts are not read.
use Prim.Native.Nat.{ℕ, zero, suc, ◌+◌}
use mathlib.Core.Path.{◌≡◌, refl, ap, subst}
use mathlib.Core.Bool.{Bool, true, cond}
use mathlib.Core.List.{List, [], ◌∷◌}
use native.Mathlib.Omega.{arith}
use lib.Seq.{length-sets}
use lib.Dec.{ltb}
use Rattle.protocol.specs.declared.Call.{Call}
use Rattle.protocol.specs.declared.Call.TheVariants.{Open, Block, Prepare, Store, View, Accumulate, Decide, Reboot}
use Rattle.protocol.specs.declared.Call.TheVariants.{Reserve, Request, Reply, Recover}
use Rattle.protocol.specs.Memory.{Memory, memory, Certificate, Assignment, replica_count, certificate_count_at, block_count_at, replica}
use Rattle.protocol.specs.Memory.{certificate, words, block_at, kept_height, block_record, update}
use Rattle.protocol.specs.declared.Justification.{Justification}
use Rattle.protocol.specs.declared.Justification.TheVariants.{Acc, Commits}
use Rattle.protocol.specs.Counter.{steps_from, counter_step}
use Rattle.protocol.specs.Form.{well_formed, lengths_fit}
use Rattle.protocol.specs.Certificates.{found, appended, file}
use Rattle.protocol.specs.Quorum.{certificates_of, first_of}
use Rattle.protocol.specs.Outcome.{Need, ◌else◌, Rule, first_refusal, answered, follow}
use Rattle.protocol.specs.FirstNeeds.{is_block}
use Rattle.protocol.specs.Calls.{issuing, is_sized, numbers_of, fresh_replica, fresh_replicas, fresh_header, keep_steps, opening}
use Rattle.protocol.specs.Calls.{block, prepare, store, view, accumulate, decide, reboot, reserve, request, reply}
use Rattle.protocol.specs.Calls.{recover}
use Rattle.protocol.specs.Runs.{rule_of, step}
use Rattle.protocol.specs.Theorems.{Alike, SameAnswer, PastCountsUnread}
use Rattle.protocol.proofs.calls.LeavesForm.{reboot_retires}
use Rattle.protocol.proofs.logic.Booleans.{by-test, by_cond}
use Rattle.protocol.proofs.calls.Needs.{Holds}
use Rattle.protocol.proofs.calls.Rules.{needs_hold}
use Rattle.protocol.proofs.memory.Words.{within_row, sets_alike}
use Rattle.protocol.proofs.memory.Formed.{Formed, formed}
use Rattle.protocol.proofs.memory.Keeps.{lengths_same, issuing_needs}
use Rattle.protocol.proofs.memory.Opened.{header, keep_header}
use Rattle.protocol.proofs.memory.Alike.{twin, lengths_alike, word_same, parent_same, kept_same, named_same, form_same, number_same}
use Rattle.protocol.proofs.memory.Alike.{filed_same, can_same, file_alike, block_alike, update_alike}

-- Two lists of needs that agree as far as the first one that fails.
data Agree : List Need → List Need → Type 0 where
  agree_end : Agree [] []
  agree_next : {t t' : Bool} {k : ℕ} {ns ns' : List Need} → t ≡ t' → (t ≡ true → Agree ns ns')
      → Agree ((t else k) ∷ ns) ((t' else k) ∷ ns')

-- As a function, its lists are those of the goal.
next : {t t' : Bool} {k : ℕ} {ns ns' : List Need} → t ≡ t' → (t ≡ true → Agree ns ns')
    → Agree ((t else k) ∷ ns) ((t' else k) ∷ ns')
next p q = agree_next p q

agree_self : (ns : List Need) → Agree ns ns
agree_self [] = agree_end
agree_self ((t else k) ∷ ns) = agree_next refl (λ e. agree_self ns)

agree_refusal : {ns ns' : List Need} → Agree ns ns' → first_refusal ns ≡ first_refusal ns'
unfolding first_refusal
agree_refusal agree_end = refl
agree_refusal (agree_next {t} {t'} {k} {ns} {ns'} p q) =
    by-test t (λ e. rw (← p, e) (agree_refusal (q e))) (λ e. rw (← p, e) refl)

-- Two rules that agree in their needs and, where these hold, in what they give.
record Results (r r' : Rule) : Type 0 where
  first : r.first ≡ r'.first
  second : r.second ≡ r'.second
  after : Alike r.after r'.after

record SameRule (r r' : Rule) : Type 0 where
  needs : Agree r.needs r'.needs
  results : Holds r.needs → Results r r'

follow_same : (m m' : Memory) (r r' : Rule) → Alike m m' → (first_refusal r.needs ≡ 0 → Holds r.needs) → SameRule r r'
    → SameAnswer (follow m r) (follow m' r')
unfolding follow answered
follow_same m m' r r' a hold s =
    rw (← agree_refusal s.needs) (go (first_refusal r.needs) refl)
  where
    go : (n : ℕ) → first_refusal r.needs ≡ n → SameAnswer (answered n m r) (answered n m' r')
    go zero e =
        let x = s.results (hold e) in
        record { answer = λ d. record { number = 0; first = x.first d; second = x.second d }; after = x.after }
    go (suc n) e = record { answer = refl; after = a }

-- ---- the calls

record Within (cs : List Assignment) : Type 0 where
  row : within_row cs ≡ true

within_cond : (t : Bool) {cs cs' : List Assignment} → Within cs → Within cs' → Within (cond t cs cs')
within_cond t x y = by_cond Within t (λ e. x) (λ e. y)

module _ (m : Memory) (l b : List ℕ) (a : Alike m (twin m l b)) where
  issued_same : (ns ns' : List Need) (i : ℕ) (cs : List Assignment) (c : Certificate) → Within cs → well_formed m ≡ true
      → Results (issuing m ns i cs c) (issuing (twin m l b) ns' i cs c)
  unfolding issuing
  issued_same ns ns' i cs c within form =
      record {
        first = number_same m l b a (words c);
        second = ap (λ (t : Bool). cond t found appended) (filed_same m l b a (words c));
        after =
            update_alike (file m (words c)) (file (twin m l b) (words c)) i cs within.row
            (file_alike m l b a (words c) refl (formed m form));
      }

  updated_same : (i : ℕ) (cs : List Assignment) → Within cs → Alike (update m i cs) (update (twin m l b) i cs)
  updated_same i cs within = update_alike m (twin m l b) i cs within.row a

  adds_alike : (p : ℕ) → is_block m p ≡ true → Formed m → Alike (block m p).after (block (twin m l b) p).after
  unfolding block
  adds_alike p known form = rw (← kept_same m l b a p known) (block_alike m l b a (block_record p (kept_height m p + 1)) refl form)

  block_same : (p : ℕ) → SameRule (block m p) (block (twin m l b) p)
  unfolding block
  block_same p =
      record {
        needs = next (form_same m l b a) (λ _. next refl (λ _. next (ap (ltb _) a.blocks_length) (λ _. agree_end)));
        results = λ h. record { first = refl; second = refl; after = adds_alike p h.1.0 (formed m h.0) };
      }

  sized_same : (j : Justification) (list : List ℕ) → is_sized m j list ≡ is_sized (twin m l b) j list
  sized_same (Acc number) list = refl
  sized_same (Commits v x) list = refl

  prepare_needs : (i x : ℕ) (j : Justification) (list : List ℕ)
      → Agree (prepare m i x j list).needs (prepare (twin m l b) i x j list).needs
  unfolding prepare issuing
  prepare_needs i x j list =
      next (form_same m l b a)
      (λ _. next refl (λ _. next (sized_same j list) (λ _. next refl (λ issued. next refl (λ added.
      simp (can_same m l b a, named_same m l b a (numbers_of j list) issued, parent_same m l b a) (agree_self _))))))

  prepare_results : (i x : ℕ) (j : Justification) (list : List ℕ) → Holds (prepare m i x j list).needs
      → Results (prepare m i x j list) (prepare (twin m l b) i x j list)
  unfolding prepare
  prepare_results i x j list hold =
      let h = (issuing_needs m _ i _ _ hold).0 in
      simp (named_same m l b a (numbers_of j list) h.1.1.1.0) (issued_same _ _ i _ _ (record { row = refl }) h.0)

  store_needs : (i number : ℕ) → Agree (store m i number).needs (store (twin m l b) i number).needs
  unfolding store issuing
  store_needs i number =
      next (form_same m l b a)
      (λ _. next refl (λ _. next refl (λ issued. simp (can_same m l b a, word_same m l b a) (agree_self _))))

  store_results : (i number : ℕ) → Holds (store m i number).needs → Results (store m i number) (store (twin m l b) i number)
  unfolding store
  store_results i number hold =
      let h = (issuing_needs m _ i _ _ hold).0 in
      let issued = h.1.1.0 in
      simp (word_same m l b a) (issued_same _ _ i _ _ (record { row = refl }) h.0)

  view-needs : (i w : ℕ) → Agree (view m i w).needs (view (twin m l b) i w).needs
  unfolding view issuing
  view-needs i w = next (form_same m l b a) (λ _. simp (can_same m l b a) (agree_self _))

  view_results : (i w : ℕ) → Holds (view m i w).needs → Results (view m i w) (view (twin m l b) i w)
  unfolding view
  view_results i w hold = issued_same _ _ i _ _ (record { row = refl }) (issuing_needs m _ i _ _ hold).0.0

  accumulate-needs : (i : ℕ) (list : List ℕ) → Agree (accumulate m i list).needs (accumulate (twin m l b) i list).needs
  unfolding accumulate issuing
  accumulate-needs i list =
      next (form_same m l b a)
      (λ _. next refl (λ _. next refl (λ _. next refl (λ issued. simp (can_same m l b a, named_same m l b a list issued) (agree_self _)))))

  accumulate_results : (i : ℕ) (list : List ℕ) → Holds (accumulate m i list).needs
      → Results (accumulate m i list) (accumulate (twin m l b) i list)
  unfolding accumulate
  accumulate_results i list hold =
      let h = (issuing_needs m _ i _ _ hold).0 in
      simp (named_same m l b a list h.1.1.1.0) (issued_same _ _ i _ _ (record { row = refl }) h.0)

  decide_same : (i : ℕ) (list : List ℕ) → SameRule (decide m i list) (decide (twin m l b) i list)
  unfolding decide
  decide_same i list =
      record {
        needs =
            next (form_same m l b a)
            (λ _. next refl (λ _. next refl (λ _. next refl (λ issued. simp (named_same m l b a list issued) (agree_self _)))));
        results =
            λ h.
            simp (named_same m l b a list h.1.1.1.0)
            (let c = first_of (certificates_of (twin m l b) list) in
            let within = within_cond (ltb (replica m i).decided_view c.view) (record { row = refl }) (record { row = refl }) in
            record { first = refl; second = refl; after = updated_same i _ within });
      }

  reboot_same : (i : ℕ) → SameRule (reboot m i) (reboot (twin m l b) i)
  unfolding reboot counter_step
  reboot_same i =
      record {
        needs = next (form_same m l b a) (λ _. agree_self _);
        results =
            λ h.
            let within = within_cond (reboot_retires m i) (record { row = refl }) (record { row = refl }) in
            record { first = refl; second = refl; after = updated_same i _ within };
      }

  reserve_same : (i : ℕ) → SameRule (reserve m i) (reserve (twin m l b) i)
  unfolding reserve counter_step
  reserve_same i =
      record {
        needs = next (form_same m l b a) (λ _. agree_self _);
        results = λ h. record { first = refl; second = refl; after = updated_same i _ (record { row = refl }) };
      }

  request_needs : (i : ℕ) → Agree (request m i).needs (request (twin m l b) i).needs
  unfolding request issuing
  request_needs i = next (form_same m l b a) (λ _. simp (can_same m l b a) (agree_self _))

  request_results : (i : ℕ) → Holds (request m i).needs → Results (request m i) (request (twin m l b) i)
  unfolding request
  request_results i hold = issued_same _ _ i _ _ (record { row = refl }) (issuing_needs m _ i _ _ hold).0.0

  reply-needs : (i number : ℕ) → Agree (reply m i number).needs (reply (twin m l b) i number).needs
  unfolding reply issuing
  reply-needs i number =
      next (form_same m l b a)
      (λ _. next refl (λ _. next refl (λ issued. simp (can_same m l b a, word_same m l b a) (agree_self _))))

  reply_results : (i number : ℕ) → Holds (reply m i number).needs → Results (reply m i number) (reply (twin m l b) i number)
  unfolding reply
  reply_results i number hold =
      let h = (issuing_needs m _ i _ _ hold).0 in
      let issued = h.1.1.0 in
      simp (word_same m l b a)
      (issued_same _ _ i _ _
      (within_cond (ltb (replica m i).min_view (certificate (twin m l b) number).view) (record { row = refl }) (record { row = refl }))
      h.0)

  recover_same : (i : ℕ) (list : List ℕ) → SameRule (recover m i list) (recover (twin m l b) i list)
  unfolding recover
  recover_same i list =
      record {
        needs =
            next (form_same m l b a)
            (λ _. next refl (λ _. next refl (λ _. next refl (λ issued. simp (named_same m l b a list issued) (agree_self _)))));
        results =
            λ h.
            simp (named_same m l b a list h.1.1.1.0)
            (record { first = refl; second = refl; after = updated_same i _ (record { row = refl }) });
      }

  fresh_alike : (f : ℕ) (steps : List ℕ) (limit k : ℕ) → lengths_fit m f ≡ true
      → Alike (fresh_replicas (keep_steps (fresh_header m f) steps) limit k)
      (fresh_replicas (keep_steps (fresh_header (twin m l b) f) steps) limit k)
  unfolding fresh_replicas
  fresh_alike f steps limit zero fit =
      let h = header m f fit in
      let issued = keep_header (fresh_header m f) steps certificate_count_at (omega arith) in
      let added = keep_header (fresh_header m f) steps block_count_at (omega arith) in
      record {
        table = refl;
        log_length = a.log_length;
        blocks_length = simp length-sets a.blocks_length;
        log = λ k j. absurd (omega arith);
        blocks =
            λ k j.
            sets_alike (block_record 0 0) m.blocks b (block_at 0) k a.blocks_length
            (λ far. let beyond = far (omega arith) in absurd (omega arith));
      }
  fresh_alike f steps limit (suc k) fit = update_alike _ _ k (fresh_replica limit) refl (fresh_alike f steps limit k fit)

  opening_same : (f : ℕ) (list : List ℕ) → SameRule (opening m f list) (opening (twin m l b) f list)
  unfolding opening
  opening_same f list =
      record {
        needs = next refl (λ _. next refl (λ _. next (lengths_same m (twin m l b) f (lengths_alike m l b a)) (λ _. agree_end)));
        results = λ h. record { first = refl; second = refl; after = fresh_alike f (steps_from list) _ (replica_count f) h.1.1.0 };
      }

  rule_same : (call : Call) (list : List ℕ) → SameRule (rule_of m call list) (rule_of (twin m l b) call list)
  unfolding rule_of
  rule_same (Open f) list = opening_same f list
  rule_same (Block p) list = block_same p
  rule_same (Prepare i x j) list = record { needs = prepare_needs i x j list; results = prepare_results i x j list }
  rule_same (Store i number) list = record { needs = store_needs i number; results = store_results i number }
  rule_same (View i w) list = record { needs = view-needs i w; results = view_results i w }
  rule_same (Accumulate i) list = record { needs = accumulate-needs i list; results = accumulate_results i list }
  rule_same (Decide i) list = decide_same i list
  rule_same (Reboot i) list = reboot_same i
  rule_same (Reserve i) list = reserve_same i
  rule_same (Request i) list = record { needs = request_needs i; results = request_results i }
  rule_same (Reply i number) list = record { needs = reply-needs i number; results = reply_results i number }
  rule_same (Recover i) list = recover_same i list

  step_same : (call : Call) (list : List ℕ) → SameAnswer (step m call list) (step (twin m l b) call list)
  unfolding step
  step_same call list =
      follow_same m (twin m l b) (rule_of m call list) (rule_of (twin m l b) call list) a (needs_hold m call list) (rule_same call list)

pub past-counts-unread : PastCountsUnread
unfolding PastCountsUnread
past-counts-unread m m' call list a = go m'.table a.table a
  where
    with_table : List ℕ → Memory
    with_table t = memory t m'.log m'.blocks

    go : (t : List ℕ) → m.table ≡ t → Alike m (with_table t) → SameAnswer (step m call list) (step (with_table t) call list)
    go t e =
        subst (λ (t : List ℕ). Alike m (with_table t) → SameAnswer (step m call list) (step (with_table t) call list)) e
        (λ a. step_same m m'.log m'.blocks a call list)
