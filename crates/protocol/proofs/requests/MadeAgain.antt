-- A call made again at once: `RepeatAtOnce` of specs/Repeats.antt.
use Prim.Native.Nat.{ℕ, ◌≤◌, ◌<◌}
use mathlib.Core.Path.{◌≡◌, refl, sym, ap, ◌∙◌, subst}
use mathlib.Core.Bool.{true}
use mathlib.Core.List.{List}
use native.Mathlib.Omega.{arith}
use lib.Dec.{ltb, eqb}
use Rattle.protocol.specs.declared.Call.{Call}
use Rattle.protocol.specs.declared.Call.TheVariants.{Prepare, Store, View, Accumulate, Request, Reply}
use Rattle.protocol.specs.declared.Justification.{Justification}
use Rattle.protocol.specs.declared.Justification.TheVariants.{Acc, Commits}
use Rattle.protocol.specs.Memory.{Memory, Replica, Certificate, Assignment, fault_bound, certificate_count, replica, certificate, words}
use Rattle.protocol.specs.Memory.{update}
use Rattle.protocol.specs.Certificates.{new_view_of, acc_of, req_of, reply_of, number_for, is_filed, can_file, file, found}
use Rattle.protocol.specs.Leader.{leads}
use Rattle.protocol.specs.Quorum.{first_of, greatest}
use Rattle.protocol.specs.Outcome.{Outcome, Need, Rule, first_refusal, wrong_view}
use Rattle.protocol.specs.FirstNeeds.{is_replica}
use Rattle.protocol.specs.Calls.{issuing, numbers_of, is_sized, proposal_view, justified_block, is_justified, prepare, store, view}
use Rattle.protocol.specs.Calls.{accumulate, request, reply}
use Rattle.protocol.specs.Runs.{rule_of, step}
use Rattle.protocol.specs.Theorems.{Accepted}
use Rattle.protocol.specs.Repeats.{SameAgain, FoundAgain, RefusedAgain, RepeatAtOnce}
use Rattle.protocol.proofs.logic.Booleans.{tests, by-test, by_cond}
use Rattle.protocol.proofs.calls.Needs.{Holds, none_refuses, joined_hold, refused_first, holds, fails, accepts, returned}
use Rattle.protocol.proofs.memory.Words.{within_row}
use Rattle.protocol.proofs.memory.Changes.{changed}
use Rattle.protocol.proofs.memory.Formed.{Formed, formed, form}
use Rattle.protocol.proofs.memory.Filing.{number_below, is-filed, filed_below, filed_equal, none_before, new_number}
use Rattle.protocol.proofs.memory.Keeps.{issuing_needs}
use Rattle.protocol.proofs.memory.Lists.{still_issued, same_named}
use Rattle.protocol.proofs.calls.LeavesForm.{view-leaves, accumulate-leaves, request-leaves, reply-leaves, prepare_leaves}
use Rattle.protocol.proofs.calls.LeavesForm.{store-leaves}
use Rattle.protocol.proofs.agreement.Acts.{Files, issuing_acts, extends}
use Rattle.protocol.proofs.requests.Repeats.{given, accepted_gives, issuing_tells, enters_again, replies_again}

-- ---- a certificate that was just filed

module _ (m m' : Memory) (c : Certificate) (files : Files m m' c) (stands : number_for m (words c) < certificate_count m') where
  pub there : certificate m' (number_for m (words c)) ≡ c
  there =
      by-test (is_filed m (words c))
      (λ e. files.old (number_for m (words c)) (filed_below m (words c) e) ∙ filed_equal m c e)
      (λ e. let next = new_number m (words c) e in files.new (number_for m (words c)) (omega arith) stands)

  same_number : number_for m' (words c) ≡ number_for m (words c)
  same_number =
      let ws = words c in
      let most = number_below m ws in
      let grows = files.grows in
      by-test (ltb (number_for m' ws) (number_for m ws))
      (λ lower.
      absurd
      (none_before m c (number_for m' ws) (omega tests)
      (sym (files.old (number_for m' ws) (omega tests)) ∙ filed_equal m' c (is-filed m' ws (omega tests)))))
      (λ e.
      by-test (ltb (number_for m ws) (number_for m' ws)) (λ higher. absurd (none_before m' c (number_for m ws) (omega tests) there))
      (λ f. omega tests))

-- ---- a rule after its own change

record Again (m' : Memory) (rule rule' : Rule) : Type 0 where
  needs : Holds rule'.needs
  first : rule'.first ≡ rule.first
  second : rule'.second ≡ found
  after : rule'.after ≡ m'

module _ (m : Memory) (ns : List Need) (i : ℕ) (cs : List Assignment) (c : Certificate) (hold : Holds (issuing m ns i cs c).needs)
    (z : Formed m) (own : is_replica m i ≡ true) (within : within_row cs ≡ true) where
  pub stands : number_for m (words c) < certificate_count (issuing m ns i cs c).after
  unfolding issuing
  stands =
      let grows = (issuing_acts m ns i cs c hold z own within).files.grows in
      by-test (is_filed m (words c)) (λ e. let known = filed_below m (words c) e in omega arith)
      (λ e.
      let next = new_number m (words c) e in
      let more = ((issuing_tells m ns i cs c z within).if_appended (rw e refl)).count in
      omega arith)

  -- Equal needs, an equal certificate, and assignments of what is there already.
  issuing_again : (ns' : List Need) (cs' : List Assignment) (c' : Certificate) → Holds ns' → c' ≡ c
      → (let m' = (issuing m ns i cs c).after in update m' i cs' ≡ m' → Again m' (issuing m ns i cs c) (issuing m' ns' i cs' c'))
  unfolding issuing file can_file
  issuing_again ns' cs' c' hold' same stays =
      let m' = (issuing m ns i cs c).after in
      let acts = issuing_acts m ns i cs c hold z own within in
      let number = same_number m m' c acts.files stands in
      let filed : is_filed m' (words c) ≡ true = is-filed m' (words c) (subst (λ (n : ℕ). n < certificate_count m') (sym number) stands) in
      rw same
      (record {
        needs = joined_hold ns' _ hold' (rw filed refl, tt);
        first = number;
        second = rw filed refl;
        after = rw filed stays;
      })

-- ---- the calls that find their certificate again

view_again : (m : Memory) (i w : ℕ) → Holds (view m i w).needs → Again (view m i w).after (view m i w) (view (view m i w).after i w)
unfolding view
view_again m i w hold =
    let h = (issuing_needs m _ i _ _ hold).0 in
    let z = formed m h.0 in
    let m' = (view m i w).after in
    let acts = issuing_acts m _ i _ _ hold z h.1.0 refl in
    let faults = acts.faults in
    let status = ap (λ (r : Replica). r.status) acts.own in
    let limit = ap (λ (r : Replica). r.view_limit) acts.own in
    let reached = ap (λ (r : Replica). r.min_view) acts.own in
    issuing_again m _ i _ _ hold z h.1.0 refl _ _ _
    (form m' (view-leaves m i w hold), (omega tests, (omega tests, (omega tests, (omega tests, (omega tests, (omega tests, tt)))))))
    (ap (λ (r : Replica). new_view_of i r.boot w r.stored_block r.stored_view) acts.own)
    (enters_again m' i w (sym reached))

accumulate_again : (m : Memory) (i : ℕ) (list : List ℕ) → Holds (accumulate m i list).needs
    → (let m' = (accumulate m i list).after in Again m' (accumulate m i list) (accumulate m' i list))
unfolding accumulate update
accumulate_again m i list hold =
    let h = (issuing_needs m _ i _ _ hold).0 in
    let z = formed m h.0 in
    let m' = (accumulate m i list).after in
    let acts = issuing_acts m _ i _ _ hold z h.1.0 refl in
    let faults = acts.faults in
    let status = ap (λ (r : Replica). r.status) acts.own in
    let issued = h.1.1.1.0 in
    let named = same_named m m' acts.files.old list issued in
    let still = still_issued m m' acts.files.grows list issued in
    let form' = form m' (accumulate-leaves m i list hold) in
    issuing_again m _ i _ _ hold z h.1.0 refl _ _ _
    (form', (omega tests, (omega tests, (still, (omega tests, (rw named h.1.1.1.1.1.0, tt))))))
    (λ d. acc_of i (acts.own d).boot (first_of (named d)).view (greatest (named d)).block (greatest (named d)).of_view)
    refl

request_again : (m : Memory) (i : ℕ) → Holds (request m i).needs
    → (let m' = (request m i).after in Again m' (request m i) (request m' i))
unfolding request update
request_again m i hold =
    let h = (issuing_needs m _ i _ _ hold).0 in
    let z = formed m h.0 in
    let m' = (request m i).after in
    let acts = issuing_acts m _ i _ _ hold z h.1.0 refl in
    let faults = acts.faults in
    let status = ap (λ (r : Replica). r.status) acts.own in
    issuing_again m _ i _ _ hold z h.1.0 refl _ _ _
    (form m' (request-leaves m i hold), (omega tests, (omega tests, tt)))
    (ap (λ (r : Replica). req_of i r.boot r.min_view) acts.own) refl

-- What a Reply leaves of its replica: a lowest view that is not below v.
record Replied (r r' : Replica) (v : ℕ) : Type 0 where
  status : r'.status ≡ r.status
  boot : r'.boot ≡ r.boot
  limit : r'.view_limit ≡ r.view_limit
  stored_view : r'.stored_view ≡ r.stored_view
  stored_block : r'.stored_block ≡ r.stored_block
  min_view : v ≤ r'.min_view

reply_again : (m : Memory) (i number : ℕ) → Holds (reply m i number).needs
    → (let m' = (reply m i number).after in Again m' (reply m i number) (reply m' i number))
unfolding reply update
reply_again m i number hold =
    let h = (issuing_needs m _ i _ _ hold).0 in
    let z = formed m h.0 in
    let m' = (reply m i number).after in
    let q = certificate m number in
    let r = replica m i in
    let within = by_cond (λ cs. within_row cs ≡ true) (ltb r.min_view q.view) (λ e. refl) (λ e. refl) in
    let acts = issuing_acts m _ i _ _ hold z h.1.0 within in
    let faults = acts.faults in
    let old = acts.files.old number (omega tests) in
    let view = ap (λ (c : Certificate). c.view) old in
    let kind = ap (λ (c : Certificate). c.kind) old in
    let signer = ap (λ (c : Certificate). c.signer) old in
    let grows = acts.files.grows in
    let left : Replied r (replica m' i) q.view =
    subst (λ (x : Replica). Replied r x q.view) (sym acts.own)
    (by_cond (λ cs. Replied r (changed cs r) q.view) (ltb r.min_view q.view)
    (λ e. record { status = refl; boot = refl; limit = refl; stored_view = refl; stored_block = refl; min_view = omega arith })
    (λ e. record { status = refl; boot = refl; limit = refl; stored_view = refl; stored_block = refl; min_view = omega tests })) in
    let form' = form m' (reply-leaves m i number hold) in
    issuing_again m _ i _ _ hold z h.1.0 within _ _ _
    (form', (omega tests, (omega tests, (omega tests, (omega tests, (rw signer h.1.1.1.1.1.0, (omega tests, tt)))))))
    (λ d. reply_of i (left.boot d) (old d).view (left.stored_block d) (left.stored_view d) (old d).signer (old d).subject_boot)
    (replies_again m' i (certificate m' number).view (omega (arith, left.min_view, view)))

-- ---- the calls that are refused

-- A need before the log's slot that fails decides.
issuing_refuses : (m : Memory) (ns : List Need) (i : ℕ) (cs : List Assignment) (c : Certificate) → first_refusal ns ≡ wrong_view
    → first_refusal (issuing m ns i cs c).needs ≡ wrong_view
unfolding issuing
issuing_refuses m ns i cs c e = refused_first ns _ (λ none. omega arith) ∙ e

store_again : (m : Memory) (i number : ℕ) → Holds (store m i number).needs
    → first_refusal (store (store m i number).after i number).needs ≡ wrong_view
unfolding store
store_again m i number hold =
    let h = (issuing_needs m _ i _ _ hold).0 in
    let z = formed m h.0 in
    let m' = (store m i number).after in
    let acts = issuing_acts m _ i _ _ hold z h.1.0 refl in
    let faults = acts.faults in
    let grows = acts.files.grows in
    let status = ap (λ (r : Replica). r.status) acts.own in
    let left = ap (λ (r : Replica). r.min_view) acts.own in
    let old = acts.files.old number (omega tests) in
    let kind = ap (λ (c : Certificate). c.kind) old in
    let view = ap (λ (c : Certificate). c.view) old in
    issuing_refuses m' _ i _ _
    (holds _ _ (form m' (store-leaves m i number hold))
    ∙ holds _ _ (omega tests)
    ∙ holds _ _ (omega tests)
    ∙ holds _ _ (omega tests)
    ∙ holds _ _ (omega tests)
    ∙ holds _ _ ((λ d. leads (faults d) (old d).view (old d).signer) ∙ h.1.1.1.1.1.0)
    ∙ fails _ (omega tests))

sized_again : (m m' : Memory) (j : Justification) (list : List ℕ) → fault_bound m' ≡ fault_bound m → is_sized m j list ≡ true
    → is_sized m' j list ≡ true
sized_again m m' (Acc number) list e h = refl
sized_again m m' (Commits v b) list e h = omega tests

prepare_again : (m : Memory) (i b : ℕ) (j : Justification) (list : List ℕ) → Holds (prepare m i b j list).needs
    → first_refusal (prepare (prepare m i b j list).after i b j list).needs ≡ wrong_view
unfolding prepare
prepare_again m i b j list hold =
    let h = (issuing_needs m _ i _ _ hold).0 in
    let z = formed m h.0 in
    let m' = (prepare m i b j list).after in
    let acts = issuing_acts m _ i _ _ hold z h.1.0 refl in
    let faults = acts.faults in
    let blocks = acts.blocks in
    let status = ap (λ (r : Replica). r.status) acts.own in
    let min_view = ap (λ (r : Replica). r.min_view) acts.own in
    let flag = ap (λ (r : Replica). r.flag) acts.own in
    let ranged = h.1.1.1 in
    let justified = ranged.1.1.1 in
    let block = justified.1.1 in
    let turn = block.1.1 in
    let named = same_named m m' acts.files.old (numbers_of j list) ranged.0 in
    let kept = (extends m m' i _ _ acts).parent b (omega tests) in
    issuing_refuses m' _ i _ _
    (holds _ _ (form m' (prepare_leaves m i b j list hold))
    ∙ holds _ _ (omega tests)
    ∙ holds _ _ (sized_again m m' j list faults h.1.1.0)
    ∙ holds _ _ (still_issued m m' acts.files.grows (numbers_of j list) ranged.0)
    ∙ holds _ _ (omega tests)
    ∙ holds _ _ (omega tests)
    ∙ holds _ _ (ap (is_justified i j) named ∙ justified.0)
    ∙ holds _ _ ((λ d. leads (faults d) (proposal_view j (named d)) i) ∙ justified.1.0)
    ∙ holds _ _ block.0
    ∙ holds _ _ ((λ d. eqb (kept d) (justified_block j (named d))) ∙ block.1.0)
    ∙ holds _ _ ((λ d. eqb (min_view d) (proposal_view j (named d))) ∙ turn.0)
    ∙ fails _ (omega tests))

-- ---- the statement

-- An accepted call, and the same call after it, by their rules.
after_it : (P : Outcome → Outcome → Type 0) (m : Memory) (call : Call) (list : List ℕ)
    → (Holds (rule_of m call list).needs → P (given (rule_of m call list)) (step (rule_of m call list).after call list))
    → Accepted (step m call list) → P (step m call list) (step (step m call list).state call list)
after_it P m call list gives = accepted_gives (λ o. P o (step o.state call list)) m call list gives

found_again : (m : Memory) (call : Call) (list : List ℕ)
    → (let rule = rule_of m call list in
    Holds rule.needs → Again rule.after rule (rule_of rule.after call list))
    → FoundAgain m call list
unfolding step
found_again m call list again =
    after_it SameAgain m call list
    (λ hold.
    let m' = (rule_of m call list).after in
    let x = again hold in
    subst (SameAgain (given (rule_of m call list))) (accepts m' (rule_of m' call list) (sym (none_refuses _ x.needs)))
    (record { accepted = refl; first = x.first; second = x.second; state = x.after }))

refused_again : (m : Memory) (call : Call) (list : List ℕ)
    → (let rule = rule_of m call list in
    Holds rule.needs → first_refusal (rule_of rule.after call list).needs ≡ wrong_view)
    → RefusedAgain m call list
unfolding step
refused_again m call list again =
    after_it (λ o o'. o'.answer.number ≡ wrong_view) m call list
    (λ hold.
    let m' = (rule_of m call list).after in
    returned m' (rule_of m' call list) ∙ again hold)

pub repeat-at-once : RepeatAtOnce
unfolding RepeatAtOnce rule_of
repeat-at-once m list =
    record {
      view = λ i w. found_again m (View i w) list (view_again m i w);
      accumulate = λ i. found_again m (Accumulate i) list (accumulate_again m i list);
      request = λ i. found_again m (Request i) list (request_again m i);
      reply = λ i number. found_again m (Reply i number) list (reply_again m i number);
      prepare = λ i b j. refused_again m (Prepare i b j) list (prepare_again m i b j list);
      store = λ i number. refused_again m (Store i number) list (store_again m i number);
    }
