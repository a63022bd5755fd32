-- What every call but an opening does to a replica's boot, lowest view and limit, and what a replica signs: for specs/Cuts.antt. On any
-- memory, so without the invariant of Safety.antt.
use Prim.Native.Nat.{ℕ, ◌+◌, ◌≤◌, ◌<◌}
use mathlib.Core.Path.{◌≡◌, refl, sym, ap, ◌∙◌, subst}
use mathlib.Core.Bool.{true}
use mathlib.Core.Logic.{◌≢◌}
use mathlib.Core.List.{List, [], ◌∷◌, ◌++◌, Memᴰ}
use native.Mathlib.Omega.{arith}
use lib.Dec.{ltb, eqb}
use Rattle.protocol.specs.declared.Call.{Call}
use Rattle.protocol.specs.declared.Call.TheVariants.{Open, Block, Prepare, Store, View, Accumulate, Decide, Reboot}
use Rattle.protocol.specs.declared.Call.TheVariants.{Reserve, Request, Reply, Recover}
use Rattle.protocol.specs.declared.Justification.{Justification}
use Rattle.protocol.specs.Memory.{Memory, Replica, Certificate, Assignment, certificate_count, replica, retired, certificate}
use Rattle.protocol.specs.Memory.{kept_height, block_record, update}
use Rattle.protocol.specs.Certificates.{PROP, COMMIT, NEWVIEW, ACC, REQ, REPLY, acc_of}
use Rattle.protocol.specs.Quorum.{certificates_of, first_of}
use Rattle.protocol.specs.Outcome.{Answer, Need, Rule}
use Rattle.protocol.specs.FirstNeeds.{is_replica, replica_needs}
use Rattle.protocol.specs.Form.{well_formed, replica_formed}
use Rattle.protocol.specs.Calls.{issuing, opening, block, prepare, store, view, accumulate, decide, reboot, reserve, request, reply}
use Rattle.protocol.specs.Calls.{recover}
use Rattle.protocol.specs.Runs.{Invocation, rule_of, step, run}
use Rattle.protocol.specs.Theorems.{RefusedChangesNothing}
use Rattle.protocol.specs.History.{Event, reopened, accepted_event, event_of, history}
use Rattle.protocol.specs.Agreement.{Execution, end_of}
use Rattle.protocol.proofs.logic.Booleans.{tests, by-test, by_cond, each}
use Rattle.protocol.proofs.calls.Needs.{Holds}
use Rattle.protocol.proofs.calls.Rules.{refused-changes-nothing}
use Rattle.protocol.proofs.memory.Words.{within_row}
use Rattle.protocol.proofs.memory.Changes.{changed, update_own}
use Rattle.protocol.proofs.memory.Formed.{formed, sizes}
use Rattle.protocol.proofs.memory.Keeps.{issuing_needs}
use Rattle.protocol.proofs.calls.LeavesForm.{reboot_retires, stays_active}
use Rattle.protocol.proofs.memory.Opened.{opened}
use Rattle.protocol.proofs.agreement.Acts.{Acts, update_acts, issuing_acts}
use Rattle.protocol.proofs.agreement.SafeEnds.{block_adds}
use Rattle.protocol.proofs.agreement.Agreement.{kept}
use Rattle.protocol.proofs.requests.Repeats.{accepted_gives}
use Rattle.protocol.proofs.requests.MadeAgain.{there, stands}

-- ---- what every call but an opening does, and what it keeps

-- From r to r' no boot, no lowest view and no limit falls, the boot changes only where the lowest view reaches the old limit, and a retired
-- replica stays retired.
pub record Ages (r r' : Replica) : Type 0 where
  pub boot : r.boot ≤ r'.boot
  pub min_view : r.min_view ≤ r'.min_view
  pub limit : r.view_limit ≤ r'.view_limit
  pub same : r'.min_view < r.view_limit → r'.boot ≡ r.boot
  pub ended : r.status ≡ retired → r'.status ≡ retired

-- An issued certificate c, and its signer r as it is by now. The view of a PROP, a COMMIT or a NEWVIEW is below the limit, and the boot is
-- r's unless r has left that view.
pub record Dated (r : Replica) (c : Certificate) : Type 0 where
  pub boot : c.signer_boot ≤ r.boot
  pub below : c.kind ≤ NEWVIEW → c.view < r.view_limit
  pub same : c.kind ≤ NEWVIEW → r.min_view ≤ c.view → c.signer_boot ≡ r.boot
  pub request : c.kind ≡ REQ → c.subject_boot ≡ c.signer_boot

dated_on : {r r' : Replica} {c : Certificate} → Ages r r' → Dated r c → Dated r' c
dated_on ages d =
    record {
      boot = omega arith;
      below = λ k. omega (arith, d.below k);
      same = λ k l. let below = d.below k in d.same k (omega arith) ∙ sym (ages.same (omega arith));
      request = d.request;
    }

-- Replicas age, and certificates are appended, each dated.
pub record Passes (m m' : Memory) : Type 0 where
  pub ages : (i : ℕ) → Ages (replica m i) (replica m' i)
  pub grows : certificate_count m ≤ certificate_count m'
  pub old : (k : ℕ) → k < certificate_count m → certificate m' k ≡ certificate m k
  pub new :
      (k i : ℕ) → certificate_count m ≤ k → k < certificate_count m' → (certificate m' k).signer ≡ i
      → Dated (replica m' i) (certificate m' k)

abbrev pub AllDated : Memory → Type 0
AllDated m = (k i : ℕ) → k < certificate_count m → (certificate m k).signer ≡ i → Dated (replica m i) (certificate m k)

all_dated_on : (m m' : Memory) → Passes m m' → AllDated m → AllDated m'
all_dated_on m m' p all k i l signer =
    by-test (ltb k (certificate_count m))
    (λ e.
    let same = p.old k (omega tests) in
    rw same (dated_on (p.ages i) (all k i (omega tests) (ap (λ (c : Certificate). c.signer) (sym same) ∙ signer))))
    (λ e. p.new k i (omega tests) l signer)

-- ---- the calls

-- Replicas and certificates stay.
stays : (m m' : Memory) → certificate_count m' ≡ certificate_count m → ((k : ℕ) → certificate m' k ≡ certificate m k)
    → ((i : ℕ) → replica m' i ≡ replica m i) → Passes m m'
stays m m' count certificates replicas =
    record {
      ages = λ i. subst (Ages (replica m i)) (sym (replicas i)) (omega arith);
      grows = omega arith;
      old = λ k l. certificates k;
      new = λ k i a b. absurd (omega arith);
    }

-- One replica acts, and signs what it issues.
acts_pass : (m m' : Memory) (i : ℕ) (r' : Replica) (c : Certificate) → Acts m m' i r' c → Ages (replica m i) r' → c.signer ≡ i
    → Dated r' c → Passes m m'
acts_pass m m' i r' c acts ages mine dated =
    record {
      ages =
          λ j.
          by-test (eqb j i) (λ e. let q : j ≡ i = omega tests in rw q (subst (Ages (replica m i)) (sym acts.own) ages))
          (λ e. subst (Ages (replica m j)) (sym (acts.others j (omega tests))) (omega arith));
      grows = acts.files.grows;
      old = acts.files.old;
      new =
          λ k j a b signer.
          let same = acts.files.new k a b in
          let q : j ≡ i = sym signer ∙ ap (λ (x : Certificate). x.signer) same ∙ mine in
          rw (q, same) (subst (λ (r : Replica). Dated r c) (sym acts.own) dated);
    }

-- Words of one replica change and nothing is issued: any dated certificate may be named.
updates : (m : Memory) (i : ℕ) (cs : List Assignment) → well_formed m ≡ true → is_replica m i ≡ true → within_row cs ≡ true
    → Ages (replica m i) (changed cs (replica m i)) → Passes m (update m i cs)
updates m i cs form own within ages =
    acts_pass m (update m i cs) i _ (acc_of i 0 0 0 0) (update_acts m i cs _ (formed m form) own within) ages refl (omega arith)

-- What replica i signs, while it is not retired: with its boot and, if it is a PROP, a COMMIT or a NEWVIEW, in a view from its lowest up to
-- its limit.
pub record Signed (m : Memory) (named i : ℕ) (c : Certificate) : Type 0 where
  pub kind : c.kind ≡ named
  pub active : (replica m i).status ≢ retired
  pub signer : c.signer ≡ i
  pub boot : c.signer_boot ≡ (replica m i).boot
  pub from : named ≤ NEWVIEW → (replica m i).min_view ≤ c.view
  pub below : named ≤ NEWVIEW → c.view < (replica m i).view_limit
  pub request : named ≡ REQ → c.subject_boot ≡ c.signer_boot

pub record Signs (m : Memory) (kind i : ℕ) (rule : Rule) : Type 0 where
  pub signed : Signed m kind i (certificate rule.after rule.first)
  pub passes : Passes m rule.after

-- Neither status nor boot nor limit changes, and the lowest view does not fall.
record Remains (r r' : Replica) : Type 0 where
  status : r'.status ≡ r.status
  boot : r'.boot ≡ r.boot
  min_view : r.min_view ≤ r'.min_view
  limit : r'.view_limit ≡ r.view_limit

abbrev RemainsBy : Replica → List Assignment → Type 0
RemainsBy r cs = (within_row cs ≡ true) × Remains r (changed cs r)

signs : (m : Memory) (kind i : ℕ) (cs : List Assignment) (c : Certificate) (rest : List Need)
    → (let rule = issuing m (replica_needs m i ++ rest) i cs c in
    Holds rule.needs → RemainsBy (replica m i) cs → Signed m kind i c → Signs m kind i rule)
unfolding issuing
signs m kind i cs c rest hold remains signed =
    let needs = replica_needs m i ++ rest in
    let h = (issuing_needs m needs i cs c hold).0 in
    let z = formed m h.0 in
    let acts = issuing_acts m needs i cs c hold z h.1.0 remains.0 in
    record {
      signed = rw (there m _ c acts.files (stands m needs i cs c hold z h.1.0 remains.0)) signed;
      passes =
          acts_pass m _ i _ c acts (omega arith) signed.signer
          (record {
            boot = omega arith;
            below = λ k. omega (arith, signed.below (omega arith));
            same = λ k l. omega arith;
            request = λ k. signed.request (omega arith);
          });
    }

pub prepare_signs : (m : Memory) (i b : ℕ) (j : Justification) (list : List ℕ) → Holds (prepare m i b j list).needs
    → Signs m PROP i (prepare m i b j list)
unfolding prepare
prepare_signs m i b j list hold =
    let own = (issuing_needs m _ i _ _ hold).0.1.1.1.1.1 in
    signs m PROP i _ _ _ hold (refl, omega tests) (omega tests)

pub store_signs : (m : Memory) (i number : ℕ) → Holds (store m i number).needs → Signs m COMMIT i (store m i number)
unfolding store
store_signs m i number hold =
    let h = (issuing_needs m _ i _ _ hold).0 in
    signs m COMMIT i _ _ _ hold (refl, omega tests) (omega tests)

pub view_signs : (m : Memory) (i w : ℕ) → Holds (view m i w).needs → Signs m NEWVIEW i (view m i w)
unfolding view
view_signs m i w hold =
    let h = (issuing_needs m _ i _ _ hold).0 in
    signs m NEWVIEW i _ _ _ hold (refl, omega tests) (omega tests)

pub accumulate_signs : (m : Memory) (i : ℕ) (list : List ℕ) → Holds (accumulate m i list).needs → Signs m ACC i (accumulate m i list)
unfolding accumulate
accumulate_signs m i list hold =
    let h = (issuing_needs m _ i _ _ hold).0 in
    signs m ACC i _ _ _ hold (refl, omega tests) (omega tests)

pub request_signs : (m : Memory) (i : ℕ) → Holds (request m i).needs → Signs m REQ i (request m i)
unfolding request
request_signs m i hold =
    let h = (issuing_needs m _ i _ _ hold).0 in
    signs m REQ i _ _ _ hold (refl, omega tests) (omega tests)

pub reply_signs : (m : Memory) (i number : ℕ) → Holds (reply m i number).needs → Signs m REPLY i (reply m i number)
unfolding reply
reply_signs m i number hold =
    let h = (issuing_needs m _ i _ _ hold).0 in
    let r = replica m i in
    signs m REPLY i _ _ _ hold
    (by_cond (RemainsBy r) (ltb r.min_view (certificate m number).view) (λ e. (refl, omega tests)) (λ e. (refl, omega tests)))
    (omega tests)

-- A Reboot counts its replica's boot, or retires it.
abbrev Counts : Replica → Replica → Type 0
Counts r r' = r'.status ≢ retired → r.boot < r'.boot

pub record Reboots (m : Memory) (i : ℕ) (m' : Memory) : Type 0 where
  pub passes : Passes m m'
  pub counts : Counts (replica m i) (replica m' i)

pub reboots : (m : Memory) (i : ℕ) → Holds (reboot m i).needs → Reboots m i (reboot m i).after
unfolding reboot replica_formed
reboots m i h =
    let row = each _ ((formed m h.0).rows i (omega tests)) in
    by_cond (λ cs. Reboots m i (update m i cs)) (reboot_retires m i) (λ e. with_words _ refl (omega arith))
    (λ e. let active = stays_active m i e in with_words _ refl (omega tests))
  where
    with_words : (cs : List Assignment) → within_row cs ≡ true
        → (let r = replica m i in Ages r (changed cs r) × Counts r (changed cs r) → Reboots m i (update m i cs))
    with_words cs within x =
        let size = sizes m (formed m h.0) in
        record {
          passes = updates m i cs h.0 h.1.0 within x.0;
          counts = subst (Counts (replica m i)) (sym (update_own m i cs within (omega tests))) x.1;
        }

accepted_passes : (m : Memory) (call : Call) (a : Answer) (list : List ℕ) → (accepted_event call a ≡ reopened → ⊥)
    → Holds (rule_of m call list).needs → Passes m (rule_of m call list).after
unfolding rule_of block decide reserve recover
accepted_passes m (Open f) a list other h = absurd (other refl)
accepted_passes m (Block p) a list other h =
    let adds = block_adds m (block_record p (kept_height m p + 1)) refl (formed m h.0) in
    stays m _ adds.certificates adds.certificate adds.replica
accepted_passes m (Prepare i b j) a list other h = (prepare_signs m i b j list h).passes
accepted_passes m (Store i number) a list other h = (store_signs m i number h).passes
accepted_passes m (View i w) a list other h = (view_signs m i w h).passes
accepted_passes m (Accumulate i) a list other h = (accumulate_signs m i list h).passes
accepted_passes m (Decide i) a list other h =
    by_cond (λ cs. Passes m (update m i cs)) (ltb (replica m i).decided_view (first_of (certificates_of m list)).view)
    (λ e. updates m i _ h.0 h.1.0 refl (omega arith)) (λ e. updates m i _ h.0 h.1.0 refl (omega arith))
accepted_passes m (Reboot i) a list other h = (reboots m i h).passes
accepted_passes m (Reserve i) a list other h = updates m i _ h.0 h.1.0 refl (omega arith)
accepted_passes m (Request i) a list other h = (request_signs m i h).passes
accepted_passes m (Reply i number) a list other h = (reply_signs m i number h).passes
accepted_passes m (Recover i) a list other h = updates m i _ h.0 h.1.0 refl (omega tests)

-- ---- lists of calls

step_passes : (m : Memory) (call : Call) (list : List ℕ) → (event_of call (step m call list).answer ≡ reopened → ⊥)
    → Passes m (step m call list).state
unfolding RefusedChangesNothing event_of
step_passes m call list other =
    let a = (step m call list).answer in
    by-test (eqb a.number 0)
    (λ e.
    accepted_gives (λ o. Passes m o.state) m call list (accepted_passes m call a list (rw e at other)) (omega tests))
    (λ e. rw (refused-changes-nothing m call list (λ accepted. omega tests)).state (stays m m refl (λ k. refl) (λ i. refl)))

-- Whatever one call keeps, a list of calls without an opening keeps.
pub run_keeps : (P : Memory → Type 0) → ((m m' : Memory) → Passes m m' → P m → P m') → (since : List Event) (m : Memory)
    (calls : List Invocation) → (Memᴰ reopened (history since m calls) → ⊥) → P m → P (run m calls)
unfolding history run
run_keeps P keeps since m [] once h = h
run_keeps P keeps since m (q ∷ qs) once h =
    let o = step m q.call q.list in
    let e = event_of q.call o.answer in
    run_keeps P keeps (e ∷ since) o.state qs once
    (keeps m o.state (step_passes m q.call q.list (λ again. once (kept o.state qs (Memᴰ.head (sym again))))) h)

-- An opening leaves no certificates.
pub all_dated : (x : Execution) → AllDated (end_of x)
unfolding rule_of opening
all_dated x =
    run_keeps AllDated all_dated_on [] _ x.calls x.once
    (accepted_gives (λ o. AllDated o.state) x.start (Open x.f) x.list
    (λ h k i l. let none = (opened x.start x.f x.list h.1.0 h.1.1.0).header.certificates in absurd (omega arith))
    x.opened)
