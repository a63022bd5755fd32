-- The way on, from its end to its start: each part is shown to end in the decision by way of the part after it.
use Prim.Native.Nat.{ℕ, ◌+◌, ◌≤◌, ◌<◌}
use mathlib.Core.Path.{◌≡◌, refl, sym, ap, ◌∙◌, subst}
use mathlib.Core.Bool.{true}
use mathlib.Core.List.{List, [], ◌∷◌, map}
use native.Mathlib.Omega.{arith}
use lib.ListN.{length}
use lib.Dec.{ltb, eqb}
use Rattle.protocol.specs.declared.Call.TheVariants.{Block, Prepare, Store, View, Accumulate, Decide}
use Rattle.protocol.specs.declared.Justification.TheVariants.{Acc}
use Rattle.protocol.specs.Memory.{Memory, Replica, Certificate, replica_count, certificate_count_at, block_count_at, fault_bound}
use Rattle.protocol.specs.Memory.{certificate_count, block_count, replica, certificate_at, certificate, block_at, parent}
use Rattle.protocol.specs.Form.{certificate_formed}
use Rattle.protocol.specs.Certificates.{COMMIT, NEWVIEW, ACC, prop_of, log_has_room, appended}
use Rattle.protocol.specs.Leader.{leads}
use Rattle.protocol.specs.Quorum.{every, all_issued, certificates_of, first_of, contains, distinct, is_commit_of, is_commit_quorum}
use Rattle.protocol.specs.Quorum.{is_new_view_of, is_new_view_quorum, greatest}
use Rattle.protocol.specs.Outcome.{Answer, Outcome, accepted}
use Rattle.protocol.specs.FirstNeeds.{is_replica}
use Rattle.protocol.specs.Calls.{is_ahead}
use Rattle.protocol.specs.Runs.{Invocation, plain, ◌on◌, step, run, answers}
use Rattle.protocol.specs.WayOn.{decision_slots, leader_of, ask, first_values, ask_all, view_calls, store_calls, counting, added_as}
use Rattle.protocol.proofs.logic.Booleans.{tests, by-test, each, all-hold}
use Rattle.protocol.proofs.memory.Formed.{Formed, sizes}
use Rattle.protocol.proofs.agreement.Safety.{Safe}
use Rattle.protocol.proofs.progress.Asking.{values_length, values_added, Plan, Decides, one, several, asked, all_asked, replanned}
use Rattle.protocol.proofs.progress.Issues.{Issues}
use Rattle.protocol.proofs.progress.Each.{all_made}
use Rattle.protocol.proofs.progress.Made.{made_quorum, made_first}
use Rattle.protocol.proofs.progress.Parts.{CanEnter, entering, new_view_by, storing, commit_by, view_issues, accumulate_issues}
use Rattle.protocol.proofs.progress.Parts.{prepare_issues, store_issues, block_adds_one, decide_names, decide_header}
use Rattle.protocol.proofs.progress.Parts.{Entered, MayStore, Proposed, proposed_on}

-- f and w, f+1 different replicas with the leader among them; and, of where the way starts, the numbers of the next certificate and block.
module _ (S : Type 0) (f w : ℕ) (replicas : List ℕ) (size : length replicas ≡ f + 1) (different : distinct replicas ≡ true)
    (below : (j : ℕ) → contains j replicas ≡ true → j < replica_count f)
    (leading : contains (leader_of f w) replicas ≡ true) (leads-it : leads f w (leader_of f w) ≡ true) (c b : ℕ) where
  abbrev leader : ℕ
  leader = leader_of f w

  -- The parts of the way on, each from the memory and the numbers that the part before it gives.
  abbrev decide_on : Memory → List ℕ → List Invocation
  decide_on m commits = Decide leader on commits ∷ []

  abbrev store_on : Memory → ℕ → List Invocation
  store_on m prop = ask_all m (store_calls prop replicas) decide_on

  abbrev prepare_on : ℕ → Memory → ℕ → List Invocation
  prepare_on acc m b = ask m (plain (Prepare leader b (Acc acc))) store_on

  abbrev block_on : Memory → ℕ → List Invocation
  block_on m acc = ask m (plain (Block (certificate m acc).block)) (prepare_on acc)

  abbrev pub accumulate_on : Memory → List ℕ → List Invocation
  accumulate_on m new_views = ask m (Accumulate leader on new_views) block_on

  abbrev acc-number : ℕ
  acc-number = c + (f + 1)

  abbrev prop-number : ℕ
  prop-number = acc-number + 1

  abbrev commit-numbers : List ℕ
  commit-numbers = counting (prop-number + 1) (f + 1)

  -- Where a part starts: so many slots are free, and where S holds so many certificates were added since the start.
  record At (x : Memory) (free used : ℕ) : Type 0 where
    formed : Formed x
    faults : fault_bound x ≡ f
    room : certificate_at (certificate_count x + free) ≤ length x.log
    safe : S → Safe x
    count : S → certificate_count x ≡ c + used
    older : S → (replica x leader).decided_view < w

  -- The leader issues a certificate, and its decided words stay.
  at_next : {x : Memory} {o : Outcome} {r : Replica} {d : Certificate} (free used : ℕ) {free' used' : ℕ} → At x free' used'
      → Issues S x o leader r d → r.decided_view ≡ (replica x leader).decided_view → free' ≡ free + 1 → used ≡ used' + 1
      → At o.state free used
  at_next free used at made same fewer further =
      let room = at.room in
      let most = made.most in
      let length-log = made.lengths.log in
      record {
        formed = made.formed;
        faults = made.acts.faults ∙ at.faults;
        room = omega arith;
        safe = λ s. (made.adds s).safe;
        count = λ s. let n = at.count s in let more = (made.adds s).count in omega arith;
        older =
            λ s. let l = at.older s in let own = ap (λ (r : Replica). r.decided_view) made.acts.own in omega arith;
      }

  member : (x : Memory) → fault_bound x ≡ f → (j : ℕ) → contains j replicas ≡ true → is_replica x j ≡ true
  member x e j among = let l = below j among in omega tests

  -- ---- one decide

  abbrev decide_plan : Plan
  decide_plan =
      record {
        calls = Decide leader on commit-numbers ∷ [];
        answers = accepted b w ∷ [];
        certificates = c + decision_slots f;
        blocks = b + 1;
      }

  deciding : (x : Memory) (commits : List ℕ) (row : ℕ → Replica) → At x 0 (decision_slots f) → block_count x ≡ b + 1 → length commits ≡ f + 1
      → all_issued x commits ≡ true → certificates_of x commits ≡ map (λ i. commit_by w b i (row i)) replicas → (S → commits ≡ commit-numbers)
      → Decides S x (decide_on x commits) leader b w decide_plan
  unfolding answers run every
  deciding x commits row at blocks count issued is known =
      let faults = at.faults in
      let made : ℕ → Certificate = λ i. commit_by w b i (row i) in
      let view = ap (λ (cs : List Certificate). (first_of cs).view) is ∙ made_first made (λ c. c.view ≡ w) (λ i. refl) replicas (omega arith) in
      let block = ap (λ (cs : List Certificate). (first_of cs).block) is ∙ made_first made (λ c. c.block ≡ b) (λ i. refl) replicas (omega arith) in
      let commit : (i : ℕ) → is_commit_of w b (made i) ≡ true = λ i. all-hold _ (omega tests) in
      let quorum = ap (is_commit_quorum w b) is ∙ made_quorum made (is_commit_of w b) commit (λ i. refl) replicas different in
      let names = decide_names x leader b w commits at.formed (member x faults leader leading) (omega tests) issued view block quorum in
      let answer = names.answer in
      record {
        none_refused = rw answer refl;
        before = [];
        decision = λ d. answer d ∷ [];
        known = λ s. ap (λ (list : List ℕ). Decide leader on list ∷ []) (known s);
        answered = λ s d. answer d ∷ [];
        certificates = λ s. decide_header x leader commits certificate_count_at (omega arith) ∙ at.count s;
        blocks = λ s. decide_header x leader commits block_count_at (omega arith) ∙ blocks;
        decided_view = λ s. ap (λ (r : Replica). r.decided_view) (names.shown (at.older s));
        decided_block = λ s. ap (λ (r : Replica). r.decided_block) (names.shown (at.older s));
      }

  -- ---- a store per replica

  stores : (prop boot : ℕ) (x : Memory) (i : ℕ) → Formed x → Proposed f prop (prop_of leader boot w b) x → is_replica x i ≡ true
      → MayStore w (replica x i) → log_has_room x ≡ true → (S → Safe x)
      → Issues S x (step x (Store i prop) []) i (storing w b (replica x i)) (commit_by w b i (replica x i))
  stores prop boot x i h at own may room safe =
      let p = at.certificate in
      let view : (certificate x prop).view ≡ w = ap (λ (c : Certificate). c.view) p in
      let kind = ap (λ (c : Certificate). c.kind) p in
      subst
      (λ (c : Certificate).
      Issues S x (step x (Store i prop) []) i (storing c.view c.block (replica x i)) (commit_by c.view c.block i (replica x i)))
      p
      (store_issues S x i h own room safe prop
      (record {
        issued = at.issued;
        kind = kind;
        leader = subst (λ (c : Certificate). leads (fault_bound x) c.view c.signer ≡ true) (sym p) (rw at.faults leads-it);
        status = may.status;
        min_view = (let l = may.min_view in omega arith);
        limit = (let l = may.limit in omega arith);
      }))

  abbrev store_plan : ℕ → Plan
  store_plan prop = several (store_calls prop replicas) (added_as commit-numbers) decide_plan

  storing_on : (x : Memory) (prop boot : ℕ) → At x (f + 1) (f + 3) → block_count x ≡ b + 1 → Proposed f prop (prop_of leader boot w b) x
      → ((j : ℕ) → contains j replicas ≡ true → MayStore w (replica x j)) → (S → prop ≡ prop-number)
      → Decides S x (store_on x prop) leader b w (store_plan prop-number)
  storing_on x prop boot at blocks proposed may known =
      let room = at.room in
      let count = at.count in
      let made =
      all_made S (λ i. Store i prop) (storing w b) (commit_by w b) COMMIT (λ i r. refl) (MayStore w) (Proposed f prop (prop_of leader boot w b))
      (proposed_on f prop (prop_of leader boot w b)) (stores prop boot) replicas x at.formed proposed different
      (λ j among. (member x at.faults j among, may j among)) (omega arith) at.safe in
      let most = made.most in
      let length-log = made.log_length in
      let numbers : S → counting (certificate_count x) (length replicas) ≡ commit-numbers =
      λ s. let e : certificate_count x ≡ prop-number + 1 = (let n = count s in omega arith) in rw (e, size) refl in
      replanned (λ s. ap store_plan (known s))
      (all_asked S x leader b w decide_plan (store_calls prop replicas) (added_as commit-numbers) decide_on made.none_refused
      (λ s. (made.all_added s).answered ∙ ap added_as (numbers s))
      (deciding (run x (store_calls prop replicas)) (first_values x (store_calls prop replicas)) (replica x)
      (record {
        formed = made.formed;
        faults = made.faults ∙ at.faults;
        room = omega arith;
        safe = λ s. (made.all_added s).safe;
        count = λ s. let n = count s in let more = (made.all_added s).count in omega arith;
        older = λ s. let l = at.older s in let own = ap (λ (r : Replica). r.decided_view) (made.rows leader leading) in omega arith;
      })
      (made.block_count ∙ blocks) (values_length x (λ i. plain (Store i prop)) replicas ∙ size) made.issued made.certificates
      (λ s. values_added (made.all_added s).answered ∙ numbers s)))

  -- ---- one prepare

  -- The ACC of the leader stands under its number.
  record Accumulated (x : Memory) (acc p : ℕ) : Type 0 where
    issued : acc < certificate_count x
    kind : (certificate x acc).kind ≡ ACC
    signer : (certificate x acc).signer ≡ leader
    view : (certificate x acc).view ≡ w
    block : (certificate x acc).block ≡ p
    number : S → acc ≡ acc-number

  abbrev prepare_plan : ℕ → Plan
  prepare_plan acc = one (plain (Prepare leader b (Acc acc))) (accepted prop-number appended) (store_plan prop-number)

  preparing_on : (x : Memory) (acc p : ℕ) → At x (f + 2) (f + 2) → block_count x ≡ b + 1 → 1 ≤ b → parent x b ≡ p → Accumulated x acc p
      → ((j : ℕ) → contains j replicas ≡ true → Entered w (replica x j))
      → Decides S x (prepare_on acc x b) leader b w (prepare_plan acc-number)
  preparing_on x acc p at blocks positive on-it accumulated entered =
      let room = at.room in
      let count = at.count in
      let mine = entered leader leading in
      let faults = at.faults in
      let its_view = accumulated.view in
      let may = mine.limit in
      let made =
      prepare_issues S x leader at.formed (member x faults leader leading) (omega tests) at.safe b acc
      (record {
        issued = accumulated.issued;
        kind = accumulated.kind;
        signer = accumulated.signer;
        leader = rw (faults, its_view) leads-it;
        added = omega arith;
        other = omega arith;
        parent = on-it ∙ sym accumulated.block;
        status = mine.status;
        min_view = mine.min_view ∙ sym its_view;
        flag = mine.flag;
        limit = omega arith;
      }) in
      let y = (step x (Prepare leader b (Acc acc)) []).state in
      let a = made.acts in
      let next : S → certificate_count x ≡ prop-number = λ s. let n = count s in omega arith in
      replanned (λ s. ap prepare_plan (accumulated.number s))
      (asked S x leader b w (store_plan prop-number) (plain (Prepare leader b (Acc acc))) (accepted prop-number appended) store_on made.accepted
      (λ s. (made.adds s).answer ∙ ap (λ (n : ℕ). accepted n appended) (next s))
      (storing_on y _ (replica x leader).boot (at_next (f + 1) (f + 3) at made refl (omega arith) (omega arith))
      (a.blocks ∙ blocks)
      (record {
        faults = a.faults ∙ faults;
        issued = made.number;
        certificate = made.certificate ∙ ap (λ (v : ℕ). prop_of leader (replica x leader).boot v b) its_view;
      })
      (λ j among.
      let hers = entered j among in
      let at-w = hers.min_view in
      by-test (eqb j leader)
      (λ e.
      let q : j ≡ leader = omega tests in
      rw q (subst (MayStore w) (sym a.own) (record { status = mine.status; min_view = omega arith; limit = mine.limit })))
      (λ e.
      subst (MayStore w) (sym (a.others j (omega tests))) (record { status = hers.status; min_view = omega arith; limit = hers.limit })))
      (λ s. ap (λ (a : Answer). a.first) (made.adds s).answer ∙ next s)))

  -- ---- one block

  abbrev block_plan : ℕ → Plan
  block_plan p = one (plain (Block p)) (accepted b 0) (prepare_plan acc-number)

  adding_on : (x : Memory) (acc p : ℕ) → At x (f + 2) (f + 2) → block_count x ≡ b → block_at (b + 1) ≤ length x.blocks → Accumulated x acc p
      → ((j : ℕ) → contains j replicas ≡ true → Entered w (replica x j)) → Decides S x (block_on x acc) leader b w (block_plan p)
  unfolding certificate_formed
  adding_on x acc p at blocks room-for-it accumulated entered =
      let z = sizes x at.formed in
      let formed = each _ (at.formed.log acc accumulated.issued) in
      let q = (certificate x acc).block in
      let made = block_adds_one S x q at.formed (omega tests) (omega arith) at.safe in
      let y = (step x (Block q) []).state in
      let adds = made.adds in
      let count = adds.certificates in
      let counted = at.count in
      let room = at.room in
      let length-log : length y.log ≡ length x.log = ap length made.log in
      let number : (step x (Block q) []).answer ≡ accepted b 0 = made.answer ∙ ap (λ (n : ℕ). accepted n 0) blocks in
      let same : certificate y acc ≡ certificate x acc = adds.certificate acc in
      let more = made.count in
      let issued = accumulated.issued in
      replanned (λ s. ap block_plan accumulated.block)
      (asked S x leader b w (prepare_plan acc-number) (plain (Block q)) (accepted b 0) (prepare_on acc) (ap (λ (a : Answer). a.number) number)
      (λ s. number)
      (subst (λ (n : ℕ). Decides S y (prepare_on acc y n) leader b w (prepare_plan acc-number)) (sym (ap (λ (a : Answer). a.first) number))
      (preparing_on y acc p
      (record {
        formed = made.formed;
        faults = adds.faults ∙ at.faults;
        room = omega arith;
        safe = made.safe;
        count = λ s. count ∙ counted s;
        older = λ s. let l = at.older s in let own = ap (λ (r : Replica). r.decided_view) (adds.replica leader) in omega arith;
      })
      (omega arith) (omega arith) (rw blocks at made.parent ∙ accumulated.block)
      (record {
        issued = omega arith;
        kind = ap (λ (c : Certificate). c.kind) same ∙ accumulated.kind;
        signer = ap (λ (c : Certificate). c.signer) same ∙ accumulated.signer;
        view = ap (λ (c : Certificate). c.view) same ∙ accumulated.view;
        block = ap (λ (c : Certificate). c.block) same ∙ accumulated.block;
        number = accumulated.number;
      })
      (λ j among. subst (Entered w) (sym (adds.replica j)) (entered j among)))))

  -- ---- one accumulate

  abbrev accumulate_plan : List ℕ → ℕ → Plan
  accumulate_plan new_views p = one (Accumulate leader on new_views) (accepted acc-number appended) (block_plan p)

  accumulating_on : (x : Memory) (new_views : List ℕ) (row : ℕ → Replica)
      → (let cs = map (λ i. new_view_by w i (row i)) replicas in
      At x (f + 3) (f + 1) → block_count x ≡ b → block_at (b + 1) ≤ length x.blocks → length new_views ≡ f + 1 → all_issued x new_views ≡ true
      → certificates_of x new_views ≡ cs → ((j : ℕ) → contains j replicas ≡ true → Entered w (replica x j))
      → (S → new_views ≡ counting c (f + 1))
      → (S → (k : ℕ) → k < certificate_count x → (certificate x k).kind ≡ ACC → (certificate x k).view ≡ w
      → (certificate x k).of_view ≡ (greatest cs).of_view → ⊥)
      → Decides S x (accumulate_on x new_views) leader b w (accumulate_plan (counting c (f + 1)) (greatest cs).block))
  accumulating_on x new_views row at blocks room-for-it count issued is entered known new =
      let faults = at.faults in
      let counted = at.count in
      let room = at.room in
      let mine = entered leader leading in
      let made : ℕ → Certificate = λ i. new_view_by w i (row i) in
      let cs = map made replicas in
      let view = made_first made (λ c. c.view ≡ w) (λ i. refl) replicas (omega arith) in
      let its_view : (first_of (certificates_of x new_views)).view ≡ w = ap (λ (l : List Certificate). (first_of l).view) is ∙ view in
      let passes : (i : ℕ) → is_new_view_of w (made i) ≡ true = λ i. all-hold _ (omega tests) in
      let quorum : is_new_view_quorum (first_of (certificates_of x new_views)).view (certificates_of x new_views) ≡ true =
      rw (is, view) (made_quorum made (is_new_view_of w) passes (λ i. refl) replicas different) in
      let made =
      accumulate_issues S x leader at.formed (member x faults leader leading) (omega tests) at.safe new_views mine.status (omega tests)
      issued quorum
      (λ s k l e.
      new s k l (ap (λ (c : Certificate). c.kind) e) (ap (λ (c : Certificate). c.view) e ∙ its_view)
      (ap (λ (c : Certificate). c.of_view) e ∙ ap (λ (l : List Certificate). (greatest l).of_view) is)) in
      let y = (step x (Accumulate leader) new_views).state in
      let a = made.acts in
      let length-blocks = made.lengths.blocks in
      let next : S → certificate_count x ≡ acc-number = λ s. let n = counted s in omega arith in
      replanned (λ s. ap (λ (l : List ℕ). accumulate_plan l (greatest cs).block) (known s))
      (asked S x leader b w (block_plan (greatest cs).block) (Accumulate leader on new_views) (accepted acc-number appended) block_on made.accepted
      (λ s. (made.adds s).answer ∙ ap (λ (n : ℕ). accepted n appended) (next s))
      (adding_on y _ (greatest cs).block (at_next (f + 2) (f + 2) at made refl (omega arith) (omega arith))
      (a.blocks ∙ blocks) (omega arith)
      (record {
        issued = made.number;
        kind = ap (λ (c : Certificate). c.kind) made.certificate;
        signer = ap (λ (c : Certificate). c.signer) made.certificate;
        view = ap (λ (c : Certificate). c.view) made.certificate ∙ its_view;
        block = ap (λ (c : Certificate). c.block) made.certificate ∙ ap (λ (l : List Certificate). (greatest l).block) is;
        number = λ s. ap (λ (a : Answer). a.first) (made.adds s).answer ∙ next s;
      })
      (λ j among.
      by-test (eqb j leader)
      (λ e. let q : j ≡ leader = omega tests in rw q (subst (Entered w) (sym a.own) mine))
      (λ e. subst (Entered w) (sym (a.others j (omega tests))) (entered j among)))))

  -- ---- a view call per replica

  abbrev pub way_plan : (ℕ → Replica) → Plan
  way_plan row =
      several (view_calls w replicas) (added_as (counting c (f + 1)))
      (accumulate_plan (counting c (f + 1)) (greatest (map (λ i. new_view_by w i (row i)) replicas)).block)

  pub entering_on : (m : Memory) → Formed m → fault_bound m ≡ f → certificate_count m ≡ c → block_count m ≡ b → (S → Safe m)
      → (S → (replica m leader).decided_view < w)
      → certificate_at (c + decision_slots f) ≤ length m.log → block_at (b + 1) ≤ length m.blocks
      → ((j : ℕ) → contains j replicas ≡ true → CanEnter w (replica m j))
      → (let cs = map (λ i. new_view_by w i (replica m i)) replicas in
      (S → (k : ℕ) → k < c → (certificate m k).kind ≡ ACC → (certificate m k).view ≡ w → (certificate m k).of_view ≡ (greatest cs).of_view → ⊥)
      → Decides S m (ask_all m (view_calls w replicas) accumulate_on) leader b w (way_plan (replica m)))
  entering_on m h faults count blocks safe older room room-for-it can new =
      let made =
      all_made S (λ i. View i w) (entering w) (new_view_by w) NEWVIEW (λ i r. refl) (CanEnter w) (λ x. Unit {0}) (λ x x' i r c acts kept. tt)
      (λ x i h kept own can room safe. view_issues S x i h own room safe w can) replicas m h tt different
      (λ j among. (member m faults j among, can j among)) (omega arith) safe in
      let y = run m (view_calls w replicas) in
      let least = made.least in
      let most = made.most in
      let length-log = made.log_length in
      let length-blocks : length y.blocks ≡ length m.blocks = ap length made.blocks in
      let numbers : counting (certificate_count m) (length replicas) ≡ counting c (f + 1) = rw (count, size) refl in
      all_asked S m leader b w _ (view_calls w replicas) (added_as (counting c (f + 1))) accumulate_on made.none_refused
      (λ s. (made.all_added s).answered ∙ ap added_as numbers)
      (accumulating_on y (first_values m (view_calls w replicas)) (replica m)
      (record {
        formed = made.formed;
        faults = made.faults ∙ faults;
        room = omega arith;
        safe = λ s. (made.all_added s).safe;
        count = λ s. let more = (made.all_added s).count in omega arith;
        older = λ s. let l = older s in let own = ap (λ (r : Replica). r.decided_view) (made.rows leader leading) in omega arith;
      })
      (made.block_count ∙ blocks) (omega arith) (values_length m (λ i. plain (View i w)) replicas ∙ size) made.issued made.certificates
      (λ j among.
      let may = can j among in
      let ahead : is_ahead (replica m j) w ≡ true = (let l = may.min_view in omega tests) in
      subst (Entered w) (sym (made.rows j among))
      (record { status = may.status; min_view = refl; flag = rw ahead refl; limit = may.limit }))
      (λ s. values_added (made.all_added s).answered ∙ numbers)
      (λ s k l kind view of_view.
      by-test (ltb k (certificate_count m))
      (λ e.
      let same = made.old k (omega tests) in
      new s k (omega tests) (sym (ap (λ (c : Certificate). c.kind) same) ∙ kind) (sym (ap (λ (c : Certificate). c.view) same) ∙ view)
      (sym (ap (λ (c : Certificate). c.of_view) same) ∙ of_view))
      (λ e. let other = made.new k (omega tests) l in omega arith)))
