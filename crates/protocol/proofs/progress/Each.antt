-- A call by each of some different replicas, one after the other: a View or a Store. One argument serves both.
use Prim.Native.Nat.{ℕ, ◌+◌, ◌≤◌, ◌<◌}
use mathlib.Core.Path.{◌≡◌, refl, sym, ap, ◌∙◌, subst}
use mathlib.Core.Bool.{Bool, true, false, or-true, false≢true}
use mathlib.Core.List.{List, [], ◌∷◌, map}
use native.Mathlib.Omega.{arith}
use lib.ListN.{length}
use lib.Dec.{ltb, eqb}
use Rattle.protocol.specs.declared.Call.{Call}
use Rattle.protocol.specs.Memory.{Memory, Replica, Certificate, fault_bound, certificate_count, block_count, replica, certificate_at}
use Rattle.protocol.specs.Memory.{certificate}
use Rattle.protocol.specs.Certificates.{log_has_room}
use Rattle.protocol.specs.Quorum.{every, contains, distinct, is_issued, all_issued, certificates_of}
use Rattle.protocol.specs.FirstNeeds.{is_replica}
use Rattle.protocol.specs.Runs.{Invocation, plain, step, run, answers}
use Rattle.protocol.specs.WayOn.{first_values, is_accepted, counting, added_as}
use Rattle.protocol.proofs.logic.Booleans.{tests, by-test, and-true, or-false, true_and}
use Rattle.protocol.proofs.memory.Formed.{Formed}
use Rattle.protocol.proofs.agreement.Meeting.{AllBelow, apart}
use Rattle.protocol.proofs.agreement.Safety.{Safe}
use Rattle.protocol.proofs.agreement.Acts.{Acts}
use Rattle.protocol.proofs.progress.Issues.{Issues}

-- A member of a list is its first, or one of the others.
pub here : (x : ℕ) (xs : List ℕ) → contains x (x ∷ xs) ≡ true
unfolding contains
here x xs = let e : eqb x x ≡ true = omega tests in rw e refl

pub later : (x y : ℕ) (xs : List ℕ) → contains y xs ≡ true → contains y (x ∷ xs) ≡ true
unfolding contains
later x y xs e = rw e (or-true (eqb y x))

-- A test of every number of a list, at one of them.
pub every_member : (test : ℕ → Bool) (xs : List ℕ) → every test xs ≡ true → (x : ℕ) → contains x xs ≡ true → test x ≡ true
unfolding every contains
every_member test [] e x among = cc
every_member test (y ∷ ys) e x among =
    let both = and-true (test y) (every test ys) e in
    by-test (eqb x y) (λ same. let q : x ≡ y = omega tests in rw q both.0)
    (λ other. every_member test ys both.1 x (rw other at among))

pub all-below : (n : ℕ) (xs : List ℕ) → ((x : ℕ) → contains x xs ≡ true → x < n) → AllBelow n xs
all-below n [] h = tt
all-below n (x ∷ xs) h = (h x (here x xs), all-below n xs (λ y e. h y (later x y xs e)))

-- Two functions that agree on a list's members give the same list.
pub map_same : {A : Type 0} (f g : ℕ → A) (xs : List ℕ) → ((x : ℕ) → contains x xs ≡ true → f x ≡ g x) → map f xs ≡ map g xs
map_same f g [] same = refl
map_same f g (x ∷ xs) same = λ d. same x (here x xs) d ∷ map_same f g xs (λ y e. same y (later x y xs e)) d

module _
    -- What each does: its call, what becomes of its words, what it issues, and of which kind that is.
    (S : Type 0) (call : ℕ → Call) (to : Replica → Replica) (of : ℕ → Replica → Certificate) (kind : ℕ)
    (of-kind : (i : ℕ) (r : Replica) → (of i r).kind ≡ kind)
    -- What it needs, of its own words and of the memory; other replicas' calls leave both.
    (Ready : Replica → Type 0) (Kept : Memory → Type 0)
    (keeps : (x x' : Memory) (i : ℕ) (r : Replica) (c : Certificate) → Acts x x' i r c → Kept x → Kept x')
    (issues : (x : Memory) (i : ℕ) → Formed x → Kept x → is_replica x i ≡ true → Ready (replica x i) → log_has_room x ≡ true → (S → Safe x)
    → Issues S x (step x (call i) []) i (to (replica x i)) (of i (replica x i)))
  where
    abbrev calls : List ℕ → List Invocation
    calls replicas = map (λ i. plain (call i)) replicas

    -- Every certificate is added.
    pub record AllAdded (x : Memory) (replicas : List ℕ) : Type 0 where
      pub safe : Safe (run x (calls replicas))
      pub answered : answers x (calls replicas) ≡ added_as (counting (certificate_count x) (length replicas))
      pub count : certificate_count (run x (calls replicas)) ≡ certificate_count x + length replicas

    pub record AllMade (x : Memory) (replicas : List ℕ) : Type 0 where
      pub none_refused : every is_accepted (answers x (calls replicas)) ≡ true
      pub formed : Formed (run x (calls replicas))
      pub kept : Kept (run x (calls replicas))
      pub faults : fault_bound (run x (calls replicas)) ≡ fault_bound x
      pub block_count : block_count (run x (calls replicas)) ≡ block_count x
      pub blocks : (run x (calls replicas)).blocks ≡ x.blocks
      pub log_length : length (run x (calls replicas)).log ≡ length x.log
      pub least : certificate_count x ≤ certificate_count (run x (calls replicas))
      pub most : certificate_count (run x (calls replicas)) ≤ certificate_count x + length replicas
      pub old : (k : ℕ) → k < certificate_count x → certificate (run x (calls replicas)) k ≡ certificate x k
      pub new : (k : ℕ) → certificate_count x ≤ k → k < certificate_count (run x (calls replicas))
          → (certificate (run x (calls replicas)) k).kind ≡ kind
      pub rows : (j : ℕ) → contains j replicas ≡ true → replica (run x (calls replicas)) j ≡ to (replica x j)
      pub others : (j : ℕ) → contains j replicas ≡ false → replica (run x (calls replicas)) j ≡ replica x j
      pub issued : all_issued (run x (calls replicas)) (first_values x (calls replicas)) ≡ true
      pub certificates :
          certificates_of (run x (calls replicas)) (first_values x (calls replicas)) ≡ map (λ i. of i (replica x i)) replicas
      pub all_added : S → AllAdded x replicas

    pub all_made : (replicas : List ℕ) (x : Memory) → Formed x → Kept x → distinct replicas ≡ true
        → ((j : ℕ) → contains j replicas ≡ true → (is_replica x j ≡ true) × Ready (replica x j))
        → certificate_at (certificate_count x + length replicas) ≤ length x.log → (S → Safe x) → AllMade x replicas
    unfolding run answers every contains counting
    all_made [] x h kept different each room safe =
        record {
          none_refused = refl;
          formed = h;
          kept = kept;
          faults = refl;
          block_count = refl;
          blocks = refl;
          log_length = refl;
          least = omega arith;
          most = omega arith;
          old = λ k l. refl;
          new = λ k a b. absurd (omega arith);
          rows = λ j e. cc;
          others = λ j e. refl;
          issued = refl;
          certificates = refl;
          all_added = λ s. record { safe = safe s; answered = refl; count = omega arith };
        }
    all_made (i ∷ rest) x h kept different each room safe =
        let mine = each i (here i rest) in
        let x₁ = (step x (call i) []).state in
        let one = issues x i h kept mine.0 mine.1 (omega tests) safe in
        let a = one.acts in
        let other = apart i rest different in
        let size = one.lengths.log in
        let most = one.most in
        let grows = a.files.grows in
        let faults = a.faults in
        -- the others come after it, with their words as they were
        let stays : (j : ℕ) → contains j rest ≡ true → replica x₁ j ≡ replica x j = λ j e.
        a.others j (λ same. false≢true (sym other.0 ∙ subst (λ (k : ℕ). contains k rest ≡ true) same e)) in
        let more =
        all_made rest x₁ one.formed (keeps x x₁ i _ _ a kept) other.1
        (λ j e.
        let hers = each j (later i j rest e) in
        (omega tests, subst Ready (sym (stays j e)) hers.1))
        (omega arith) (λ s. (one.adds s).safe) in
        let further = more.least in
        let most-more = more.most in
        let size-more = more.log_length in
        let accepted = one.accepted in
        let number = one.number in
        record {
          none_refused = (let taken : is_accepted (step x (call i) []).answer ≡ true = omega tests in true_and taken more.none_refused);
          formed = more.formed;
          kept = more.kept;
          faults = more.faults ∙ a.faults;
          block_count = more.block_count ∙ a.blocks;
          blocks = more.blocks ∙ a.parents;
          log_length = omega arith;
          least = omega arith;
          most = omega arith;
          old = λ k l. more.old k (omega arith) ∙ a.files.old k l;
          new =
              λ k above below.
              by-test (ltb k (certificate_count x₁))
              (λ e.
              ap (λ (c : Certificate). c.kind) (more.old k (omega tests) ∙ a.files.new k above (omega tests))
              ∙ of-kind i (replica x i))
              (λ e. more.new k (omega tests) below);
          rows =
              λ j e.
              by-test (eqb j i)
              (λ own. let q : j ≡ i = omega tests in rw q (more.others i other.0 ∙ a.own))
              (λ not_own. let among = rw not_own at e in more.rows j among ∙ ap to (stays j among));
          others =
              λ j e.
              let neither = or-false (eqb j i) (contains j rest) e in
              more.others j neither.1 ∙ a.others j (omega tests);
          issued =
              (let mine : is_issued (run x₁ (calls rest)) (step x (call i) []).answer.first ≡ true = omega tests in true_and mine more.issued);
          certificates =
              (let first = more.old _ one.number ∙ one.certificate in
              let same =
              map_same (λ j. of j (replica x₁ j)) (λ j. of j (replica x j)) rest (λ j e. ap (of j) (stays j e)) in
              λ d. first d ∷ (more.certificates ∙ same) d);
          all_added =
              λ s.
              let added = one.adds s in
              let all = more.all_added s in
              let count = added.count in
              let count-more = all.count in
              record {
                safe = all.safe;
                answered = λ d. added.answer d ∷ (all.answered ∙ ap (λ (c : ℕ). added_as (counting c (length rest))) count) d;
                count = omega arith;
              };
        }
