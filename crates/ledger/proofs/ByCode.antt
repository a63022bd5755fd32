-- Calls by their codes: the theorems that specs/ByCode.antt states.
use Prim.Native.Nat.{ℕ}
use mathlib.Core.Path.{◌≡◌, refl, ap, ◌∙◌}
use mathlib.Core.Bool.{Bool, true}
use mathlib.Core.List.{List, [], ◌∷◌, map}
use lib.ListN.{length}
use Rattle.protocol.specs.declared.Call.{Call}
use Rattle.protocol.specs.declared.Call.TheVariants.{Open, Block, Prepare, Store, View, Accumulate, Decide, Reboot, Reserve, Request}
use Rattle.protocol.specs.declared.Call.TheVariants.{Reply, Recover}
use Rattle.protocol.specs.declared.Justification.TheVariants.{Acc, Commits}
use Rattle.protocol.specs.Memory.{Memory}
use Rattle.protocol.specs.Form.{well_formed}
use Rattle.protocol.specs.Quorum.{every}
use Rattle.protocol.specs.Outcome.{Answer, Outcome}
use Rattle.protocol.specs.Calls.{prepare}
use Rattle.protocol.specs.Runs.{Invocation, plain, ◌on◌, rule_of, step, run, answers}
use Rattle.protocol.specs.WayOn.{can_all_enter, can_decide, view_calls, store_calls, way_on}
use Rattle.protocol.proofs.logic.Booleans.{tests, and-true, true_and, each}
use Rattle.protocol.proofs.memory.Formed.{formed, sizes}
use Rattle.protocol.proofs.progress.Asking.{values_length, every_joined}
use Rattle.codes.specs.Codes.{when, code_table}
use Rattle.ledger.specs.Called.{called_by, called}
use Rattle.ledger.specs.Coding.{by_code, coded}
use Rattle.ledger.specs.ByCode.{called_as, run_by_code, answers_by_code, is_told, told_by_code, CodesMakeCalls, CodesGoOn}

-- ---- one call

pub same_call : (m : Memory) (call : Call) (list : List ℕ) → is_told call list ≡ true → called_as m (by_code call list) ≡ step m call list
unfolding is_told by_code called called_by code_table when step rule_of prepare
same_call m (Open f) list e = rw e refl
same_call m (Block p) list e = refl
same_call m (Prepare i b (Acc number)) list e = refl
same_call m (Prepare i b (Commits view block)) list e = cc
same_call m (Store i number) list e = refl
same_call m (View i w) list e = refl
same_call m (Accumulate i) list e = rw e refl
same_call m (Decide i) list e = rw e refl
same_call m (Reboot i) list e = refl
same_call m (Reserve i) list e = refl
same_call m (Request i) list e = refl
same_call m (Reply i number) list e = refl
same_call m (Recover i) list e = rw e refl

-- ---- lists of calls

pub codes-make-calls : CodesMakeCalls
unfolding CodesMakeCalls every answers_by_code run_by_code answers run
codes-make-calls m [] e = record { answered = refl; left = refl }
codes-make-calls m (q ∷ qs) e =
    let both = and-true (told_by_code q) (every told_by_code qs) e in
    let o = step m q.call q.list in
    let same = same_call m q.call q.list both.0 in
    let rest = codes-make-calls o.state qs both.1 in
    record {
      answered = rw same (ap (λ (l : List Answer). o.answer ∷ l) rest.answered);
      left = ap (λ (x : Outcome). run_by_code x.state (map coded qs)) same ∙ rest.left;
    }

-- ---- the way on

every_map : {A B : Type 0} (test : A → Bool) (f : B → A) (xs : List B) → ((x : B) → test (f x) ≡ true) → every test (map f xs) ≡ true
unfolding every
every_map test f [] h = refl
every_map test f (x ∷ xs) h = true_and (h x) (every_map test f xs h)

-- A test that holds of calls of each kind that the way on has, whatever their numbers and with lists as long as that of the replicas.
pub record OfEachKind (test : Invocation → Bool) (size : ℕ) : Type 0 where
  pub view : (i w : ℕ) → test (plain (View i w)) ≡ true
  pub accumulate : (i : ℕ) (list : List ℕ) → length list ≡ size → test (Accumulate i on list) ≡ true
  pub block : (p : ℕ) → test (plain (Block p)) ≡ true
  pub prepare : (i b number : ℕ) → test (plain (Prepare i b (Acc number))) ≡ true
  pub store : (i number : ℕ) → test (plain (Store i number)) ≡ true
  pub decide : (i : ℕ) (list : List ℕ) → length list ≡ size → test (Decide i on list) ≡ true

pub every_way_on : (test : Invocation → Bool) (m : Memory) (replicas : List ℕ) (w : ℕ) → OfEachKind test (length replicas)
    → every test (way_on m replicas w) ≡ true
unfolding way_on every
every_way_on test m replicas w kinds =
    every_joined test (view_calls w replicas) _ (every_map test _ replicas (λ i. kinds.view i w))
    (true_and (kinds.accumulate _ _ (values_length m _ replicas))
    (true_and (kinds.block _)
    (true_and (kinds.prepare _ _ _)
    (every_joined test (store_calls _ replicas) _ (every_map test _ replicas (λ i. kinds.store i _))
    (true_and (kinds.decide _ _ (values_length _ _ replicas)) refl)))))

-- "“List” is f+1 certificate numbers", and f is at most 30.
pub told_kinds : (m : Memory) (replicas : List ℕ) (w : ℕ) → well_formed m ≡ true → can_decide m replicas w ≡ true
    → OfEachKind told_by_code (length replicas)
unfolding can_decide can_all_enter is_told
told_kinds m replicas w form can =
    let s = sizes m (formed m form) in
    let size = (each _ (each _ can).0).0 in
    record {
      view = λ i w. refl;
      accumulate = λ i list e. omega tests;
      block = λ p. refl;
      prepare = λ i b number. refl;
      store = λ i number. refl;
      decide = λ i list e. omega tests;
    }

pub codes-go-on : CodesGoOn
unfolding CodesGoOn CodesMakeCalls
codes-go-on m replicas w form can =
    codes-make-calls m (way_on m replicas w) (every_way_on told_by_code m replicas w (told_kinds m replicas w form can))
