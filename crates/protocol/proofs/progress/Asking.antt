-- Calls that are made one after the other, each with the numbers that the earlier ones were answered with.
use Prim.Native.Nat.{ℕ}
use mathlib.Core.Path.{◌≡◌, refl, sym, ap, ◌∙◌}
use mathlib.Core.Bool.{Bool, true}
use mathlib.Core.List.{List, [], ◌∷◌, ◌++◌, map, append_assoc}
use native.Mathlib.Omega.{arith}
use lib.ListN.{length, length-map}
use Rattle.protocol.specs.Memory.{Memory, certificate_count, block_count, replica}
use Rattle.protocol.specs.Quorum.{every}
use Rattle.protocol.specs.Outcome.{Answer, accepted}
use Rattle.protocol.specs.Runs.{Invocation, invoked, run, answers}
use Rattle.protocol.specs.Theorems.{Accepted}
use Rattle.protocol.specs.WayOn.{ask, first_values, ask_all, is_accepted, added_as}
use Rattle.protocol.proofs.logic.Booleans.{tests, true_and, and-true}

-- ---- two lists of calls, one after the other

pub run_on : (m : Memory) (first then : List Invocation) → run m (first ++ then) ≡ run (run m first) then
unfolding run
run_on m [] then = refl
run_on m (q ∷ first) then = run_on (invoked m q).state first then

pub answers-on : (m : Memory) (first then : List Invocation) → answers m (first ++ then) ≡ answers m first ++ answers (run m first) then
unfolding run answers
answers-on m [] then = refl
answers-on m (q ∷ first) then = ap (λ rest. (invoked m q).answer ∷ rest) (answers-on (invoked m q).state first then)

pub length_answers : (m : Memory) (calls : List Invocation) → length (answers m calls) ≡ length calls
unfolding answers
length_answers m [] = refl
length_answers m (q ∷ calls) = let rest = length_answers (invoked m q).state calls in omega arith

-- The first values of calls: as many as calls, and the numbers where all are added.
pub values_length : (x : Memory) (call : ℕ → Invocation) (replicas : List ℕ) → length (first_values x (map call replicas)) ≡ length replicas
values_length x call replicas =
    length-map (answers x (map call replicas)) (λ a. a.first) ∙ length_answers x (map call replicas) ∙ length-map replicas call

first_added : (numbers : List ℕ) → map (λ (a : Answer). a.first) (added_as numbers) ≡ numbers
first_added [] = refl
first_added (n ∷ numbers) = ap (λ rest. n ∷ rest) (first_added numbers)

pub values_added : {given : List Answer} {numbers : List ℕ} → given ≡ added_as numbers → map (λ (a : Answer). a.first) given ≡ numbers
values_added {given} {numbers} e = ap (map (λ (a : Answer). a.first)) e ∙ first_added numbers

pub every_joined : {A : Type 0} (test : A → Bool) (xs ys : List A) → every test xs ≡ true → every test ys ≡ true
    → every test (xs ++ ys) ≡ true
unfolding every
every_joined test [] ys e f = f
every_joined test (x ∷ xs) ys e f =
    let both = and-true (test x) (every test xs) e in
    true_and both.0 (every_joined test xs ys both.1 f)

-- ---- calls that end in a decision

-- What is known before the first call is made: the calls, their answers, and how many certificates and blocks there are in the end.
pub record Plan : Type 0 where
  pub calls : List Invocation
  pub answers : List Answer
  pub certificates : ℕ
  pub blocks : ℕ

-- None of the calls is refused, and the last is answered with block b and view w. Where S holds, which says where the calls begin, they go by
-- a plan, and replica i shows block b then.
pub record Decides (S : Type 0) (m : Memory) (calls : List Invocation) (i b w : ℕ) (plan : Plan) : Type 0 where
  pub none_refused : every is_accepted (answers m calls) ≡ true
  pub before : List Answer
  pub decision : answers m calls ≡ before ++ (accepted b w ∷ [])
  pub known : S → calls ≡ plan.calls
  pub answered : S → answers m calls ≡ plan.answers
  pub certificates : S → certificate_count (run m calls) ≡ plan.certificates
  pub blocks : S → block_count (run m calls) ≡ plan.blocks
  pub decided_view : S → (replica (run m calls) i).decided_view ≡ w
  pub decided_block : S → (replica (run m calls) i).decided_block ≡ b

-- A plan with a call, and with some calls, before it.
abbrev pub one : Invocation → Answer → Plan → Plan
one q a plan =
    record { calls = q ∷ plan.calls; answers = a ∷ plan.answers; certificates = plan.certificates; blocks = plan.blocks }

abbrev pub several : List Invocation → List Answer → Plan → Plan
several qs told plan =
    record { calls = qs ++ plan.calls; answers = told ++ plan.answers; certificates = plan.certificates; blocks = plan.blocks }

module _ (S : Type 0) (m : Memory) (i b w : ℕ) (plan : Plan) where
  pub asked : (q : Invocation) (a : Answer) (rest : Memory → ℕ → List Invocation) → Accepted (invoked m q) → (S → (invoked m q).answer ≡ a)
      → Decides S (invoked m q).state (rest (invoked m q).state (invoked m q).answer.first) i b w plan
      → Decides S m (ask m q rest) i b w (one q a plan)
  unfolding every answers run
  asked q a rest taken told on =
      record {
        none_refused = (let here : is_accepted (invoked m q).answer ≡ true = omega tests in true_and here on.none_refused);
        before = (invoked m q).answer ∷ on.before;
        decision = ap (λ rest. (invoked m q).answer ∷ rest) on.decision;
        known = λ s. ap (λ qs. q ∷ qs) (on.known s);
        answered = λ s. ap (λ rest. (invoked m q).answer ∷ rest) (on.answered s) ∙ ap (λ first. first ∷ plan.answers) (told s);
        certificates = on.certificates;
        blocks = on.blocks;
        decided_view = on.decided_view;
        decided_block = on.decided_block;
      }

  pub all_asked : (qs : List Invocation) (known : List Answer) (rest : Memory → List ℕ → List Invocation)
      → every is_accepted (answers m qs) ≡ true → (S → answers m qs ≡ known)
      → Decides S (run m qs) (rest (run m qs) (first_values m qs)) i b w plan
      → Decides S m (ask_all m qs rest) i b w (several qs known plan)
  all_asked qs known rest taken told on =
      let after = rest (run m qs) (first_values m qs) in
      let both = answers-on m qs after in
      record {
        none_refused = rw both (every_joined is_accepted (answers m qs) _ taken on.none_refused);
        before = answers m qs ++ on.before;
        decision = both ∙ ap (λ more. answers m qs ++ more) on.decision ∙ sym (append_assoc (answers m qs) on.before _);
        known = λ s. ap (λ more. qs ++ more) (on.known s);
        answered = λ s. both ∙ ap (λ more. answers m qs ++ more) (on.answered s) ∙ ap (λ first. first ++ plan.answers) (told s);
        certificates = λ s. ap certificate_count (run_on m qs after) ∙ on.certificates s;
        blocks = λ s. ap block_count (run_on m qs after) ∙ on.blocks s;
        decided_view = λ s. ap (λ (x : Memory). (replica x i).decided_view) (run_on m qs after) ∙ on.decided_view s;
        decided_block = λ s. ap (λ (x : Memory). (replica x i).decided_block) (run_on m qs after) ∙ on.decided_block s;
      }

-- Two plans that are equal where S holds.
pub replanned : {S : Type 0} {m : Memory} {calls : List Invocation} {i b w : ℕ} {plan plan' : Plan} → (S → plan ≡ plan')
    → Decides S m calls i b w plan → Decides S m calls i b w plan'
replanned same on =
    record {
      none_refused = on.none_refused;
      before = on.before;
      decision = on.decision;
      known = λ s. on.known s ∙ ap (λ (p : Plan). p.calls) (same s);
      answered = λ s. on.answered s ∙ ap (λ (p : Plan). p.answers) (same s);
      certificates = λ s. on.certificates s ∙ ap (λ (p : Plan). p.certificates) (same s);
      blocks = λ s. on.blocks s ∙ ap (λ (p : Plan). p.blocks) (same s);
      decided_view = on.decided_view;
      decided_block = on.decided_block;
    }
