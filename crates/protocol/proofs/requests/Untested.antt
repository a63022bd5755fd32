-- No call tests the boot of a certificate's signer.
use Prim.Native.Nat.{ℕ, zero, suc}
use mathlib.Core.Path.{◌≡◌, refl, sym, ap, ◌∙◌, subst}
use mathlib.Core.Bool.{Bool, true, false, cond, false≢true}
use mathlib.Core.Logic.{◌≢◌}
use mathlib.Core.List.{List, [], ◌∷◌, ◌++◌}
use lib.Dec.{ltb, eqb}
use Rattle.protocol.specs.declared.Call.{Call}
use Rattle.protocol.specs.declared.Call.TheVariants.{Open, Block, Prepare, Store, View, Accumulate, Decide, Reboot}
use Rattle.protocol.specs.declared.Call.TheVariants.{Reserve, Request, Reply, Recover}
use Rattle.protocol.specs.declared.Justification.{Justification}
use Rattle.protocol.specs.declared.Justification.TheVariants.{Acc, Commits}
use Rattle.protocol.specs.Memory.{Memory, memory, Certificate, Assignment, replica_count, replica, certificate_word, certificate}
use Rattle.protocol.specs.Memory.{words, kind_at, signer_at, view_at, proposed_block_at, of_view_at, subject_at, subject_boot_at, signer_boot_at}
use Rattle.protocol.specs.Memory.{update}
use Rattle.protocol.specs.Memory.{append_block}
use Rattle.protocol.specs.Form.{lengths_fit}
use Rattle.protocol.specs.Counter.{counter_step}
use Rattle.protocol.specs.Certificates.{can_file}
use Rattle.protocol.specs.Quorum.{every, certificates_of, first_of, signers, is_quorum, is_commit_of, is_new_view_of, is_reply_to, is_greater}
use Rattle.protocol.specs.Quorum.{greatest_from, greatest}
use Rattle.protocol.specs.Outcome.{Outcome, Need, ◌else◌, Rule, first_refusal, answered, follow, no_room}
use Rattle.protocol.specs.Calls.{issuing, opening, block, prepare, store, view, accumulate, decide, reboot, reserve, request, reply}
use Rattle.protocol.specs.Calls.{recover, fresh_replicas}
use Rattle.protocol.specs.Runs.{rule_of, step}
use Rattle.protocol.specs.Repeats.{is_issuing}
use Rattle.protocol.specs.Cuts.{OtherBoots, SameVerdict, BootsUntested}
use Rattle.protocol.proofs.logic.Booleans.{tests, by-test}
use Rattle.protocol.proofs.calls.Needs.{refused_first, returned}
use Rattle.protocol.proofs.memory.Alike.{twin}
use Rattle.protocol.proofs.requests.Repeats.{by_issuing}

-- ---- lists of needs: the last, 9, apart

-- Two lists of needs that are equal but for a need at the end that refuses with 9.
data Tests : List Need → List Need → Type 0 where
  equal : (ns : List Need) → Tests ns ns
  slots : (ns : List Need) (t t' : Bool) → Tests (ns ++ (t else no_room ∷ [])) (ns ++ (t' else no_room ∷ []))

-- A list that passes refuses with the need at its end, or not at all.
at_end : (ns : List Need) (t : Bool) → first_refusal ns ≡ 0 → first_refusal (ns ++ (t else no_room ∷ [])) ≢ 0
    → first_refusal (ns ++ (t else no_room ∷ [])) ≡ no_room
unfolding first_refusal
at_end [] true e refused = absurd (refused refl)
at_end [] false e refused = refl
at_end ((true else n) ∷ ns) t e refused = at_end ns t e refused
at_end ((false else n) ∷ ns) t e refused = absurd (refused e)

refused_alike : (ns ns' : List Need) → Tests ns ns' → first_refusal ns ≢ 0 → first_refusal ns ≢ no_room → first_refusal ns' ≡ first_refusal ns
refused_alike ns ns' (equal _) refused other = refl
refused_alike ns ns' (slots ms t t') refused other =
    by-test (eqb (first_refusal ms) 0) (λ e. absurd (other (at_end ms t (omega tests) refused)))
    (λ e.
    let fails : first_refusal ms ≢ 0 = omega tests in
    refused_first ms (t' else no_room ∷ []) fails ∙ sym (refused_first ms (t else no_room ∷ []) fails))

-- ---- the calls

module _ (m : Memory) (l : List ℕ) (o : OtherBoots m (twin m l m.blocks)) where
  abbrev m' : Memory
  m' = twin m l m.blocks

  word : (c k : ℕ) → ltb k signer_boot_at ≡ true → certificate_word m c k ≡ certificate_word m' c k
  word c k h = o.words c k (omega tests)

  every_same : (test : Certificate → Bool) → ((c : ℕ) → test (certificate m c) ≡ test (certificate m' c)) → (list : List ℕ)
      → every test (certificates_of m list) ≡ every test (certificates_of m' list)
  unfolding every
  every_same test same [] = refl
  every_same test same (x ∷ xs) = rw (same x, every_same test same xs) refl

  signers_same : (list : List ℕ) → signers (certificates_of m list) ≡ signers (certificates_of m' list)
  signers_same [] = refl
  signers_same (x ∷ xs) = λ d. word x signer_at refl d ∷ signers_same xs d

  quorum_same : (test : Certificate → Bool) → ((c : ℕ) → test (certificate m c) ≡ test (certificate m' c)) → (list : List ℕ)
      → is_quorum test (certificates_of m list) ≡ is_quorum test (certificates_of m' list)
  unfolding is_quorum
  quorum_same test same list = rw (every_same test same list, signers_same list) refl

  commits_same : (v b : ℕ) (list : List ℕ)
      → is_quorum (is_commit_of v b) (certificates_of m list) ≡ is_quorum (is_commit_of v b) (certificates_of m' list)
  commits_same v b = quorum_same (is_commit_of v b) (λ c. rw (word c kind_at refl, word c view_at refl, word c proposed_block_at refl) refl)

  new_views_same : (v : ℕ) (list : List ℕ)
      → is_quorum (is_new_view_of v) (certificates_of m list) ≡ is_quorum (is_new_view_of v) (certificates_of m' list)
  new_views_same v = quorum_same (is_new_view_of v) (λ c. rw (word c kind_at refl, word c view_at refl) refl)

  replies_same : (i boot v : ℕ) (list : List ℕ)
      → is_quorum (is_reply_to i boot v) (certificates_of m list) ≡ is_quorum (is_reply_to i boot v) (certificates_of m' list)
  replies_same i boot v =
      quorum_same (is_reply_to i boot v)
      (λ c.
      rw (word c kind_at refl, word c subject_at refl, word c subject_boot_at refl, word c view_at refl, word c signer_at refl) refl)

  -- What is read of the first and of the greatest of a list.
  record SameRead (c c' : Certificate) : Type 0 where
    view : c.view ≡ c'.view
    block : c.block ≡ c'.block
    of_view : c.of_view ≡ c'.of_view

  read_same : (c : ℕ) → SameRead (certificate m c) (certificate m' c)
  read_same c = record { view = word c view_at refl; block = word c proposed_block_at refl; of_view = word c of_view_at refl }

  first_same : (list : List ℕ) → SameRead (first_of (certificates_of m list)) (first_of (certificates_of m' list))
  first_same [] = record { view = refl; block = refl; of_view = refl }
  first_same (x ∷ xs) = read_same x

  chosen_same : (t t' : Bool) (a b a' b' : Certificate) → t ≡ t' → SameRead a a' → SameRead b b' → SameRead (cond t a b) (cond t' a' b')
  chosen_same true true a b a' b' e p q = p
  chosen_same true false a b a' b' e p q = absurd (false≢true (sym e))
  chosen_same false true a b a' b' e p q = absurd (false≢true e)
  chosen_same false false a b a' b' e p q = q

  greatest-from : (list : List ℕ) (best best' : Certificate) → SameRead best best'
      → SameRead (greatest_from best (certificates_of m list)) (greatest_from best' (certificates_of m' list))
  unfolding greatest_from
  greatest-from [] best best' same = same
  greatest-from (x ∷ xs) best best' same =
      let c = certificate m x in
      let c' = certificate m' x in
      let its = read_same x in
      let later : is_greater c best ≡ is_greater c' best' = (rw (same.of_view, its.of_view) refl) in
      greatest-from xs _ _ (chosen_same (is_greater c best) (is_greater c' best') c best c' best' later its same)

  greatest_same : (list : List ℕ) → SameRead (greatest (certificates_of m list)) (greatest (certificates_of m' list))
  greatest_same list = greatest-from list _ _ (first_same list)

  -- Two issuing rules whose own needs are equal.
  issuing_tests : (ns ns' : List Need) (i : ℕ) (cs cs' : List Assignment) (c c' : Certificate) → ns ≡ ns'
      → Tests (issuing m ns i cs c).needs (issuing m' ns' i cs' c').needs
  unfolding issuing
  issuing_tests ns ns' i cs cs' c c' e = rw e (slots ns' (can_file m (words c)) (can_file m' (words c')))

  prepare_tests : (i b : ℕ) (j : Justification) (list : List ℕ) → Tests (prepare m i b j list).needs (prepare m' i b j list).needs
  unfolding prepare
  prepare_tests i b (Acc number) list =
      let acc = read_same number in
      issuing_tests _ _ i _ _ _ _
      (rw (o.form, word number kind_at refl, word number signer_at refl, acc.view, acc.block) refl)
  prepare_tests i b (Commits v x) list = issuing_tests _ _ i _ _ _ _ (rw (o.form, commits_same v x list) refl)

  store_tests : (i number : ℕ) → Tests (store m i number).needs (store m' i number).needs
  unfolding store
  store_tests i number =
      issuing_tests _ _ i _ _ _ _ (rw (o.form, word number kind_at refl, word number signer_at refl, word number view_at refl) refl)

  view_tests : (i w : ℕ) → Tests (view m i w).needs (view m' i w).needs
  unfolding view
  view_tests i w = issuing_tests _ _ i _ _ _ _ (rw o.form refl)

  accumulate_tests : (i : ℕ) (list : List ℕ) → Tests (accumulate m i list).needs (accumulate m' i list).needs
  unfolding accumulate
  accumulate_tests i list =
      issuing_tests _ _ i _ _ _ _
      (rw (o.form, (first_same list).view, new_views_same (first_of (certificates_of m' list)).view list) refl)

  request_tests : (i : ℕ) → Tests (request m i).needs (request m' i).needs
  unfolding request
  request_tests i = issuing_tests _ _ i _ _ _ _ (rw o.form refl)

  reply_tests : (i number : ℕ) → Tests (reply m i number).needs (reply m' i number).needs
  unfolding reply
  reply_tests i number =
      issuing_tests _ _ i _ _ _ _ (rw (o.form, word number kind_at refl, word number signer_at refl, word number view_at refl) refl)

  -- ---- a call that issues nothing: the whole rule

  record SameRule (r r' : Rule) : Type 0 where
    needs : r.needs ≡ r'.needs
    first : r.first ≡ r'.first
    second : r.second ≡ r'.second
    table : r.after.table ≡ r'.after.table

  fresh_table : (x y : Memory) → x.table ≡ y.table → (limit k : ℕ) → (fresh_replicas x limit k).table ≡ (fresh_replicas y limit k).table
  unfolding fresh_replicas update
  fresh_table x y e limit zero = e
  fresh_table x y e limit (suc k) = rw (fresh_table x y e limit k) refl

  opening_same : (f : ℕ) (list : List ℕ) → SameRule (opening m f list) (opening m' f list)
  unfolding opening lengths_fit
  opening_same f list =
      record { needs = rw o.log_length refl; first = refl; second = refl; table = fresh_table _ _ refl _ (replica_count f) }

  block_same : (p : ℕ) → SameRule (block m p) (block m' p)
  unfolding block append_block
  block_same p = record { needs = rw o.form refl; first = refl; second = refl; table = refl }

  decide_same : (i : ℕ) (list : List ℕ) → SameRule (decide m i list) (decide m' i list)
  unfolding decide update
  decide_same i list =
      let first = first_same list in
      let c = first_of (certificates_of m' list) in
      record {
        needs = rw (o.form, first.view, first.block, commits_same c.view c.block list) refl;
        first = first.block;
        second = first.view;
        table = rw (first.view, first.block) refl;
      }

  reboot_same : (i : ℕ) → SameRule (reboot m i) (reboot m' i)
  unfolding reboot counter_step update
  reboot_same i = record { needs = rw o.form refl; first = refl; second = refl; table = refl }

  reserve_same : (i : ℕ) → SameRule (reserve m i) (reserve m' i)
  unfolding reserve counter_step update
  reserve_same i = record { needs = rw o.form refl; first = refl; second = refl; table = refl }

  recover_same : (i : ℕ) (list : List ℕ) → SameRule (recover m i list) (recover m' i list)
  unfolding recover update
  recover_same i list =
      let best = greatest_same list in
      record {
        needs = rw (o.form, best.of_view, replies_same i (replica m i).boot (replica m i).min_view list) refl;
        first = rw best.of_view refl;
        second = best.of_view;
        table = rw (best.of_view, best.block) refl;
      }

  -- ---- any call

  record SameOutcome (x x' : Outcome) : Type 0 where
    answer : x'.answer ≡ x.answer
    table : x'.state.table ≡ x.state.table

  follow_same : (r r' : Rule) → SameRule r r' → SameOutcome (follow m r) (follow m' r')
  unfolding follow answered
  follow_same r r' s =
      subst (λ (n : ℕ). SameOutcome (answered (first_refusal r.needs) m r) (answered n m' r')) (ap first_refusal s.needs)
      (go (first_refusal r.needs))
    where
      go : (n : ℕ) → SameOutcome (answered n m r) (answered n m' r')
      go zero =
          record { answer = λ d. record { number = 0; first = sym s.first d; second = sym s.second d }; table = sym s.table }
      go (suc n) = record { answer = refl; table = refl }

  rest : (call : Call) (list : List ℕ) → is_issuing call ≡ false → SameRule (rule_of m call list) (rule_of m' call list)
  unfolding rule_of
  rest (Open f) list e = opening_same f list
  rest (Block p) list e = block_same p
  rest (Prepare i b j) list e = absurd (false≢true (sym e))
  rest (Store i number) list e = absurd (false≢true (sym e))
  rest (View i w) list e = absurd (false≢true (sym e))
  rest (Accumulate i) list e = absurd (false≢true (sym e))
  rest (Decide i) list e = decide_same i list
  rest (Reboot i) list e = reboot_same i
  rest (Reserve i) list e = reserve_same i
  rest (Request i) list e = absurd (false≢true (sym e))
  rest (Reply i number) list e = absurd (false≢true (sym e))
  rest (Recover i) list e = recover_same i list

  issuing_rules : (list : List ℕ) (call : Call) → is_issuing call ≡ true → Tests (rule_of m call list).needs (rule_of m' call list).needs
  unfolding rule_of
  issuing_rules list =
      by_issuing (λ call. Tests (rule_of m call list).needs (rule_of m' call list).needs) (λ i b j. prepare_tests i b j list) store_tests
      view_tests (λ i. accumulate_tests i list) request_tests reply_tests

  rule_tests : (call : Call) (list : List ℕ) → Tests (rule_of m call list).needs (rule_of m' call list).needs
  rule_tests call list =
      by-test (is_issuing call) (issuing_rules list call) (λ e. rw (rest call list e).needs (equal (rule_of m' call list).needs))

  verdict : (call : Call) (list : List ℕ) → SameVerdict call (step m call list) (step m' call list)
  unfolding step
  verdict call list =
      record {
        refused = rw (returned m (rule_of m call list), returned m' (rule_of m' call list)) (refused_alike _ _ (rule_tests call list));
        answer = λ e. (follow_same _ _ (rest call list e)).answer;
        table = λ e. (follow_same _ _ (rest call list e)).table;
      }

pub boots-untested : BootsUntested
unfolding BootsUntested
boots-untested m m' call list o =
    subst (λ (t : List ℕ). Alike (memory t m'.log m'.blocks)) o.table
    (subst (λ (b : List ℕ). Alike (memory m.table m'.log b)) o.blocks (λ o. verdict m m'.log o call list)) o
  where
    Alike : Memory → Type 0
    Alike x = OtherBoots m x → SameVerdict call (step m call list) (step x call list)
