-- What specs/Repeats.antt states.
use Prim.Native.Nat.{ℕ, ◌+◌, ◌≤◌}
use mathlib.Core.Path.{◌≡◌, refl, sym, ◌∙◌, subst}
use mathlib.Core.Bool.{true, false, cond, false≢true}
use mathlib.Core.List.{List, [], ◌∷◌}
use native.Mathlib.Omega.{arith}
use lib.Seq.{set-get_or}
use lib.Dec.{ltb, eqb}
use Rattle.protocol.specs.declared.Call.{Call}
use Rattle.protocol.specs.declared.Call.TheVariants.{Open, Block, Prepare, Store, View, Accumulate, Decide, Reboot}
use Rattle.protocol.specs.declared.Call.TheVariants.{Reserve, Request, Reply, Recover}
use Rattle.protocol.specs.declared.Justification.{Justification}
use Rattle.protocol.specs.Memory.{Memory, Certificate, Assignment, ◌becomes◌, certificate_count_at, certificate_count, row_at}
use Rattle.protocol.specs.Memory.{min_view_at, flag_at, lowered, replica, certificate, words, update, append_certificate}
use Rattle.protocol.specs.Certificates.{number_for, is_filed, file, found, appended, found_or_appended}
use Rattle.protocol.specs.Outcome.{acceptance, Outcome, Need, Rule}
use Rattle.protocol.specs.Calls.{issuing, is_ahead, prepare, store, view, accumulate, request, reply}
use Rattle.protocol.specs.Runs.{rule_of, step}
use Rattle.protocol.specs.Theorems.{Accepted}
use Rattle.protocol.specs.Agreement.{end_of}
use Rattle.protocol.specs.Repeats.{FoundIsFirstEqual, is_issuing, TellsRepeat, SecondValueTellsRepeat, RepeatChangesNothing}
use Rattle.protocol.specs.Repeats.{ProposalsNeverRepeat, CommitsNeverRepeat}
use Rattle.protocol.proofs.logic.Booleans.{tests, by_cond}
use Rattle.protocol.proofs.calls.Needs.{Holds, no_refusal, accepts}
use Rattle.protocol.proofs.calls.Rules.{needs_hold}
use Rattle.protocol.proofs.memory.Words.{within_row}
use Rattle.protocol.proofs.memory.Formed.{Formed, formed, sizes}
use Rattle.protocol.proofs.memory.Changes.{update_header, append_count}
use Rattle.protocol.proofs.memory.Filing.{file_cases, filed_below, filed_equal, none_before, new_number}
use Rattle.protocol.proofs.memory.Keeps.{issuing_needs}
use Rattle.protocol.proofs.agreement.Safety.{Issued, CertificateSafe, Safe}
use Rattle.protocol.proofs.agreement.Agreement.{reached_by}

pub found-is-first-equal : FoundIsFirstEqual
unfolding FoundIsFirstEqual
found-is-first-equal m c =
    record {
      if_filed = λ e. record { issued = filed_below m (words c) e; equal = filed_equal m c e; first = none_before m c };
      if_not = λ e k l. let number = new_number m (words c) e in none_before m c k (omega arith);
    }

-- ---- a call that is accepted

-- What a rule gives where nothing is refused.
abbrev pub given : Rule → Outcome
given rule = acceptance rule.first rule.second rule.after

-- An accepted call gives what its rule gives, and its needs hold.
pub accepted_gives : (P : Outcome → Type 0) (m : Memory) (call : Call) (list : List ℕ)
    → (Holds (rule_of m call list).needs → P (given (rule_of m call list))) → Accepted (step m call list) → P (step m call list)
unfolding step
accepted_gives P m call list gives accepted =
    let e = no_refusal m (rule_of m call list) accepted in
    subst P (accepts m (rule_of m call list) (sym e)) (gives (needs_hold m call list e))

-- Whatever holds of the six holds of every issuing call.
pub by_issuing : (P : Call → Type 0) → ((i b : ℕ) (j : Justification) → P (Prepare i b j)) → ((i number : ℕ) → P (Store i number))
    → ((i w : ℕ) → P (View i w)) → ((i : ℕ) → P (Accumulate i)) → ((i : ℕ) → P (Request i)) → ((i number : ℕ) → P (Reply i number))
    → (call : Call) → is_issuing call ≡ true → P call
by_issuing P prepares stores views accumulates requests replies = go
  where
    go : (call : Call) → is_issuing call ≡ true → P call
    go (Open f) e = absurd (false≢true e)
    go (Block p) e = absurd (false≢true e)
    go (Prepare i b j) e = prepares i b j
    go (Store i number) e = stores i number
    go (View i w) e = views i w
    go (Accumulate i) e = accumulates i
    go (Decide i) e = absurd (false≢true e)
    go (Reboot i) e = absurd (false≢true e)
    go (Reserve i) e = absurd (false≢true e)
    go (Request i) e = requests i
    go (Reply i number) e = replies i number
    go (Recover i) e = absurd (false≢true e)

-- ---- the second value

module _ (m : Memory) (needs : List Need) (i : ℕ) (cs : List Assignment) (c : Certificate) where
  pub issuing_tells : Formed m → within_row cs ≡ true → TellsRepeat m (given (issuing m needs i cs c))
  unfolding issuing update
  issuing_tells h within =
      let ws = words c in
      let z = sizes m h in
      file_cases (λ x. TellsRepeat m (acceptance (number_for m ws) (found_or_appended m ws) (update x i cs))) m ws
      (λ e.
      let count = update_header m i cs within certificate_count_at (omega arith) in
      let stays : eqb (certificate_count (update m i cs)) (certificate_count m) ≡ true = omega tests in
      rw e
      (record {
        exactly = rw stays refl;
        if_found = λ told. record { number = filed_below m ws e; log = refl };
        if_appended = λ told. absurd (omega arith);
      }))
      (λ e.
      let more = append_count m ws refl (omega arith) in
      let count = update_header (append_certificate m ws) i cs within certificate_count_at (omega arith) in
      let grows : eqb (certificate_count (update (append_certificate m ws) i cs)) (certificate_count m) ≡ false = omega tests in
      rw e
      (record {
        exactly = rw grows refl;
        if_found = λ told. absurd (omega arith);
        if_appended = λ told. record { number = new_number m ws e; count = count ∙ more };
      }))

tells : (m : Memory) (list : List ℕ) (call : Call) → is_issuing call ≡ true → Holds (rule_of m call list).needs
    → TellsRepeat m (given (rule_of m call list))
unfolding rule_of prepare store view accumulate request reply
tells m list =
    by_issuing (λ call. Holds (rule_of m call list).needs → TellsRepeat m (given (rule_of m call list)))
    (λ i b j hold. issuing_tells m _ i _ _ (formed m (issuing_needs m _ i _ _ hold).0.0) refl)
    (λ i number hold. issuing_tells m _ i _ _ (formed m (issuing_needs m _ i _ _ hold).0.0) refl)
    (λ i w hold. issuing_tells m _ i _ _ (formed m (issuing_needs m _ i _ _ hold).0.0) refl)
    (λ i hold. issuing_tells m _ i _ _ (formed m (issuing_needs m _ i _ _ hold).0.0) refl)
    (λ i hold. issuing_tells m _ i _ _ (formed m (issuing_needs m _ i _ _ hold).0.0) refl)
    (λ i number hold.
    issuing_tells m _ i _ _ (formed m (issuing_needs m _ i _ _ hold).0.0)
    (by_cond (λ cs. within_row cs ≡ true) (ltb (replica m i).min_view (certificate m number).view) (λ e. refl) (λ e. refl)))

pub second-value-tells-repeat : SecondValueTellsRepeat
unfolding SecondValueTellsRepeat
second-value-tells-repeat m call list e accepted = accepted_gives (TellsRepeat m) m call list (tells m list call e) accepted

-- ---- after an opening

-- Told as found, an equal certificate is issued, and only words of the replica may change.
pub record Repeats (m : Memory) (i : ℕ) (cs : List Assignment) (c : Certificate) (rule : Rule) : Type 0 where
  pub equal : Issued m (λ d. d ≡ c)
  pub after : rule.after ≡ update m i cs

module _ (m : Memory) (needs : List Need) (i : ℕ) (cs : List Assignment) (c : Certificate) where
  pub issuing_repeats : (issuing m needs i cs c).second ≡ found → Repeats m i cs c (issuing m needs i cs c)
  unfolding issuing file
  issuing_repeats =
      by_cond (λ (x : ℕ). x ≡ found → Repeats m i cs c (issuing m needs i cs c)) (is_filed m (words c))
      (λ e told.
      record {
        equal = record { number = number_for m (words c); issued = filed_below m (words c) e; holds = filed_equal m c e };
        after = rw e refl;
      })
      (λ e told. absurd (omega arith))

  pub issuing_appends : ((issuing m needs i cs c).second ≡ found → ⊥) → (issuing m needs i cs c).second ≡ appended
  unfolding issuing
  issuing_appends =
      by_cond (λ (x : ℕ). (x ≡ found → ⊥) → x ≡ appended) (is_filed m (words c)) (λ e never. absurd (never refl)) (λ e never. refl)

-- A View of the lowest view sets the flag and the lowest view to what they are.
pub enters_again : (m : Memory) (i w : ℕ) → w ≡ (replica m i).min_view
    → update m i (flag_at becomes cond (is_ahead (replica m i) w) lowered (replica m i).flag ∷ min_view_at becomes w ∷ []) ≡ m
unfolding update
enters_again m i w same =
    let stays : is_ahead (replica m i) w ≡ false = omega tests in
    rw (stays, same) (rw (set-get_or m.table (row_at i + flag_at) 0, set-get_or m.table (row_at i + min_view_at) 0) refl)

-- A Reply to a view that is not above the lowest view sets nothing.
pub replies_again : (m : Memory) (i v : ℕ) → v ≤ (replica m i).min_view
    → update m i (cond (ltb (replica m i).min_view v) (min_view_at becomes v ∷ flag_at becomes lowered ∷ []) []) ≡ m
unfolding update
replies_again m i v le = let stays : ltb (replica m i).min_view v ≡ false = omega tests in rw stays refl

module _ (m : Memory) (safe : Safe m) where
  -- What the invariant says of the equal one it says of the certificate.
  pub known : {c : Certificate} → Issued m (λ d. d ≡ c) → CertificateSafe m c
  known old = subst (CertificateSafe m) old.holds (safe.log old.number old.issued)

  -- In the view of an earlier proposal the flag is raised.
  pub prepare_never_found : (i b : ℕ) (j : Justification) (list : List ℕ) → Holds (prepare m i b j list).needs
      → (prepare m i b j list).second ≡ found → ⊥
  unfolding prepare
  prepare_never_found i b j list hold told =
      let h = (issuing_needs m _ i _ _ hold).0 in
      let turn = h.1.1.1.1.1.1.1.1.1 in
      let flagged = (known (issuing_repeats m _ i _ _ told).equal).flag (omega tests) in
      omega tests

  -- The view of an earlier commit is below the lowest view.
  pub store_never_found : (i number : ℕ) → Holds (store m i number).needs → (store m i number).second ≡ found → ⊥
  unfolding store
  store_never_found i number hold told =
      let h = (issuing_needs m _ i _ _ hold).0 in
      let left = (known (issuing_repeats m _ i _ _ told).equal).min_view in
      omega tests

  -- The view of an earlier NEWVIEW, and that of an earlier REPLY, is not above the lowest view.
  view_repeats : (i w : ℕ) → Holds (view m i w).needs → (view m i w).second ≡ found → (view m i w).after ≡ m
  unfolding view
  view_repeats i w hold told =
      let h = (issuing_needs m _ i _ _ hold).0 in
      let again = issuing_repeats m _ i _ _ told in
      let reached = (known again.equal).0.min_view in
      again.after ∙ enters_again m i w (omega tests)

  reply_repeats : (i number : ℕ) → (reply m i number).second ≡ found → (reply m i number).after ≡ m
  unfolding reply
  reply_repeats i number told =
      let again = issuing_repeats m _ i _ _ told in
      again.after ∙ replies_again m i (certificate m number).view (known again.equal).min_view

  changes_nothing : (list : List ℕ) (call : Call) → is_issuing call ≡ true → Holds (rule_of m call list).needs
      → (rule_of m call list).second ≡ found → (rule_of m call list).after ≡ m
  unfolding rule_of accumulate request update
  changes_nothing list =
      by_issuing (λ call. Holds (rule_of m call list).needs → (rule_of m call list).second ≡ found → (rule_of m call list).after ≡ m)
      (λ i b j hold told. absurd (prepare_never_found i b j list hold told))
      (λ i number hold told. absurd (store_never_found i number hold told)) view_repeats
      (λ i hold told. (issuing_repeats m _ i _ _ told).after) (λ i hold told. (issuing_repeats m _ i _ _ told).after)
      (λ i number hold told. reply_repeats i number told)

pub repeat-changes-nothing : RepeatChangesNothing
unfolding RepeatChangesNothing
repeat-changes-nothing execution call beside e accepted =
    accepted_gives (λ o. o.answer.second ≡ found → o.state ≡ end_of execution) (end_of execution) call beside
    (changes_nothing (end_of execution) (reached_by execution).safe beside call e) accepted

pub proposals-never-repeat : ProposalsNeverRepeat
unfolding ProposalsNeverRepeat rule_of prepare
proposals-never-repeat i b j execution beside accepted =
    let end = end_of execution in
    let safe = (reached_by execution).safe in
    accepted_gives (λ o. o.answer.second ≡ appended) end (Prepare i b j) beside
    (λ hold. issuing_appends end _ i _ _ (prepare_never_found end safe i b j beside hold)) accepted

pub commits-never-repeat : CommitsNeverRepeat
unfolding CommitsNeverRepeat rule_of store
commits-never-repeat i number execution beside accepted =
    let end = end_of execution in
    let safe = (reached_by execution).safe in
    accepted_gives (λ o. o.answer.second ≡ appended) end (Store i number) beside
    (λ hold. issuing_appends end _ i _ _ (store_never_found end safe i number hold)) accepted
