-- How a call goes from one need to the next, from what the code's tests answer: refused, with the refusal handed up, or on to the rest.
use Prim.Native.Nat.{ℕ, ◌+◌, ◌≤◌, ◌<◌}
use mathlib.Core.Path.{◌≡◌, refl, sym, ◌∙◌}
use mathlib.Core.Bool.{Bool, true, false}
use mathlib.Core.List.{List, [], ◌∷◌, ◌++◌}
use native.Mathlib.Omega.{arith}
use lib.ListN.{length, get_or}
use Rattle.std.specs.Prelude.{Result, Ok, Err, IsErr, IsErrAnd, cond}
use Rattle.protocol.specs.declared.Values.{Values}
use Rattle.protocol.specs.declared.Refusal.{Refusal}
use Rattle.protocol.specs.declared.Refusal.TheVariants as Code
use Rattle.protocol.specs.Memory.{Memory, replica, certificate, certificate_at, certificate_words}
use Rattle.protocol.specs.Quorum.{is_issued, certificates_of, first_of}
use Rattle.protocol.specs.Outcome.{Need, ◌else◌, RuleOf, Rule, first_refusal, number_of, acceptance, refusal_of, follow, told}
use Rattle.protocol.specs.FirstNeeds.{replica_needs, number_needs, list_needs}
use Rattle.protocol.proofs.calls.Needs as Needs
use Rattle.protocol.proofs.calls.Needs.{positive, all_needs, refused_first, all_pass}
use Rattle.quorum.specs.inner.Lists.{Listed}
use Rattle.quorum.proofs.Accepted.{first-of}
use Rattle.certificate_log.specs.declared.Certificate.{Certificate}
use Rattle.records.specs.declared.Replica.{Replica}
use Rattle.certificate_log.specs.inner.Certificates.{certificate_from}
use Rattle.records.specs.inner.Replicas.{replica_from}
use Rattle.checks.proofs.Needed.{needed}
use Rattle.checks.proofs.Ready.{Ready, ready, ReadyList, all_listed, some_there, listed_there}

-- No refusal has the number of an acceptance.
pub some_refusal : (e : Refusal) → number_of e ≡ 0 → ⊥
some_refusal Code.WrongForm e = omega arith
some_refusal Code.OutOfRange e = omega arith
some_refusal Code.UnknownNumber e = omega arith
some_refusal Code.WrongStatus e = omega arith
some_refusal Code.WrongCertificate e = omega arith
some_refusal Code.WrongBlock e = omega arith
some_refusal Code.WrongView e = omega arith
some_refusal Code.CounterLimit e = omega arith
some_refusal Code.NoRoom e = omega arith
some_refusal Code.Unreadable e = omega arith
some_refusal Code.WrongMovement e = omega arith
some_refusal Code.WrongSteps e = omega arith
some_refusal Code.WrongIdentity e = omega arith
some_refusal Code.WaitingFull e = omega arith

-- The needs of a rule up to these hold: what the rest refuses, the rule refuses.
pub record At {Value State : Type 0} {none : Value} (rule : RuleOf none State) (rest : List Need) : Type 0 where
  pub same : first_refusal rule.needs ≡ first_refusal rest

pub start : {Value State : Type 0} {none : Value} (rule : RuleOf none State) → At rule rule.needs
start rule = record { same = refl }

module _ {Value State : Type 0} {none : Value} {rule : RuleOf none State} where
  pub on : (ns rest : List Need) → positive ns ≡ true → At rule (ns ++ rest) → 0 ≡ first_refusal ns → At rule rest
  on ns rest p at e = record { same = at.same ∙ all_pass ns rest p (sym e) }

  pub passes_all : (s : State) → At rule [] → acceptance rule.first rule.second rule.after ≡ follow s rule
  unfolding first_refusal
  passes_all s at = Needs.accepts s rule (sym at.same)

  pub stops_at : (s : State) (e : Refusal) (ns rest : List Need) → At rule (ns ++ rest) → number_of e ≡ first_refusal ns
      → refusal_of none (number_of e) s ≡ follow s rule
  stops_at s e ns rest at is =
      let first = refused_first ns rest (λ z. some_refusal e (is ∙ z)) in
      Needs.refuses s rule (number_of e) (is ∙ sym first ∙ sym at.same) (some_refusal e)

-- A refusal that `?` hands up is the one that was given.
pub handed_up : {A : Type 0} (a : Result A Refusal) (e : Refusal) → IsErr a × IsErrAnd a (λ r. r ≡ e) → a ≡ Err e
handed_up (Ok x) e h = absurd h.1
handed_up (Err r) e h = rw h.1 refl

-- The same of a call whose values are words, by what its code answers.
module _ {State : Type 0} {rule : RuleOf {Value = ℕ} 0 State} where
  pub accepts : (s : State) {s' : State} {a : Result Values Refusal} → At rule []
      → a ≡ Ok (record { first = rule.first; second = rule.second }) → s' ≡ rule.after → record { answer = told a; state = s' } ≡ follow s rule
  accepts s at e after = rw (e, after) (passes_all s at)

  pub stops : {s : State} (a : Result Values Refusal) (e : Refusal) (ns rest : List Need) → At rule (ns ++ rest)
      → number_of e ≡ first_refusal ns → IsErr a × IsErrAnd a (λ r. r ≡ e) → record { answer = told a; state = s } ≡ follow s rule
  stops {s} a e ns rest at is up = rw (handed_up a e up) (stops_at s e ns rest at is)

-- ---- by one need

pub need_failed : (t : Bool) (r e : Refusal) → ◌≡◌ {A = Result (Unit {0}) Refusal} (Err e) (cond t (Ok tt) (Err r)) → (t ≡ false) × (e ≡ r)
need_failed true r e is = let clash : ◌≡◌ {A = ℕ} 0 1 = cc in absurd (omega arith)
need_failed false r e is = (refl, cc)

module _ {Value State : Type 0} {none : Value} {rule : RuleOf none State} {t : Bool} (r : Refusal) (rest : List Need)
    (at : At rule (t else number_of r ∷ rest)) where
  pub need_stops_at : (s : State) (e : Refusal) → ◌≡◌ {A = Result (Unit {0}) Refusal} (Err e) (cond t (Ok tt) (Err r))
      → refusal_of none (number_of e) s ≡ follow s rule
  unfolding first_refusal
  need_stops_at s e is =
      let q = need_failed t r e is in
      stops_at s e (t else number_of r ∷ []) rest at (rw (q.0, q.1) refl)

  pub need_on : {u : Unit {0}} → ◌≡◌ {A = Result (Unit {0}) Refusal} (Ok u) (cond t (Ok tt) (Err r)) → At rule rest
  unfolding first_refusal
  need_on is = let q = needed t r is in record { same = at.same ∙ rw q refl }

module _ {State : Type 0} {rule : RuleOf {Value = ℕ} 0 State} {t : Bool} (r : Refusal) (rest : List Need)
    (at : At rule (t else number_of r ∷ rest)) where
  pub need_stops : {s : State} (a : Result Values Refusal) (e : Refusal)
      → ◌≡◌ {A = Result (Unit {0}) Refusal} (Err e) (cond t (Ok tt) (Err r)) → IsErr a × IsErrAnd a (λ d. d ≡ e)
      → record { answer = told a; state = s } ≡ follow s rule
  need_stops {s} a e is up = rw (handed_up a e up) (need_stops_at r rest at s e is)

-- ---- what is found: a replica

-- What `find_replica` tells of one that it gives.
abbrev pub ReplicaGiven : Memory → ℕ → Replica → Type 0
ReplicaGiven m i r = record { refusal : 0 ≡ first_refusal (replica_needs m i); found : r ≡ replica_from (replica m i) }

-- What is known of it, whatever the rule; and of a rule, that the rest is still to be tested.
pub record ReplicaKnown (m : Memory) (i : ℕ) (r : Replica) : Type 0 where
  pub ready : Ready m i
  pub read : r ≡ replica_from (replica m i)

pub replica_known : (m : Memory) (i : ℕ) {r : Replica} → 0 ≡ first_refusal (replica_needs m i) → r ≡ replica_from (replica m i)
    → ReplicaKnown m i r
replica_known m i passed is = record { ready = ready m i (sym passed); read = is }

pub record ReplicaFound {Value State : Type 0} {none : Value} (m : Memory) (i : ℕ) (rule : RuleOf none State) (rest : List Need)
    (r : Replica) : Type 0 where
  pub ready : Ready m i
  pub read : r ≡ replica_from (replica m i)
  pub at : At rule rest

module _ {Value State : Type 0} {none : Value} (m : Memory) (i : ℕ) {rule : RuleOf none State} (rest : List Need)
    (at : At rule (replica_needs m i ++ rest)) where
  pub found_replica : {r : Replica} → 0 ≡ first_refusal (replica_needs m i) → r ≡ replica_from (replica m i) → ReplicaFound m i rule rest r
  found_replica passed is = record { ready = ready m i (sym passed); read = is; at = on (replica_needs m i) rest refl at passed }

-- ---- a certificate

-- What `find_certificate` tells of one that it gives.
abbrev pub CertificateGiven : Memory → ℕ → Certificate → Type 0
CertificateGiven m number c =
    record { refusal : 0 ≡ first_refusal (number_needs m number); found : c ≡ certificate_from (certificate m number) }

pub record CertificateFound (m : Memory) (number : ℕ) (rule : Rule) (rest : List Need) (c : Certificate) : Type 0 where
  pub issued : is_issued m number ≡ true
  pub read : c ≡ certificate_from (certificate m number)
  pub at : At rule rest

module _ (m : Memory) (number : ℕ) {rule : Rule} (rest : List Need) (at : At rule (number_needs m number ++ rest)) where
  pub found_certificate : {c : Certificate} → 0 ≡ first_refusal (number_needs m number) → c ≡ certificate_from (certificate m number)
      → CertificateFound m number rule rest c
  found_certificate passed is =
      record {
        issued = (all_needs (number_needs m number) refl (sym passed)).0;
        read = is;
        at = on (number_needs m number) rest refl at passed;
      }

-- ---- a list

pub list_known : (m : Memory) (list : List ℕ) → 0 ≡ first_refusal (list_needs m list) → ReadyList m list
list_known m list passed =
    let h = all_needs (list_needs m list) refl (sym passed) in
    record { size = h.0; issued = h.1.0 }

-- ---- a replica and a list

-- What is known once both are found; the first of the list is the one that is read there.
pub record ListFound (m : Memory) (i : ℕ) (list : List ℕ) (rule : Rule) (rest : List Need) (r : Replica) : Type 0 where
  pub ready : Ready m i
  pub read : r ≡ replica_from (replica m i)
  pub quorum : ReadyList m list
  pub all : Listed m.log list
  pub some : 0 < length list
  pub there : (k : ℕ) → certificate_at (get_or list k 0) + certificate_words ≤ length m.log
  pub first : certificate m (get_or list 0 0) ≡ first_of (certificates_of m list)
  pub at : At rule rest

pub found_list : {m : Memory} {i : ℕ} {list : List ℕ} {rule : Rule} {rest : List Need} {r : Replica}
    → ReplicaFound m i rule (list_needs m list ++ rest) r → 0 ≡ first_refusal (list_needs m list) → ListFound m i list rule rest r
found_list {m} {i} {list} {rest = rest} f passed =
    let l = list_known m list passed in
    let some = some_there m i list f.ready l in
    record {
      ready = f.ready;
      read = f.read;
      quorum = l;
      all = all_listed m i list f.ready l;
      some = some;
      there = listed_there m i list f.ready l;
      first = sym (first-of m list some);
      at = on (list_needs m list) rest refl f.at passed;
    }
