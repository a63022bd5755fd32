-- What justifications tell, once their needs hold; and what the three calls find, with what is still to be tested then.
use Prim.Native.Nat.{ℕ, ◌≤◌, ◌<◌}
use mathlib.Core.Path.{◌≡◌, refl, sym}
use mathlib.Core.Bool.{true}
use mathlib.Core.List.{List, [], ◌∷◌, ◌++◌}
use lib.ListN.{length, get_or}
use Rattle.protocol.specs.declared.Justification.{Justification}
use Rattle.protocol.specs.declared.Justification.TheVariants.{Acc, Commits}
use Rattle.protocol.specs.Memory.{Memory, ceiling, fault_bound, live, memory, replica, certificate, parent}
use Rattle.protocol.specs.Certificates.{prop_of, commit_of, new_view_of}
use Rattle.protocol.specs.Quorum.{is_issued, certificates_of, is_commit_quorum}
use Rattle.protocol.specs.Outcome.{Need, ◌else◌, first_refusal, unknown_number, wrong_status}
use Rattle.protocol.specs.FirstNeeds.{is_block, replica_needs, number_needs}
use Rattle.protocol.specs.Calls.{has_status, numbers_of, is_sized, justification_needs, proposal_needs, store_needs, view_needs}
use Rattle.protocol.specs.Calls.{prepare, store, view}
use Rattle.protocol.proofs.logic.Booleans.{tests}
use Rattle.protocol.proofs.memory.Lists.{every_at}
use Rattle.protocol.proofs.calls.Needs.{Holds, all_needs}
use Rattle.protocol.proofs.memory.Formed.{Formed}
use Rattle.form.proofs.Within.{certificate_bounds}
use Rattle.quorum.specs.inner.Lists.{certificates_in}
use Rattle.quorum.proofs.Accepted.{listed, some_listed, commit_at}
use Rattle.certificate_log.specs.declared.Certificate.{Certificate}
use Rattle.records.specs.declared.Replica.{Replica}
use Rattle.checks.proofs.Passing.{At, ReplicaGiven, ReplicaFound, found_replica, CertificateGiven, CertificateFound, found_certificate}
use Rattle.issuing.proofs.Issues.{slot, start}
use Rattle.checker.specs.declared.justification.Justified.{Justified}
use Rattle.checker.specs.inner.Justifications.{Justifying, justified_by, judgement_needs}

-- The view of a certificate has a next one,
pub view_bound : (m : Memory) (number : ℕ) → Formed m → is_issued m number ≡ true → (certificate m number).view ≤ ceiling
view_bound m number f e = (certificate_bounds m f number (omega (tests, e))).view

-- and so has that of a commit quorum.
pub quorum_view_bound : (log list : List ℕ) (view block : ℕ) → Justifying log list
    → is_commit_quorum view block (certificates_in log list) ≡ true → view ≤ ceiling
quorum_view_bound log list view block h e =
    let q = commit_at (memory [] log []) list view block e 0 h.some in omega (tests, q, h.view)

some_number : (m : Memory) (j : Justification) (list : List ℕ) → is_sized m j list ≡ true → 0 < length (numbers_of j list)
some_number m (Acc number) list e = omega tests
some_number m (Commits view block) list e = some_listed m list e

justifying : (m : Memory) (j : Justification) (list : List ℕ) → Formed m → Holds (justification_needs m j list)
    → Justifying m.log (numbers_of j list)
justifying m j list f h =
    let ns = numbers_of j list in
    let some = some_number m j list h.0 in
    let first = every_at (is_issued m) ns 0 h.1.0 0 some in
    record { listed = listed m ns f h.1.0; some = some; view = view_bound m (get_or ns 0 0) f first }

-- ---- what the calls find, and what is still to be tested then

module _ (m : Memory) (i b : ℕ) (j : Justification) (list : List ℕ) where
  abbrev pub given : Justified
  given = justified_by j (certificates_of m (numbers_of j list))

  abbrev pub after_judging : List Need
  after_judging =
      proposal_needs (fault_bound m) i (replica m i) b (parent m b) given.view given.block
      ++ slot m (prop_of i (replica m i).boot given.view b)

  abbrev pub after_status : List Need
  after_status = judgement_needs i j (certificates_of m (numbers_of j list)) ++ after_judging

  abbrev pub after_numbers : List Need
  after_numbers = is_block m b else unknown_number ∷ has_status live (replica m i) else wrong_status ∷ after_status

  pub prepare_at : At (prepare m i b j list) (replica_needs m i ++ (justification_needs m j list ++ after_numbers))
  unfolding prepare
  prepare_at = start _ _ _ _ _ _ refl

  pub preparing : {r : Replica} → ReplicaGiven m i r
      → ReplicaFound m i (prepare m i b j list) (justification_needs m j list ++ after_numbers) r
  preparing given = found_replica m i _ prepare_at given.refusal given.found

  -- What a justification's numbers tell, once they are tested.
  pub justifies : Formed m → 0 ≡ first_refusal (justification_needs m j list) → Justifying m.log (numbers_of j list)
  justifies f passed = justifying m j list f (all_needs (justification_needs m j list) refl (sym passed))

module _ (m : Memory) (i : ℕ) {r : Replica} (given : ReplicaGiven m i r) where
  module _ (number : ℕ) where
    abbrev pub after_number : List Need
    after_number =
        let p = certificate m number in
        store_needs (fault_bound m) (replica m i) p ++ slot m (commit_of i (replica m i).boot p.view p.block)

    pub storing : ReplicaFound m i (store m i number) (number_needs m number ++ after_number) r
    unfolding store
    storing = found_replica m i _ (start _ _ _ _ _ _ refl) given.refusal given.found

    pub storing_prop : {p : Certificate} → CertificateGiven m number p → CertificateFound m number (store m i number) after_number p
    storing_prop found = found_certificate m number _ storing.at found.refusal found.found

  pub entering : (w : ℕ) → let own = replica m i in
      ReplicaFound m i (view m i w) (view_needs own w ++ slot m (new_view_of i own.boot w own.stored_block own.stored_view)) r
  unfolding view
  entering w = found_replica m i _ (start _ _ _ _ _ _ refl) given.refusal given.found
