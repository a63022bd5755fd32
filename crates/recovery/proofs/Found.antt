-- What the three calls find, and what is still to be tested then.
use Prim.Native.Nat.{ℕ}
use mathlib.Core.Path.{◌≡◌, refl}
use mathlib.Core.List.{List, ◌∷◌, ◌++◌}
use Rattle.protocol.specs.Memory.{Memory, recovering, replica, certificate}
use Rattle.protocol.specs.Certificates.{req_of, reply_of}
use Rattle.protocol.specs.Quorum.{certificates_of}
use Rattle.protocol.specs.Outcome.{Need, ◌else◌, wrong_status, first_refusal}
use Rattle.protocol.specs.FirstNeeds.{number_needs, list_needs}
use Rattle.protocol.specs.Calls.{has_status, reply_needs, recover_needs, request, reply, recover}
use Rattle.certificate_log.specs.declared.Certificate.{Certificate}
use Rattle.records.specs.declared.Replica.{Replica}
use Rattle.checks.proofs.Passing.{start, ReplicaGiven, ReplicaFound, found_replica, CertificateGiven, CertificateFound, found_certificate, ListFound, found_list}
use Rattle.issuing.proofs.Issues as Issues
use Rattle.issuing.proofs.Issues.{slot}

-- Reply's needs after the REQ's number.
abbrev pub rest : Memory → ℕ → ℕ → List Need
rest m i number =
    let r = replica m i in
    let q = certificate m number in
    reply_needs i r q ++ slot m (reply_of i r.boot q.view r.stored_block r.stored_view q.signer q.subject_boot)

module _ (m : Memory) (i : ℕ) {r : Replica} (given : ReplicaGiven m i r) where
  pub requesting : let own = replica m i in
      ReplicaFound m i (request m i) (has_status recovering own else wrong_status ∷ slot m (req_of i own.boot own.min_view)) r
  unfolding request
  requesting = found_replica m i _ (Issues.start _ _ _ _ _ _ refl) given.refusal given.found

  module _ (number : ℕ) where
    pub replying : ReplicaFound m i (reply m i number) (number_needs m number ++ rest m i number) r
    unfolding reply
    replying = found_replica m i _ (Issues.start _ _ _ _ _ _ refl) given.refusal given.found

    pub replying_to : {q : Certificate} → CertificateGiven m number q → CertificateFound m number (reply m i number) (rest m i number) q
    replying_to asked = found_certificate m number _ replying.at asked.refusal asked.found

  module _ (list : List ℕ) where
    pub recovering_with : ReplicaFound m i (recover m i list) (list_needs m list ++ recover_needs i (replica m i) (certificates_of m list)) r
    unfolding recover
    recovering_with = found_replica m i _ (start _) given.refusal given.found

    pub recovering_list : 0 ≡ first_refusal (list_needs m list)
        → ListFound m i list (recover m i list) (recover_needs i (replica m i) (certificates_of m list)) r
    recovering_list listed = found_list recovering_with listed
