-- What accumulate and decide find, a replica and a list; and what is still to be tested then.
use Prim.Native.Nat.{ℕ}
use mathlib.Core.Path.{◌≡◌, refl}
use mathlib.Core.List.{List, ◌++◌}
use Rattle.protocol.specs.Memory.{Memory, replica}
use Rattle.protocol.specs.Certificates.{acc_of}
use Rattle.protocol.specs.Quorum.{certificates_of, first_of, greatest}
use Rattle.protocol.specs.Outcome.{Need, first_refusal}
use Rattle.protocol.specs.FirstNeeds.{list_needs}
use Rattle.protocol.specs.Calls.{accumulate_needs, decide_needs, accumulate, decide}
use Rattle.records.specs.declared.Replica.{Replica}
use Rattle.checks.proofs.Passing.{start, ReplicaGiven, ReplicaFound, found_replica, ListFound, found_list}
use Rattle.issuing.proofs.Issues as Issues
use Rattle.issuing.proofs.Issues.{slot}

-- Accumulate's needs after the list's.
abbrev pub rest : Memory → ℕ → List ℕ → List Need
rest m i list =
    let cs = certificates_of m list in
    accumulate_needs (replica m i) cs ++ slot m (acc_of i (replica m i).boot (first_of cs).view (greatest cs).block (greatest cs).of_view)

module _ {m : Memory} {i : ℕ} {r : Replica} (list : List ℕ) (given : ReplicaGiven m i r) where
  pub accumulating : ReplicaFound m i (accumulate m i list) (list_needs m list ++ rest m i list) r
  unfolding accumulate
  accumulating = found_replica m i _ (Issues.start _ _ _ _ _ _ refl) given.refusal given.found

  pub deciding : ReplicaFound m i (decide m i list) (list_needs m list ++ decide_needs (certificates_of m list)) r
  unfolding decide
  deciding = found_replica m i _ (start _) given.refusal given.found

  module _ (listed : 0 ≡ first_refusal (list_needs m list)) where
    pub accumulating_list : ListFound m i list (accumulate m i list) (rest m i list) r
    accumulating_list = found_list accumulating listed

    pub deciding_list : ListFound m i list (decide m i list) (decide_needs (certificates_of m list)) r
    deciding_list = found_list deciding listed
