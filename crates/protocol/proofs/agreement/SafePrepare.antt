-- The invariant after a proposal: its justification puts every earlier view that may be decided into its line.
use Prim.Native.Nat.{ℕ, zero, suc, ◌≤◌, ◌<◌}
use mathlib.Core.Path.{◌≡◌, refl, ap}
use mathlib.Core.Bool.{true}
use mathlib.Core.Logic.{⊎_elim}
use mathlib.Core.List.{List}
use native.Mathlib.Omega.{arith}
use borrow.Author.Tests.{not-true}
use lib.Dec.{eqb}
use Rattle.protocol.specs.declared.Justification.{Justification}
use Rattle.protocol.specs.declared.Justification.TheVariants.{Acc, Commits}
use Rattle.protocol.specs.Memory.{Memory, Replica, fault_bound, replica, certificate}
use Rattle.protocol.specs.Form.{replica_formed}
use Rattle.protocol.specs.Certificates.{PROP, COMMIT, ACC}
use Rattle.protocol.specs.Leader.{leads}
use Rattle.protocol.specs.Quorum.{every, is_issued, all_issued, certificates_of, is_quorum}
use Rattle.protocol.specs.Calls.{numbers_of, is_sized, proposal_view, justified_block, is_justified, prepare}
use Rattle.protocol.proofs.logic.Booleans.{tests, and-true, each}
use Rattle.protocol.proofs.calls.Needs.{Holds}
use Rattle.protocol.proofs.memory.Keeps.{issuing_needs}
use Rattle.protocol.proofs.calls.LeavesForm.{prepare_leaves}
use Rattle.protocol.proofs.memory.Lists.{first_named}
use Rattle.protocol.proofs.agreement.Quorums.{each_tested}
use Rattle.protocol.proofs.agreement.Safety.{Proposed, Choosable, CertificateSafe, clause, Safe}
use Rattle.protocol.proofs.agreement.Moves.{choosable_before, ancestor_after}
use Rattle.protocol.proofs.agreement.Acts.{GoesOn, issuing_acts, moves, goes_on}
use Rattle.protocol.proofs.agreement.SafeParts.{replica_kept, extend}

-- A view has at most one leader.
one_leader : (f v i j : ℕ) → leads f v i ≡ true → leads f v j ≡ true → i ≡ j
unfolding leads
one_leader f zero i j a b = cc
one_leader f (suc before) i j a b = omega tests

-- Block p was proposed in a view that is not below v.
record ProposedFrom (m : Memory) (p v : ℕ) : Type 0 where
  view : ℕ
  proposed : Proposed m view p
  covers : v ≤ view

justified_proposed : (m : Memory) (i : ℕ) (j : Justification) (list : List ℕ) → Safe m → is_sized m j list ≡ true
    → all_issued m (numbers_of j list) ≡ true → is_justified i j (certificates_of m (numbers_of j list)) ≡ true → (v : ℕ) → 1 ≤ v
    → v < proposal_view j (certificates_of m (numbers_of j list)) → Choosable m v
    → ProposedFrom m (justified_block j (certificates_of m (numbers_of j list))) v
unfolding every is_quorum
justified_proposed m i (Acc number) list safe size issued justified v positive below ch =
    let known = and-true (is_issued m number) true issued in
    let t = each _ justified in
    let a = clause m (certificate m number) ACC (omega tests) (safe.log number (omega tests)) in
    let le = a.covers v positive below ch in
    ⊎_elim (λ z. let none = z.0 in absurd (omega arith)) (λ p. record { view = (certificate m number).of_view; proposed = p; covers = le })
    a.origin
justified_proposed m i (Commits u b) list safe size issued justified v positive below ch =
    let tested = each _ justified in
    let commits =
    each_tested m (CertificateSafe m) (λ c. Proposed m u b) _ list issued safe.log tested.0
    (λ c x t.
    let t = each _ t in
    let e : c.view ≡ u = omega tests in
    let e' : c.block ≡ b = omega tests in
    rw (e, e') at (clause m c COMMIT (omega tests) x).proposed) in
    record { view = u; proposed = first_named (λ c. Proposed m u b) m list size commits; covers = omega arith }

pub prepare_safe : (m : Memory) (i b : ℕ) (j : Justification) (list : List ℕ) → Holds (prepare m i b j list).needs → Safe m
    → GoesOn m (prepare m i b j list).after
unfolding prepare replica_formed
prepare_safe m i b j list hold safe =
    let h = (issuing_needs m _ i _ _ hold).0 in
    let r = replica m i in
    let f = each _ (safe.formed.rows i (omega tests)) in
    let cs = certificates_of m (numbers_of j list) in
    let w = proposal_view j cs in
    let ranged = h.1.1.1 in
    let justified = ranged.1.1.1 in
    let leader = justified.1.0 in
    let block = justified.1.1 in
    let turn = block.1.1 in
    let acts = issuing_acts m _ i _ _ hold safe.formed h.1.0 refl in
    let mv =
    moves m _ i _ _ acts (record { min_view = omega arith; limit = omega arith; flag = λ a e x. refl }) (λ k. absurd (omega arith)) in
    let min_view = ap (λ (r : Replica). r.min_view) acts.own in
    let limit = ap (λ (r : Replica). r.view_limit) acts.own in
    goes_on m _ i _ _ acts safe (prepare_leaves m i b j list hold) mv
    (record {
      leader = rw acts.faults leader;
      positive = omega tests;
      below = omega tests;
      min_view = omega tests;
      flag = λ e. ap (λ (r : Replica). r.flag) acts.own;
      chain =
          λ v a l ch.
          let before = choosable_before m _ mv ch in
          let g = justified_proposed m i j list safe h.1.1.0 ranged.0 justified.0 v a l before in
          let above = not-true (eqb b 0) block.0 in
          ancestor_after m _ mv safe.formed (omega tests)
          (extend m safe g.view (justified_block j cs) b v g.proposed (omega tests) (omega tests) a g.covers before);
    })
    (replica_kept m _ i _ _ acts mv (λ k. omega arith) r
    (record { stored_view = refl; stored_block = refl; decided_view = refl; decided_block = refl; status = λ e. e })
    (safe.rows i (omega tests)))
    (λ k d l kind other view.
    let p = clause m (certificate m d) PROP kind (safe.log d l) in
    let same = one_leader (fault_bound m) w (certificate m d).signer i (rw view at p.leader) leader in
    let flagged = rw same at (p.flag (rw same (omega tests))) in
    absurd (omega tests))
    refl refl
