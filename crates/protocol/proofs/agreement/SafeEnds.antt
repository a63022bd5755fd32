-- The invariant where no replica acts: at an opening, and where a block is added. And what it says of two chosen blocks.
use Prim.Native.Nat.{ℕ, ◌≤◌, ◌<◌}
use mathlib.Core.Path.{◌≡◌, refl, sym, ap, ◌∙◌, subst, subst₂}
use mathlib.Core.Bool.{true}
use mathlib.Core.Logic.{inl}
use mathlib.Core.List.{List, [], ◌∷◌}
use native.Mathlib.Omega.{arith}
use lib.ListN.{length}
use lib.Dec.{eqb}
use Rattle.protocol.specs.Memory.{Memory, Replica, fault_bound_at, certificate_count_at, fault_bound, certificate_count, block_count}
use Rattle.protocol.specs.Memory.{replica, certificate, block_words, parent_at, parent, append_block}
use Rattle.protocol.specs.Form.{is_fault_bound, lengths_fit, certificate_formed}
use Rattle.protocol.specs.Certificates.{PROP, COMMIT}
use Rattle.protocol.specs.Counter.{steps_from, steps_allowed}
use Rattle.protocol.specs.Quorum.{contains}
use Rattle.protocol.proofs.logic.Booleans.{tests, by-test, each}
use Rattle.protocol.proofs.memory.Changes.{block_table, block-count, block_replica, block_old}
use Rattle.protocol.proofs.memory.Formed.{Formed, sizes}
use Rattle.protocol.proofs.memory.Opened.{Opened, opened_formed}
use Rattle.protocol.proofs.memory.Ancestors.{IsAncestor, self}
use Rattle.protocol.proofs.agreement.Meeting.{Quorum}
use Rattle.protocol.proofs.agreement.Safety.{Proposed, Choosable, Chosen, CertificateSafe, clause, ReplicaSafe, OneProposal, Safe}
use Rattle.protocol.proofs.agreement.Moves.{Moves, certificate_after, replica_after}

-- ---- opening

pub opened_safe : (m : Memory) (f : ℕ) (list : List ℕ) (o : Memory) → is_fault_bound f ≡ true → steps_allowed list ≡ true
    → lengths_fit m f ≡ true → Opened m f (steps_from list) o → Safe o
opened_safe m f list o bound allowed fit h =
    let none = h.header.certificates in
    let same = h.header.faults in
    record {
      formed = opened_formed m f list o bound allowed fit h;
      log = λ c l. absurd (omega arith);
      rows =
          λ i l.
          subst (ReplicaSafe o i) (sym (h.rows i (omega arith)))
          (record {
            stored = inl (refl, refl);
            covers = λ e v x ch. let l = x.issued in absurd (omega arith);
            decided = inl (refl, refl);
          });
      one_per_view = λ c d a b. absurd (omega arith);
    }

-- ---- a block more

-- Only blocks are added: certificates, replicas and earlier blocks stay.
pub record AddsBlocks (m m' : Memory) : Type 0 where
  pub faults : fault_bound m' ≡ fault_bound m
  pub certificates : certificate_count m' ≡ certificate_count m
  pub certificate : (c : ℕ) → certificate m' c ≡ certificate m c
  pub replica : (i : ℕ) → replica m' i ≡ replica m i
  pub blocks : block_count m ≤ block_count m'
  pub parent : (b : ℕ) → b < block_count m → parent m' b ≡ parent m b

pub adds_moves : (m m' : Memory) → AddsBlocks m m' → Moves m m'
adds_moves m m' h =
    let count = h.certificates in
    record {
      faults = h.faults;
      extends = record { certificates = omega arith; certificate = λ c l. h.certificate c; blocks = h.blocks; parent = h.parent };
      min_views = λ i. let e = ap (λ (r : Replica). r.min_view) (h.replica i) in omega arith;
      limits = λ i. let e = ap (λ (r : Replica). r.view_limit) (h.replica i) in omega arith;
      flags = λ i a b e. ap (λ (r : Replica). r.flag) (h.replica i) ∙ e;
      commits = λ c a b k. absurd (omega arith);
    }

pub adds_safe : (m m' : Memory) → AddsBlocks m m' → Formed m' → Safe m → Safe m'
unfolding certificate_formed
adds_safe m m' h formed safe =
    let mv = adds_moves m m' h in
    let count = h.certificates in
    let same = h.faults in
    record {
      formed = formed;
      log =
          λ c l.
          let f = each _ (safe.formed.log c (omega arith)) in
          subst (CertificateSafe m') (sym (h.certificate c))
          (certificate_after m m' mv (certificate m c) safe.formed (omega tests) (safe.log c (omega arith)));
      rows =
          λ i l.
          subst (ReplicaSafe m' i) (sym (h.replica i))
          (replica_after m m' mv i (h.replica i) (safe.rows i (omega arith)));
      one_per_view =
          λ c d a b.
          subst₂ OneProposal (sym (h.certificate c)) (sym (h.certificate d)) (safe.one_per_view c d (omega arith) (omega arith));
    }

pub block_adds : (m : Memory) (ws : List ℕ) → length ws ≡ block_words → Formed m → AddsBlocks m (append_block m ws)
unfolding append_block
block_adds m ws whole h =
    let z = sizes m h in
    let more = block-count m ws whole (omega arith) in
    record {
      faults = block_table m ws whole fault_bound_at (omega arith);
      certificates = block_table m ws whole certificate_count_at (omega arith);
      certificate = λ c. refl;
      replica = λ i. block_replica m ws whole i;
      blocks = omega arith;
      parent = λ b l. block_old m ws whole b parent_at l (omega arith);
    }

-- ---- two chosen blocks are of one line

-- Every quorum has a member.
member : (f : ℕ) (Q : List ℕ) → Quorum f Q → (j : ℕ) × (contains j Q ≡ true)
unfolding contains
member f [] q = let s = q.size in absurd (omega arith)
member f (x ∷ xs) q = (x, let e : eqb x x ≡ true = omega tests in rw e refl)

pub record ChosenProposal (m : Memory) (v b : ℕ) : Type 0 where
  pub positive : 1 ≤ v
  pub proposed : Proposed m v b

pub chosen_proposal : (m : Memory) → Safe m → {v b : ℕ} → Chosen m v b → ChosenProposal m v b
chosen_proposal m safe {v} {b} h =
    let j = member (fault_bound m) h.members h.quorum in
    let x = h.each j.0 j.1 in
    let c = certificate m x.number in
    let k = clause m c COMMIT x.holds.commit.kind (safe.log x.number x.issued) in
    let view = x.holds.commit.view in
    let positive = k.positive in
    record { positive = omega arith; proposed = rw (view, x.holds.block) at k.proposed }

chosen_choosable : (m : Memory) {v b : ℕ} → Chosen m v b → Choosable m v
chosen_choosable m h =
    record {
      members = h.members;
      quorum = h.quorum;
      each = λ j w. let x = h.each j w in inl (record { number = x.number; issued = x.issued; holds = x.holds.commit });
    }

-- A view has one proposal.
one_proposal : (m : Memory) → Safe m → {v b c : ℕ} → Proposed m v b → Proposed m v c → b ≡ c
one_proposal m safe x y =
    sym x.holds.block
    ∙ safe.one_per_view x.number y.number x.issued y.issued x.holds.kind y.holds.kind
    (x.holds.view ∙ sym y.holds.view)
    ∙ y.holds.block

pub chosen_ancestor : (m : Memory) → Safe m → {v b w c : ℕ} → Chosen m v b → Chosen m w c → v ≤ w → IsAncestor (parent m) b c
chosen_ancestor m safe {v} {b} {w} {c} hb hc le =
    let p = chosen_proposal m safe hb in
    let q = chosen_proposal m safe hc in
    by-test (eqb v w)
    (λ e.
    let same : v ≡ w = omega tests in
    rw (one_proposal m safe p.proposed (subst (λ (x : ℕ). Proposed m x c) (sym same) q.proposed)) self)
    (λ e.
    let x = q.proposed in
    let prop = clause m (certificate m x.number) PROP x.holds.kind (safe.log x.number x.issued) in
    let view = x.holds.view in
    let a = rw x.holds.block at (prop.chain v p.positive (omega tests) (chosen_choosable m hb)) in
    rw (one_proposal m safe p.proposed a.proposed) a.ancestor)
