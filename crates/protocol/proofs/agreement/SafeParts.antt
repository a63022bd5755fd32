-- Parts of the invariant that several calls show: a replica that keeps what it stored, and the line of a proposal.
use Prim.Native.Nat.{ℕ, ◌≤◌, ◌<◌}
use mathlib.Core.Path.{◌≡◌}
use mathlib.Core.Logic.{◌≢◌, ◌⊎◌, inl, inr, ⊎_elim}
use native.Mathlib.Omega.{arith}
use lib.Dec.{eqb}
use Rattle.protocol.proofs.logic.Booleans.{tests, by-test}
use Rattle.protocol.specs.Memory.{Memory, Replica, Certificate, replica, certificate, parent, live}
use Rattle.protocol.specs.Certificates.{PROP, COMMIT}
use Rattle.protocol.proofs.memory.Ancestors.{IsAncestor, self, up}
use Rattle.protocol.proofs.agreement.Safety.{Proposed, Committed, Origin, Choosable, Chosen, Ancestor, clause, ReplicaSafe, Safe}
use Rattle.protocol.proofs.agreement.Moves.{Moves, origin_after, chosen_after, choosable_before}
use Rattle.protocol.proofs.agreement.Acts.{Acts, committed_same}

-- ---- a replica that keeps what it stored and decided, while no COMMIT is issued

pub record Keeps (r r' : Replica) : Type 0 where
  pub stored_view : r'.stored_view ≡ r.stored_view
  pub stored_block : r'.stored_block ≡ r.stored_block
  pub decided_view : r'.decided_view ≡ r.decided_view
  pub decided_block : r'.decided_block ≡ r.decided_block
  pub status : r'.status ≡ live → r.status ≡ live

module _ (m m' : Memory) (i : ℕ) (r' : Replica) (c : Certificate) (acts : Acts m m' i r' c) (mv : Moves m m') where
  pub stored_after : (r : Replica) → r'.stored_view ≡ r.stored_view → r'.stored_block ≡ r.stored_block → ReplicaSafe m i r
      → Origin m' r'.stored_view r'.stored_block
  stored_after r v b h = rw (v, b) (origin_after m m' mv h.stored)

  pub decided_after : (r : Replica) → r'.decided_view ≡ r.decided_view → r'.decided_block ≡ r.decided_block → ReplicaSafe m i r
      → ((r'.decided_view ≡ 0) × (r'.decided_block ≡ 0)) ⊎ Chosen m' r'.decided_view r'.decided_block
  decided_after r v b h = rw (v, b) (⊎_elim (λ z. inl z) (λ x. inr (chosen_after m m' mv x)) h.decided)

  pub replica_kept : (c.kind ≢ COMMIT) → (r : Replica) → Keeps r r' → ReplicaSafe m i r → ReplicaSafe m' i r'
  replica_kept another r keeps h =
      record {
        stored = stored_after r keeps.stored_view keeps.stored_block h;
        covers =
            λ e v x ch.
            let most = h.covers (keeps.status e) v (committed_same m m' i r' c acts another x) (choosable_before m m' mv ch) in
            let same = keeps.stored_view in
            omega arith;
        decided = decided_after r keeps.decided_view keeps.decided_block h;
      }

-- A replica has left every view that it committed in.
pub left_behind : (m : Memory) → Safe m → {v i : ℕ} → Committed m v i → v < (replica m i).min_view
left_behind m safe {v} {i} x =
    let c = clause m (certificate m x.number) COMMIT x.holds.kind (safe.log x.number x.issued) in
    rw (x.holds.view, x.holds.signer) at c.min_view

-- ---- a proposal's line: from a proposal of view g, of the parent of block b, to every view up to g

pub extend : (m : Memory) → Safe m → (g p b v : ℕ) → Proposed m g p → (b ≡ 0 → ⊥) → parent m b ≡ p → 1 ≤ v → v ≤ g → Choosable m v
    → Ancestor m v b
extend m safe g p b v x n e positive le ch =
    by-test (eqb v g)
    (λ t. let q : v ≡ g = omega tests in record { block = p; proposed = rw q x; ancestor = above self })
    (λ t.
    let prop = clause m (certificate m x.number) PROP x.holds.kind (safe.log x.number x.issued) in
    let view = x.holds.view in
    let a = rw x.holds.block at (prop.chain v positive (omega tests) ch) in
    record { block = a.block; proposed = a.proposed; ancestor = above a.ancestor })
  where
    above : {a : ℕ} → IsAncestor (parent m) a p → IsAncestor (parent m) a b
    above w = up n (rw e w)
