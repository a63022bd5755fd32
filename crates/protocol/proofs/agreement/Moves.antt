-- What every call does to the memory, shown once, and what the invariant keeps from that alone.
use Prim.Native.Nat.{ℕ, zero, suc, ◌≤◌, ◌<◌}
use mathlib.Core.Path.{◌≡◌, sym, ap, subst}
use mathlib.Core.Logic.{◌⊎◌, inl, inr, ⊎_elim}
use mathlib.Core.List.{List, [], ◌∷◌}
use lib.ListN.{get_or}
use native.Mathlib.Omega.{arith}
use lib.Dec.{ltb}
use Rattle.protocol.specs.Memory.{Memory, Replica, Certificate, fault_bound, certificate_count, block_count, replica}
use Rattle.protocol.specs.Memory.{certificate, parent, raised}
use Rattle.protocol.specs.Certificates.{COMMIT}
use Rattle.protocol.specs.Agreement.{Extends}
use Rattle.protocol.proofs.logic.Booleans.{tests, by-test}
use Rattle.protocol.proofs.memory.Formed.{Formed, falls}
use Rattle.protocol.proofs.memory.Ancestors.{ancestor_same}
use Rattle.protocol.proofs.agreement.Safety.{Issued, Commit, Committed, Origin, CanCommit, Choosable, Chosen, Ancestor, PropSafe}
use Rattle.protocol.proofs.agreement.Safety.{ReportSafe, clauses, CertificateSafe, ReplicaSafe}

-- The log and the blocks only grow, no lowest view and no limit falls, a flag falls only with its lowest view's rise or its limit's reach,
-- and a new COMMIT stands in a view that its signer could still commit in and now has left.
pub record Moves (m m' : Memory) : Type 0 where
  pub faults : fault_bound m' ≡ fault_bound m
  pub extends : Extends m m'
  pub min_views : (i : ℕ) → (replica m i).min_view ≤ (replica m' i).min_view
  pub limits : (i : ℕ) → (replica m i).view_limit ≤ (replica m' i).view_limit
  pub flags :
      (i : ℕ) → (replica m' i).min_view < (replica m i).view_limit → (replica m' i).min_view ≡ (replica m i).min_view
      → (replica m i).flag ≡ raised → (replica m' i).flag ≡ raised
  pub commits :
      (c : ℕ) → certificate_count m ≤ c → c < certificate_count m' → (certificate m' c).kind ≡ COMMIT
      → ((replica m (certificate m' c).signer).min_view ≤ (certificate m' c).view)
      × ((certificate m' c).view < (replica m' (certificate m' c).signer).min_view)

-- One statement of a list carried to another list's, at the same place.
abbrev Carries : List (Type 0) → List (Type 0) → Type 0
Carries [] [] = Unit {0}
Carries [] (q ∷ qs) = ⊥
Carries (p ∷ ps) [] = ⊥
Carries (p ∷ ps) (q ∷ qs) = (p → q) × Carries ps qs

carried : (ps qs : List (Type 0)) → Carries ps qs → (k : ℕ) → get_or ps k (Unit {0}) → get_or qs k (Unit {0})
carried [] [] f k h = tt
carried [] (q ∷ qs) f k h = absurd f
carried (p ∷ ps) [] f k h = absurd f
carried (p ∷ ps) (q ∷ qs) f zero h = f.0 h
carried (p ∷ ps) (q ∷ qs) f (suc k) h = carried ps qs f.1 k h

module _ (m m' : Memory) (mv : Moves m m') where
  -- ---- forwards

  pub issued_after : (P : Certificate → Type 0) → Issued m P → Issued m' P
  issued_after P x =
      let old = x.issued in
      let more = mv.extends.certificates in
      record {
        number = x.number;
        issued = omega arith;
        holds = subst P (sym (mv.extends.certificate x.number x.issued)) x.holds;
      }

  pub origin_after : {v b : ℕ} → Origin m v b → Origin m' v b
  origin_after o = ⊎_elim (λ z. inl z) (λ p. inr (issued_after _ p)) o

  pub chosen_after : {v b : ℕ} → Chosen m v b → Chosen m' v b
  chosen_after h =
      record { members = h.members; quorum = rw mv.faults h.quorum; each = λ j w. issued_after _ (h.each j w) }

  pub ancestor_after : Formed m → {v b : ℕ} → b < block_count m → Ancestor m v b → Ancestor m' v b
  ancestor_after h l x =
      record {
        block = x.block;
        proposed = issued_after _ x.proposed;
        ancestor =
            ancestor_same (parent m) (parent m') (block_count m) (falls m h) (λ b l. sym (mv.extends.parent b l)) l x.ancestor;
      }

  -- ---- backwards

  -- A COMMIT was there, or its signer could still commit in its view and now has left it.
  pub committed_before : {v i : ℕ} → Committed m' v i
      → Committed m v i ⊎ (((replica m i).min_view ≤ v) × (v < (replica m' i).min_view))
  committed_before {v} {i} x =
      by-test (ltb x.number (certificate_count m))
      (λ e.
      inl
      (record {
        number = x.number;
        issued = omega tests;
        holds = subst (Commit v i) (mv.extends.certificate x.number (omega tests)) x.holds;
      }))
      (λ e.
      inr
      (rw (← x.holds.view, ← x.holds.signer)
      (mv.commits x.number (omega tests) x.issued x.holds.kind)))

  can_commit_before : {v i : ℕ} → CanCommit m' v i → CanCommit m v i
  can_commit_before {v} {i} h =
      let min_view = mv.min_views i in
      ⊎_elim (λ c. ⊎_elim (λ old. inl old) (λ new. inr new.0) (committed_before c)) (λ le. inr (omega arith)) h

  -- What may be decided now might have been before.
  pub choosable_before : {v : ℕ} → Choosable m' v → Choosable m v
  choosable_before h =
      record {
        members = h.members;
        quorum = rw mv.faults at h.quorum;
        each = λ j w. can_commit_before (h.each j w);
      }

  -- A COMMIT below its signer's lowest view was there before.
  pub committed_below : {v i : ℕ} → v < (replica m i).min_view → Committed m' v i → Committed m v i
  committed_below {v} {i} below c = ⊎_elim (λ old. old) (λ new. let min_view = new.0 in absurd (omega arith)) (committed_before c)

  -- ---- the clauses of an old certificate, and of a replica that stays as it was

  module _ (c : Certificate) where
    report_after : ReportSafe m c → ReportSafe m' c
    report_after h =
        let min_view = mv.min_views c.signer in
        let had = h.min_view in
        record {
          min_view = omega arith;
          origin = origin_after h.origin;
          covers = λ v l x ch. h.covers v l (committed_below (omega arith) x) (choosable_before ch);
        }

    prop_after : Formed m → c.block < block_count m → PropSafe m c → PropSafe m' c
    prop_after formed known h =
        let min_view = mv.min_views c.signer in
        let limit = mv.limits c.signer in
        record {
          leader = rw mv.faults h.leader;
          positive = h.positive;
          below = omega arith;
          min_view = omega arith;
          flag = λ e. mv.flags c.signer (omega arith) (omega arith) (h.flag (omega arith));
          chain = λ v a b ch. ancestor_after formed known (h.chain v a b (choosable_before ch));
        }

    pub certificate_after : Formed m → c.block < block_count m → CertificateSafe m c → CertificateSafe m' c
    certificate_after formed known h =
        let min_view = mv.min_views c.signer in
        carried (clauses m c) (clauses m' c) (
          λ x. tt,
          (
            prop_after formed known,
            (
              λ h. record { positive = h.positive; min_view = omega arith; proposed = issued_after _ h.proposed },
              (
                λ h. (report_after h.0, h.1),
                (
                  λ h.
                      record {
                        positive = h.positive;
                        older = h.older;
                        origin = origin_after h.origin;
                        covers = λ v a b ch. h.covers v a b (choosable_before ch);
                      },
                  (λ x. tt, (report_after, tt)),
                ),
              ),
            ),
          ),
        )
        c.kind h

  pub replica_after : (i : ℕ) → replica m' i ≡ replica m i → ReplicaSafe m i (replica m i) → ReplicaSafe m' i (replica m i)
  replica_after i same h =
      let min_view : (replica m' i).min_view ≡ (replica m i).min_view = ap (λ (r : Replica). r.min_view) same in
      record {
        stored = origin_after h.stored;
        covers =
            λ e v x ch.
            h.covers e v (⊎_elim (λ old. old) (λ new. let a = new.0 in let b = new.1 in absurd (omega arith)) (committed_before x))
            (choosable_before ch);
        decided = ⊎_elim (λ z. inl z) (λ c. inr (chosen_after c)) h.decided;
      }
