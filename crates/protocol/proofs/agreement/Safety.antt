-- The invariant of a list of calls, over what is read of the memory: certificates, replicas and parents, and no word's address.
use Prim.Native.Nat.{ℕ, ◌≤◌, ◌<◌}
use mathlib.Core.Path.{◌≡◌, subst}
use mathlib.Core.Bool.{true}
use mathlib.Core.Logic.{◌⊎◌}
use mathlib.Core.List.{List, [], ◌∷◌}
use lib.ListN.{get_or}
use Rattle.protocol.specs.Memory.{Memory, Replica, Certificate, replica_count, fault_bound, certificate_count, replica}
use Rattle.protocol.specs.Memory.{certificate, parent, live, raised}
use Rattle.protocol.specs.Certificates.{PROP, COMMIT}
use Rattle.protocol.specs.Leader.{leads}
use Rattle.protocol.specs.Quorum.{contains}
use Rattle.protocol.proofs.memory.Formed.{Formed}
use Rattle.protocol.proofs.memory.Ancestors.{IsAncestor}
use Rattle.protocol.proofs.agreement.Meeting.{Quorum}

-- ---- what the log holds

-- Some issued certificate has a property.
pub record Issued (m : Memory) (P : Certificate → Type 0) : Type 0 where
  pub number : ℕ
  pub issued : number < certificate_count m
  pub holds : P (certificate m number)

-- A PROP of view v and block b, a COMMIT of view v by replica i, and such a COMMIT to block b.
pub record Proposal (v b : ℕ) (c : Certificate) : Type 0 where
  pub kind : c.kind ≡ PROP
  pub view : c.view ≡ v
  pub block : c.block ≡ b

pub record Commit (v i : ℕ) (c : Certificate) : Type 0 where
  pub kind : c.kind ≡ COMMIT
  pub view : c.view ≡ v
  pub signer : c.signer ≡ i

pub record CommitTo (v b i : ℕ) (c : Certificate) : Type 0 where
  pub commit : Commit v i c
  pub block : c.block ≡ b

abbrev pub Proposed : Memory → ℕ → ℕ → Type 0
Proposed m v b = Issued m (Proposal v b)

abbrev pub Committed : Memory → ℕ → ℕ → Type 0
Committed m v i = Issued m (Commit v i)

-- Where a stored block comes from: block 0 in view 0, or a proposal.
abbrev pub Origin : Memory → ℕ → ℕ → Type 0
Origin m v b = ((v ≡ 0) × (b ≡ 0)) ⊎ Proposed m v b

-- Replica i has committed in view v, or still can.
abbrev pub CanCommit : Memory → ℕ → ℕ → Type 0
CanCommit m v i = Committed m v i ⊎ ((replica m i).min_view ≤ v)

-- View v may have been decided, or may yet be: a quorum has committed in it or still can.
pub record Choosable (m : Memory) (v : ℕ) : Type 0 where
  pub members : List ℕ
  pub quorum : Quorum (fault_bound m) members
  pub each : (j : ℕ) → contains j members ≡ true → CanCommit m v j

-- Block b is chosen in view v: a quorum has committed to it.
pub record Chosen (m : Memory) (v b : ℕ) : Type 0 where
  pub members : List ℕ
  pub quorum : Quorum (fault_bound m) members
  pub each : (j : ℕ) → contains j members ≡ true → Issued m (CommitTo v b j)

-- Some block that was proposed in view v is in the line of block b.
pub record Ancestor (m : Memory) (v b : ℕ) : Type 0 where
  pub block : ℕ
  pub proposed : Proposed m v block
  pub ancestor : IsAncestor (parent m) block b

-- ---- the clauses of a certificate

-- A PROP: its leader signed it below its limit, not above its lowest view, and there only with the flag raised; and each earlier view that
-- may be decided has a proposal in its line.
pub record PropSafe (m : Memory) (c : Certificate) : Type 0 where
  pub leader : leads (fault_bound m) c.view c.signer ≡ true
  pub positive : 1 ≤ c.view
  pub below : c.view < (replica m c.signer).view_limit
  pub min_view : c.view ≤ (replica m c.signer).min_view
  pub flag : c.view ≡ (replica m c.signer).min_view → (replica m c.signer).flag ≡ raised
  pub chain : (v : ℕ) → 1 ≤ v → v < c.view → Choosable m v → Ancestor m v c.block

-- A COMMIT: of a proposal, in a view that its signer has left.
pub record CommitSafe (m : Memory) (c : Certificate) : Type 0 where
  pub positive : 1 ≤ c.view
  pub min_view : c.view < (replica m c.signer).min_view
  pub proposed : Proposed m c.view c.block

-- A NEWVIEW or a REPLY: it reports a stored block, and no later view below its own that its signer committed in may be decided.
pub record ReportSafe (m : Memory) (c : Certificate) : Type 0 where
  pub min_view : c.view ≤ (replica m c.signer).min_view
  pub origin : Origin m c.of_view c.block
  pub covers : (v : ℕ) → v < c.view → Committed m v c.signer → Choosable m v → v ≤ c.of_view

-- A NEWVIEW besides: its view is not 0, and its block was stored in an earlier one.
pub record NewViewSafe (c : Certificate) : Type 0 where
  pub positive : 1 ≤ c.view
  pub older : c.of_view < c.view

-- An ACC: no later view below its own may be decided at all.
pub record AccSafe (m : Memory) (c : Certificate) : Type 0 where
  pub positive : 1 ≤ c.view
  pub older : c.of_view < c.view
  pub origin : Origin m c.of_view c.block
  pub covers : (v : ℕ) → 1 ≤ v → v < c.view → Choosable m v → v ≤ c.of_view

-- The clauses by kind, from 0: none, PROP, COMMIT, NEWVIEW, ACC, REQ, REPLY. Of a REQ nothing is claimed.
abbrev pub clauses : Memory → Certificate → List (Type 0)
clauses m c =
    Unit {0}
    ∷ PropSafe m c
    ∷ CommitSafe m c
    ∷ (ReportSafe m c × NewViewSafe c)
    ∷ AccSafe m c
    ∷ Unit {0}
    ∷ ReportSafe m c
    ∷ []

abbrev pub Clause : ℕ → Memory → Certificate → Type 0
Clause k m c = get_or (clauses m c) k (Unit {0})

abbrev pub CertificateSafe : Memory → Certificate → Type 0
CertificateSafe m c = Clause c.kind m c

-- The clause of a certificate whose kind is known.
pub clause : (m : Memory) (c : Certificate) (k : ℕ) → c.kind ≡ k → CertificateSafe m c → Clause k m c
clause m c k e h = subst (λ (k : ℕ). Clause k m c) e h

-- ---- the clauses of a replica

pub record ReplicaSafe (m : Memory) (i : ℕ) (r : Replica) : Type 0 where
  pub stored : Origin m r.stored_view r.stored_block
  pub covers : r.status ≡ live → (v : ℕ) → Committed m v i → Choosable m v → v ≤ r.stored_view
  pub decided : ((r.decided_view ≡ 0) × (r.decided_block ≡ 0)) ⊎ Chosen m r.decided_view r.decided_block

-- Of two PROPs of one view, one block.
abbrev pub OneProposal : Certificate → Certificate → Type 0
OneProposal c d = c.kind ≡ PROP → d.kind ≡ PROP → c.view ≡ d.view → c.block ≡ d.block

pub record Safe (m : Memory) : Type 0 where
  pub formed : Formed m
  pub log : (c : ℕ) → c < certificate_count m → CertificateSafe m (certificate m c)
  pub rows : (i : ℕ) → i < replica_count (fault_bound m) → ReplicaSafe m i (replica m i)
  pub one_per_view : (c d : ℕ) → c < certificate_count m → d < certificate_count m → OneProposal (certificate m c) (certificate m d)
