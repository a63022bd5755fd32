-- One replica acts, and at most one certificate is issued: what a call of that sort leaves, and when the invariant holds after it.
use Prim.Native.Nat.{ℕ, ◌≤◌, ◌<◌}
use mathlib.Core.Path.{◌≡◌, refl, sym, ap, ◌∙◌, subst}
use mathlib.Core.Bool.{true}
use mathlib.Core.Logic.{◌≢◌}
use mathlib.Core.List.{List}
use native.Mathlib.Omega.{arith}
use lib.Dec.{ltb, eqb}
use Rattle.protocol.specs.Memory.{Memory, Replica, Certificate, Assignment, fault_bound_at, certificate_count_at, block_count_at}
use Rattle.protocol.specs.Memory.{fault_bound, certificate_count, block_count, replica, certificate, words, parent, raised, update}
use Rattle.protocol.specs.Form.{certificate_formed}
use Rattle.protocol.specs.Certificates.{PROP, COMMIT, file}
use Rattle.protocol.specs.Outcome.{Need}
use Rattle.protocol.specs.FirstNeeds.{is_replica}
use Rattle.protocol.specs.Calls.{issuing}
use Rattle.protocol.specs.Agreement.{Extends}
use Rattle.protocol.proofs.logic.Booleans.{tests, by-test, each}
use Rattle.protocol.proofs.calls.Needs.{Holds}
use Rattle.protocol.proofs.memory.Words.{within_row}
use Rattle.protocol.proofs.memory.Changes.{same_parent, changed, update_header, update_other, update_own, append_count, append_old}
use Rattle.protocol.proofs.memory.Changes.{append_new}
use Rattle.protocol.proofs.memory.Formed.{Formed, sizes}
use Rattle.protocol.proofs.memory.Filing.{file_cases, file_blocks, file_table, file_replica, file_lengths, must_have_room}
use Rattle.protocol.proofs.memory.Keeps.{issuing_needs}
use Rattle.protocol.proofs.agreement.Safety.{Commit, Committed, CertificateSafe, ReplicaSafe, OneProposal, Safe}
use Rattle.protocol.proofs.agreement.Moves.{Moves, certificate_after, replica_after}

-- Certificates are appended, at most one, and it is this one.
pub record Files (m m' : Memory) (c : Certificate) : Type 0 where
  pub grows : certificate_count m ≤ certificate_count m'
  pub old : (k : ℕ) → k < certificate_count m → certificate m' k ≡ certificate m k
  pub new : (k : ℕ) → certificate_count m ≤ k → k < certificate_count m' → certificate m' k ≡ c

-- Replica i becomes r', the others stay, and certificate c may be issued.
pub record Acts (m m' : Memory) (i : ℕ) (r' : Replica) (c : Certificate) : Type 0 where
  pub faults : fault_bound m' ≡ fault_bound m
  pub blocks : block_count m' ≡ block_count m
  pub parents : m'.blocks ≡ m.blocks
  pub own : replica m' i ≡ r'
  pub others : (j : ℕ) → j ≢ i → replica m' j ≡ replica m j
  pub files : Files m m' c

files_none : (m : Memory) (c : Certificate) → Files m m c
files_none m c = record { grows = omega arith; old = λ k l. refl; new = λ k a b. absurd (omega arith) }

pub update_acts : (m : Memory) (i : ℕ) (cs : List Assignment) (c : Certificate) → Formed m → is_replica m i ≡ true
    → within_row cs ≡ true → Acts m (update m i cs) i (changed cs (replica m i)) c
unfolding update
update_acts m i cs c h own within =
    let z = sizes m h in
    let count = update_header m i cs within certificate_count_at (omega arith) in
    record {
      faults = update_header m i cs within fault_bound_at (omega arith);
      blocks = update_header m i cs within block_count_at (omega arith);
      parents = refl;
      own = update_own m i cs within (omega tests);
      others = λ j q. update_other m i cs within j q;
      files = record { grows = omega arith; old = λ k l. refl; new = λ k a b. absurd (omega arith) };
    }

pub issuing_acts : (m : Memory) (needs : List Need) (i : ℕ) (cs : List Assignment) (c : Certificate)
    → Holds (issuing m needs i cs c).needs → Formed m → is_replica m i ≡ true → within_row cs ≡ true
    → Acts m (issuing m needs i cs c).after i (changed cs (replica m i)) c
unfolding issuing update
issuing_acts m needs i cs c hold h own within =
    let z = sizes m h in
    let ws = words c in
    let same = file_replica m ws refl in
    let s = file_lengths m ws refl in
    let count = update_header (file m ws) i cs within certificate_count_at (omega arith) in
    let filed : Files m (file m ws) c =
    file_cases (λ x. Files m x c) m ws (λ e. files_none m c)
    (λ e.
    let room = must_have_room m ws (issuing_needs m needs i cs c hold).1 e in
    let more = append_count m ws refl (omega arith) in
    record {
      grows = omega arith;
      old = λ k l. append_old m ws refl k l;
      new = λ k a b. let q : k ≡ certificate_count m = omega arith in rw q (append_new m ws refl (omega tests));
    }) in
    record {
      faults = update_header (file m ws) i cs within fault_bound_at (omega arith) ∙ file_table m ws refl fault_bound_at (omega arith);
      blocks = update_header (file m ws) i cs within block_count_at (omega arith) ∙ file_table m ws refl block_count_at (omega arith);
      parents = file_blocks m ws refl;
      own = update_own (file m ws) i cs within (omega tests) ∙ ap (changed cs) (same i);
      others = λ j q. update_other (file m ws) i cs within j q ∙ same j;
      files = record { grows = omega (arith, filed.grows); old = filed.old; new = λ k a b. filed.new k a (omega arith) };
    }

-- ---- from what the replica does to what every call does

-- No lowest view and no limit falls; a flag falls only where the lowest view rises, or reaches the limit.
pub record Advances (r r' : Replica) : Type 0 where
  pub min_view : r.min_view ≤ r'.min_view
  pub limit : r.view_limit ≤ r'.view_limit
  pub flag : r'.min_view < r.view_limit → r'.min_view ≡ r.min_view → r.flag ≡ raised → r'.flag ≡ raised

pub record CommitsNow (i : ℕ) (r r' : Replica) (c : Certificate) : Type 0 where
  pub signer : c.signer ≡ i
  pub could : r.min_view ≤ c.view
  pub left : c.view < r'.min_view

-- No block is added, and no decided word changes.
pub record Quiet (m m' : Memory) : Type 0 where
  pub blocks : block_count m' ≡ block_count m
  pub parents : (b : ℕ) → parent m' b ≡ parent m b
  pub decided_view : (j : ℕ) → (replica m' j).decided_view ≡ (replica m j).decided_view
  pub decided_block : (j : ℕ) → (replica m' j).decided_block ≡ (replica m j).decided_block

-- The invariant holds on, and the history sees nothing.
pub record GoesOn (m m' : Memory) : Type 0 where
  pub safe : Safe m'
  pub moves : Moves m m'
  pub quiet : Quiet m m'

module _ (m m' : Memory) (i : ℕ) (r' : Replica) (c : Certificate) (acts : Acts m m' i r' c) where
  -- Whatever holds of each replica's step: of the one that acts, and of those that stay.
  each_replica : (P : Replica → Replica → Type 0) → P (replica m i) r' → ((r : Replica) → P r r) → (j : ℕ)
      → P (replica m j) (replica m' j)
  each_replica P mine stay j =
      by-test (eqb j i)
      (λ e. let q : j ≡ i = omega tests in rw q (subst (P (replica m i)) (sym acts.own) mine))
      (λ e. subst (P (replica m j)) (sym (acts.others j (omega tests))) (stay (replica m j)))

  -- Whatever holds of the certificates of before and of the one issued holds of all.
  each_certificate : (P : Certificate → Type 0) → ((k : ℕ) → k < certificate_count m → P (certificate m k)) → P c → (k : ℕ)
      → k < certificate_count m' → P (certificate m' k)
  each_certificate P old new k l =
      by-test (ltb k (certificate_count m)) (λ e. subst P (sym (acts.files.old k (omega tests))) (old k (omega tests)))
      (λ e. subst P (sym (acts.files.new k (omega tests) l)) new)

  pub extends : Extends m m'
  extends =
      let same = acts.blocks in
      record {
        certificates = acts.files.grows;
        certificate = acts.files.old;
        blocks = omega arith;
        parent = λ b l. same_parent m m' acts.parents b;
      }

  pub moves : Advances (replica m i) r' → (c.kind ≡ COMMIT → CommitsNow i (replica m i) r' c) → Moves m m'
  moves adv commits =
      record {
        faults = acts.faults;
        extends = extends;
        min_views = each_replica (λ r s. r.min_view ≤ s.min_view) adv.min_view (λ r. omega arith);
        limits = each_replica (λ r s. r.view_limit ≤ s.view_limit) adv.limit (λ r. omega arith);
        flags =
            each_replica
            (λ r s. s.min_view < r.view_limit → s.min_view ≡ r.min_view → r.flag ≡ raised → s.flag ≡ raised)
            adv.flag (λ r a b e. e);
        commits =
            λ k a b kind.
            let new = acts.files.new k a b in
            let mine = commits (ap (λ (x : Certificate). x.kind) (sym new) ∙ kind) in
            let row : (replica m' i).min_view ≡ r'.min_view = ap (λ (r : Replica). r.min_view) acts.own in
            subst
            (λ (x : Certificate). ((replica m x.signer).min_view ≤ x.view) × (x.view < (replica m' x.signer).min_view)) (sym new)
            (rw mine.signer (mine.could, omega (arith, mine.left)));
      }

  -- Where no COMMIT is issued, the COMMITs are those of before.
  pub committed_same : (c.kind ≢ COMMIT) → {v j : ℕ} → Committed m' v j → Committed m v j
  committed_same another {v} {j} x =
      by-test (ltb x.number (certificate_count m))
      (λ e.
      record {
        number = x.number;
        issued = omega tests;
        holds = subst (Commit v j) (acts.files.old x.number (omega tests)) x.holds;
      })
      (λ e.
      absurd
      (another
      (ap (λ (y : Certificate). y.kind) (sym (acts.files.new x.number (omega tests) x.issued)) ∙ x.holds.kind)))

  -- ---- the invariant after it

  pub safe_after : Safe m → Formed m' → Moves m m' → CertificateSafe m' c → ReplicaSafe m' i r'
      → (c.kind ≡ PROP → (k : ℕ) → k < certificate_count m → OneProposal (certificate m k) c) → Safe m'
  unfolding certificate_formed
  safe_after safe formed mv new mine first =
      record {
        formed = formed;
        log =
            each_certificate (CertificateSafe m')
            (λ k l.
            let f = each _ (safe.formed.log k l) in
            certificate_after m m' mv (certificate m k) safe.formed (omega tests) (safe.log k l))
            new;
        rows =
            λ j l.
            let same = acts.faults in
            by-test (eqb j i)
            (λ e. let q : j ≡ i = omega tests in rw q (subst (ReplicaSafe m' i) (sym acts.own) mine))
            (λ e.
            let stays = acts.others j (omega tests) in
            subst (ReplicaSafe m' j) (sym stays) (replica_after m m' mv j stays (safe.rows j (omega arith))));
        one_per_view =
            λ k d a b.
            each_certificate (λ x. OneProposal x (certificate m' d))
            (λ k l. each_certificate (OneProposal (certificate m k)) (λ d j. safe.one_per_view k d l j) (λ x y e. first y k l x y e) d b)
            (each_certificate (OneProposal c) (λ d j x y e. sym (first x d j y x (sym e))) (λ x y e. refl) d b)
            k a;
      }

  -- ---- and what the history sees of it: nothing, where no decided word changes

  pub quiet_after : r'.decided_view ≡ (replica m i).decided_view → r'.decided_block ≡ (replica m i).decided_block → Quiet m m'
  quiet_after v b =
      record {
        blocks = acts.blocks;
        parents = same_parent m m' acts.parents;
        decided_view = each_replica (λ r s. s.decided_view ≡ r.decided_view) v (λ r. refl);
        decided_block = each_replica (λ r s. s.decided_block ≡ r.decided_block) b (λ r. refl);
      }

  pub goes_on : Safe m → Formed m' → Moves m m' → CertificateSafe m' c → ReplicaSafe m' i r'
      → (c.kind ≡ PROP → (k : ℕ) → k < certificate_count m → OneProposal (certificate m k) c)
      → r'.decided_view ≡ (replica m i).decided_view → r'.decided_block ≡ (replica m i).decided_block → GoesOn m m'
  goes_on safe formed mv new mine first v b =
      record { safe = safe_after safe formed mv new mine first; moves = mv; quiet = quiet_after v b }
