-- What a list that passes its test tells: its signers are a quorum, each of its certificates has what was tested, and none has a greater
-- of-view than its greatest.
use Prim.Native.Nat.{ℕ, ◌≤◌, ◌<◌}
use mathlib.Core.Path.{◌≡◌, ◌∙◌}
use mathlib.Core.Bool.{Bool, true}
use mathlib.Core.Logic.{⊎_elim}
use mathlib.Core.List.{List, [], ◌∷◌}
use native.Mathlib.Omega.{arith}
use lib.ListN.{length-map}
use lib.Dec.{eqb}
use Rattle.protocol.specs.Memory.{Memory, Certificate, replica_count, fault_bound, certificate_count, certificate}
use Rattle.protocol.specs.Form.{certificate_formed}
use Rattle.protocol.specs.Quorum.{is_greater, greater, every, is_quorum_size, all_issued, certificates_of, first_of, contains}
use Rattle.protocol.specs.Quorum.{distinct, signers, greatest_from, greatest}
use Rattle.protocol.proofs.logic.Booleans.{tests, by-test, by_cond, and-true, each}
use Rattle.protocol.proofs.memory.Formed.{Formed}
use Rattle.protocol.proofs.memory.Lists.{All, all_named}
use Rattle.protocol.proofs.agreement.Meeting.{AllBelow, Quorum, meet}
use Rattle.protocol.proofs.agreement.Safety.{Choosable, ReportSafe}

-- ---- lists of certificates

all_every : (test : Certificate → Bool) (cs : List Certificate) → every test cs ≡ true → All (λ c. test c ≡ true) cs
unfolding every
all_every test [] e = tt
all_every test (c ∷ cs) e = let both = and-true (test c) (every test cs) e in (both.0, all_every test cs both.1)

all_both : (P Q : Certificate → Type 0) (cs : List Certificate) → All P cs → All Q cs → All (λ c. P c × Q c) cs
all_both P Q [] p q = tt
all_both P Q (c ∷ cs) p q = ((p.0, q.0), all_both P Q cs p.1 q.1)

-- What holds of every issued certificate and what a test of each of a list tells, together.
pub each_tested : (m : Memory) (P Q : Certificate → Type 0) (test : Certificate → Bool) (list : List ℕ) → all_issued m list ≡ true
    → ((k : ℕ) → k < certificate_count m → P (certificate m k)) → every test (certificates_of m list) ≡ true
    → ((c : Certificate) → P c → test c ≡ true → Q c) → All Q (certificates_of m list)
each_tested m P Q test list issued known tested both =
    go (certificates_of m list) (all_named P m list issued known) (all_every test (certificates_of m list) tested)
  where
    go : (cs : List Certificate) → All P cs → All (λ c. test c ≡ true) cs → All Q cs
    go [] p t = tt
    go (c ∷ cs) p t = (both c p.0 t.0, go cs p.1 t.1)

pub all_map : (P Q : Certificate → Type 0) (cs : List Certificate) → ((c : Certificate) → P c → Q c) → All P cs → All Q cs
all_map P Q [] f p = tt
all_map P Q (c ∷ cs) f p = (f c p.0, all_map P Q cs f p.1)

-- The certificate of a signer.
pub record SignedBy (P : Certificate → Type 0) (j : ℕ) : Type 0 where
  pub certificate : Certificate
  pub holds : P certificate
  pub signer : certificate.signer ≡ j

pub signed_by : (P : Certificate → Type 0) (cs : List Certificate) (j : ℕ) → All P cs → contains j (signers cs) ≡ true
    → SignedBy P j
unfolding contains
signed_by P [] j h e = let z : ◌≡◌ {A = ℕ} 0 1 = cc in absurd (omega arith)
signed_by P (c ∷ cs) j h e =
    by-test (eqb j c.signer) (λ t. record { certificate = c; holds = h.0; signer = omega tests })
    (λ t. signed_by P cs j h.1 (rw t at e))

greater_over : (best c : Certificate) → (best.of_view ≤ (greater best c).of_view) × (c.of_view ≤ (greater best c).of_view)
greater_over best c =
    let both : Certificate → Type 0 = λ x. (best.of_view ≤ x.of_view) × (c.of_view ≤ x.of_view) in
    by_cond both (is_greater c best) {x = c} {y = best} (λ e. omega tests) (λ e. omega tests)

greatest-from : (best : Certificate) (cs : List Certificate)
    → (best.of_view ≤ (greatest_from best cs).of_view) × All (λ c. c.of_view ≤ (greatest_from best cs).of_view) cs
unfolding greatest_from
greatest-from best [] = (omega arith, tt)
greatest-from best (c ∷ cs) =
    let over = greater_over best c in
    let rest = greatest-from (greater best c) cs in
    (omega (arith, over.0, rest.0), (omega (arith, over.1, rest.0), rest.1))

pub greatest_over : (cs : List Certificate) → All (λ c. c.of_view ≤ (greatest cs).of_view) cs
greatest_over cs = (greatest-from (first_of cs) cs).1

-- ---- a quorum of signers

signers_below : (n : ℕ) (cs : List Certificate) → All (λ c. c.signer < n) cs → AllBelow n (signers cs)
signers_below n [] h = tt
signers_below n (c ∷ cs) h = (h.0, signers_below n cs h.1)

pub quorum : (m : Memory) (list : List ℕ) → Formed m → is_quorum_size m list ≡ true → all_issued m list ≡ true
    → distinct (signers (certificates_of m list)) ≡ true → Quorum (fault_bound m) (signers (certificates_of m list))
unfolding certificate_formed
quorum m list h size issued different =
    record {
      size = length-map (certificates_of m list) (λ c. c.signer) ∙ length-map list (certificate m) ∙ (let s = size in omega tests);
      different = different;
      replicas =
          signers_below (replica_count (fault_bound m)) (certificates_of m list)
          (all_named (λ c. c.signer < replica_count (fault_bound m)) m list issued
          (λ k l. let f = each _ (h.log k l) in omega tests));
    }

-- A quorum of reports of view w covers every view below w that may be decided: the greatest of-view is at least that view.
pub covers : (m : Memory) (cs : List Certificate) (w : ℕ) → Quorum (fault_bound m) (signers cs)
    → All (λ c. ReportSafe m c × (c.view ≡ w)) cs → (v : ℕ) → v < w → Choosable m v → v ≤ (greatest cs).of_view
covers m cs w q reports v below ch =
    let s = meet (fault_bound m) ch.members (signers cs) ch.quorum q in
    let x =
    signed_by (λ c. (ReportSafe m c × (c.view ≡ w)) × (c.of_view ≤ (greatest cs).of_view)) cs s.member
    (all_both (λ c. ReportSafe m c × (c.view ≡ w)) (λ c. c.of_view ≤ (greatest cs).of_view) cs reports (greatest_over cs)) s.right in
    let r = x.holds.0.0 in
    let w' = x.holds.0.1 in
    let g = x.holds.1 in
    let min_view = r.min_view in
    ⊎_elim
    (λ c. let most = r.covers v (omega arith) (rw x.signer c) ch in omega arith)
    (λ le. let same = rw x.signer at min_view in absurd (omega arith))
    (ch.each s.member s.left)
