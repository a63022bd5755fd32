-- For callers: what makes the record that the functions ask for, and what an accepted list tells.
use Prim.Native.Nat.{ℕ, ◌<◌}
use mathlib.Core.Path.{◌≡◌, refl}
use mathlib.Core.Bool.{true}
use mathlib.Core.List.{List, [], ◌∷◌}
use native.Mathlib.Omega.{arith}
use lib.ListN.{length, get_or, length-map, get_or-map}
use Rattle.protocol.specs.Memory.{Memory, Certificate, certificate}
use Rattle.protocol.specs.Form.{lengths_fit, certificate_formed}
use Rattle.protocol.specs.Certificates.{COMMIT}
use Rattle.protocol.specs.Quorum.{is_quorum_size, is_issued, all_issued, certificates_of, first_of, is_quorum}
use Rattle.protocol.specs.Quorum.{is_commit_quorum}
use Rattle.protocol.proofs.logic.Booleans.{tests, each}
use Rattle.protocol.proofs.memory.Lists.{every_at}
use Rattle.protocol.proofs.memory.Formed.{Formed, sizes}
use Rattle.quorum.specs.inner.Lists.{Listed}

-- ---- before the call

-- The numbers of an issued list, in well-formed memory.
pub listed : (m : Memory) (list : List ℕ) → Formed m → all_issued m list ≡ true → Listed m.log list
unfolding lengths_fit certificate_formed
listed m list f e =
    record {
      in_log =
          λ i h.
          let issued = every_at (is_issued m) list 0 e i h in
          let lengths = each _ f.lengths in
          let fits = sizes m f in
          omega tests;
      signed =
          λ i h.
          let issued = every_at (is_issued m) list 0 e i h in
          let c = each _ (f.log (get_or list i 0) (omega tests)) in
          let fits = sizes m f in
          omega tests;
    }

pub some_listed : (m : Memory) (list : List ℕ) → is_quorum_size m list ≡ true → 0 < length list
some_listed m list e = omega tests

pub first-of : (m : Memory) (list : List ℕ) → 0 < length list → first_of (certificates_of m list) ≡ certificate m (get_or list 0 0)
first-of m [] h = absurd (omega arith)
first-of m (x ∷ xs) h = refl

-- ---- an accepted quorum

pub record IsCommit (view block : ℕ) (c : Certificate) : Type 0 where
  pub kind_is : c.kind ≡ COMMIT
  pub view_is : c.view ≡ view
  pub block_is : c.block ≡ block

pub commit_at : (m : Memory) (list : List ℕ) (view block : ℕ) → is_commit_quorum view block (certificates_of m list) ≡ true
    → (i : ℕ) → i < length list → IsCommit view block (certificate m (get_or list i 0))
unfolding is_quorum
commit_at m list view block e i h =
    let all = every_at _ (certificates_of m list) (certificate m 0) (each _ e).0 i (simp length-map h) in
    let w = each _ (rw (get_or-map (certificate m) list i 0) at all) in
    omega tests
