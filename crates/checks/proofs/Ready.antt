-- What the first needs of a call tell, once they hold, and what reading then asks: a replica's row, a certificate's words, a list's
-- certificates.
use Prim.Native.Nat.{ℕ, ◌+◌, ◌≤◌, ◌<◌}
use mathlib.Core.Path.{◌≡◌, refl}
use mathlib.Core.Bool.{true}
use mathlib.Core.List.{List}
use native.Mathlib.Omega.{arith}
use lib.ListN.{length, get_or, get_or-eq_default}
use lib.Dec.{ltb}
use Rattle.protocol.specs.Memory.{Memory, row_at, replica_words, certificate_count, certificate_at, certificate_words}
use Rattle.protocol.specs.Quorum.{is_quorum_size, is_issued, all_issued}
use Rattle.protocol.specs.Outcome.{first_refusal}
use Rattle.protocol.specs.FirstNeeds.{is_replica, replica_needs}
use Rattle.protocol.proofs.logic.Booleans.{tests, by-test}
use Rattle.protocol.proofs.memory.Lists.{every_at}
use Rattle.protocol.proofs.calls.Needs.{all_needs}
use Rattle.protocol.proofs.memory.Formed.{Formed, formed, Sizes, sizes}
use Rattle.quorum.specs.inner.Lists.{Listed}
use Rattle.quorum.proofs.Accepted.{listed, some_listed}

pub record Ready (m : Memory) (i : ℕ) : Type 0 where
  pub formed : Formed m
  pub sizes : Sizes m
  pub own : is_replica m i ≡ true

pub ready : (m : Memory) (i : ℕ) → first_refusal (replica_needs m i) ≡ 0 → Ready m i
ready m i e =
    let h = all_needs (replica_needs m i) refl e in
    let f = formed m h.0 in
    record { formed = f; sizes = sizes m f; own = h.1.0 }

pub row_within : (m : Memory) (i : ℕ) → Ready m i → row_at i + replica_words ≤ length m.table
row_within m i w = omega (tests, w.own, w.sizes)

pub record ReadyList (m : Memory) (list : List ℕ) : Type 0 where
  pub size : is_quorum_size m list ≡ true
  pub issued : all_issued m list ≡ true

module _ (m : Memory) (i : ℕ) (list : List ℕ) (w : Ready m i) (l : ReadyList m list) where
  pub all_listed : Listed m.log list
  all_listed = listed m list w.formed l.issued

  pub some_there : 0 < length list
  some_there = some_listed m list l.size

  -- Past the list's end `get_or` gives 0, which is issued too.
  pub issued_at : (k : ℕ) → get_or list k 0 < certificate_count m
  issued_at k =
      by-test (ltb k (length list)) (λ e. let here = every_at (is_issued m) list 0 l.issued k (omega tests) in omega tests)
      (λ e.
      let first = every_at (is_issued m) list 0 l.issued 0 some_there in
      let past = get_or-eq_default list 0 {n = k} (omega tests) in
      omega tests)

  pub listed_there : (k : ℕ) → certificate_at (get_or list k 0) + certificate_words ≤ length m.log
  listed_there k = omega (arith, w.sizes, issued_at k)
