-- Lists of certificates of which each of some replicas signs one.
use Prim.Native.Nat.{ℕ, ◌≤◌}
use mathlib.Core.Path.{◌≡◌, refl, ap, ◌∙◌}
use mathlib.Core.Bool.{Bool, true}
use mathlib.Core.List.{List, [], ◌∷◌, map}
use native.Mathlib.Omega.{arith}
use lib.ListN.{length}
use Rattle.protocol.specs.Memory.{Certificate}
use Rattle.protocol.specs.Quorum.{every, contains, distinct, signers, is_quorum, first_of, greatest}
use Rattle.protocol.proofs.logic.Booleans.{true_and, all-hold}
use Rattle.protocol.proofs.memory.Lists.{All, greatest-from}
use Rattle.protocol.proofs.progress.Each.{here, later}

module _ (made : ℕ → Certificate) where
  made_every : (test : Certificate → Bool) → ((i : ℕ) → test (made i) ≡ true) → (replicas : List ℕ) → every test (map made replicas) ≡ true
  unfolding every
  made_every test passes [] = refl
  made_every test passes (i ∷ rest) = true_and (passes i) (made_every test passes rest)

  made_signers : ((i : ℕ) → (made i).signer ≡ i) → (replicas : List ℕ) → signers (map made replicas) ≡ replicas
  made_signers own [] = refl
  made_signers own (i ∷ rest) = λ d. own i d ∷ made_signers own rest d

  -- Each passes the test, and the signers are the replicas.
  pub made_quorum : (test : Certificate → Bool) → ((i : ℕ) → test (made i) ≡ true) → ((i : ℕ) → (made i).signer ≡ i)
      → (replicas : List ℕ) → distinct replicas ≡ true → is_quorum test (map made replicas) ≡ true
  unfolding is_quorum
  made_quorum test passes own replicas different =
      all-hold _ (made_every test passes replicas, (ap distinct (made_signers own replicas) ∙ different, tt))

  -- What holds of each of them holds of the first, of a list that is not empty, and of all.
  pub made_first : (P : Certificate → Type 0) → ((i : ℕ) → P (made i)) → (replicas : List ℕ) → 1 ≤ length replicas
      → P (first_of (map made replicas))
  made_first P holds [] l = absurd (omega arith)
  made_first P holds (i ∷ rest) l = holds i

  made_all : (P : Certificate → Type 0) (replicas : List ℕ) → ((i : ℕ) → contains i replicas ≡ true → P (made i))
      → All P (map made replicas)
  made_all P [] holds = tt
  made_all P (i ∷ rest) holds = (holds i (here i rest), made_all P rest (λ j e. holds j (later i j rest e)))

  -- And of the one of greatest of-view.
  pub made_greatest : (P : Certificate → Type 0) (replicas : List ℕ) → 1 ≤ length replicas
      → ((i : ℕ) → contains i replicas ≡ true → P (made i)) → P (greatest (map made replicas))
  made_greatest P [] l holds = absurd (omega arith)
  made_greatest P (i ∷ rest) l holds = greatest-from P (made i) (map made (i ∷ rest)) (holds i (here i rest)) (made_all P (i ∷ rest) holds)
