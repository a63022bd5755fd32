-- Filing a certificate: its number, found or the next; and whatever holds of the memory as it is and with the certificate appended holds
-- of the memory filed.
use Prim.Native.Nat.{ℕ, zero, suc, ◌≤◌, ◌<◌}
use mathlib.Core.Path.{◌≡◌, refl, sym, ◌∙◌, subst}
use mathlib.Core.Bool.{Bool, true, false, cond, false≢true}
use mathlib.Core.Logic.{◌≢◌}
use mathlib.Core.List.{List}
use native.Mathlib.Omega.{arith}
use lib.ListN.{length, get_or}
use lib.Dec.{ltb, eqb}
use Rattle.protocol.specs.Memory.{Memory, Certificate, certificate_count_at, certificate_count, replica, certificate_words, certificate}
use Rattle.protocol.specs.Memory.{words, append_certificate}
use Rattle.protocol.specs.Form.{all_below}
use Rattle.protocol.specs.Certificates.{first_below, has_words, number_for, is_filed, can_file, file, log_has_room}
use Rattle.protocol.specs.Theorems.{SameLengths}
use Rattle.protocol.proofs.logic.Booleans.{tests, by-test, by_cond, at_below}
use Rattle.protocol.proofs.memory.Changes.{certificate-of, append_lengths, append_table, append_replica}

pub file_cases : (P : Memory → Type 0) (m : Memory) (ws : List ℕ) → (is_filed m ws ≡ true → P m)
    → (is_filed m ws ≡ false → P (append_certificate m ws)) → P (file m ws)
unfolding file
file_cases P m ws old new = go (is_filed m ws) refl
  where
    go : (t : Bool) → is_filed m ws ≡ t → P (cond t m (append_certificate m ws))
    go true e = old e
    go false e = new e

-- ---- the number that it has or gets

first-below : (k : ℕ) (test : ℕ → Bool) → first_below k test ≤ k
unfolding first_below
first-below zero test = omega arith
first-below (suc k) test =
    let before = first-below k test in
    by_cond (λ (x : ℕ). x ≤ suc k) (ltb (first_below k test) k) (λ e. omega arith)
    (λ e. by_cond (λ (x : ℕ). x ≤ suc k) (test k) (λ e. omega arith) (λ e. omega arith))

-- A number that is found passes the test, and none before it does.
first_passes : (k : ℕ) (test : ℕ → Bool) → first_below k test < k → test (first_below k test) ≡ true
unfolding first_below
first_passes zero test = λ l. absurd (omega arith)
first_passes (suc k) test =
    by_cond (λ (x : ℕ). x < suc k → test x ≡ true) (ltb (first_below k test) k) (λ e l. first_passes k test (omega tests))
    (λ e. by_cond (λ (x : ℕ). x < suc k → test x ≡ true) (test k) (λ e l. e) (λ e l. absurd (omega arith)))

pub first_least : (k : ℕ) (test : ℕ → Bool) (i : ℕ) → i < first_below k test → test i ≡ false
unfolding first_below
first_least zero test i = λ l. absurd (omega arith)
first_least (suc k) test i =
    let before = first-below k test in
    by_cond (λ (x : ℕ). i < x → test i ≡ false) (ltb (first_below k test) k) (λ e. first_least k test i)
    (λ e.
    by_cond (λ (x : ℕ). i < x → test i ≡ false) (test k) (λ t l. first_least k test i (omega tests))
    (λ t l.
    by-test (eqb i k) (λ q. let same : i ≡ k = omega tests in rw same t) (λ q. first_least k test i (omega tests))))

module _ (m : Memory) (ws : List ℕ) where
  pub number_below : number_for m ws ≤ certificate_count m
  unfolding number_for
  number_below = first-below (certificate_count m) (has_words m ws)

  pub is-filed : number_for m ws < certificate_count m → is_filed m ws ≡ true
  unfolding is_filed
  is-filed l = omega tests

  pub filed_below : is_filed m ws ≡ true → number_for m ws < certificate_count m
  unfolding is_filed
  filed_below e = omega tests

  pub new_number : is_filed m ws ≡ false → number_for m ws ≡ certificate_count m
  unfolding is_filed
  new_number e = let le = number_below in omega tests

module _ (m : Memory) (c : Certificate) where
  -- Found, the certificate of that number is equal.
  pub filed_equal : is_filed m (words c) ≡ true → certificate m (number_for m (words c)) ≡ c
  unfolding number_for has_words
  filed_equal e =
      let has = first_passes (certificate_count m) (has_words m (words c)) (filed_below m (words c) e) in
      certificate-of m (number_for m (words c)) (words c)
      (λ k l. let same = at_below certificate_words _ has k l in omega tests)

  -- None before it is.
  pub none_before : (k : ℕ) → k < number_for m (words c) → certificate m k ≡ c → ⊥
  unfolding number_for has_words all_below
  none_before k l e =
      let other = first_least (certificate_count m) (has_words m (words c)) k l in
      let same : (x : ℕ) → eqb x x ≡ true = (λ x. omega tests) in
      let has : has_words m (words (certificate m k)) k ≡ true = (simp same refl) in
      false≢true (sym other ∙ subst (λ (c : Certificate). has_words m (words c) k ≡ true) e has)

-- ---- the memory that is left

-- A certificate that must be added has a slot.
pub must_have_room : (m : Memory) (ws : List ℕ) → can_file m ws ≡ true → is_filed m ws ≡ false → log_has_room m ≡ true
unfolding can_file
must_have_room m ws can e = rw e at can

module _ (m : Memory) (ws : List ℕ) (whole : length ws ≡ certificate_words) where
  pub file_lengths : SameLengths (file m ws) m
  file_lengths =
      file_cases (λ x. SameLengths x m) m ws (λ e. record { table = refl; log = refl; blocks = refl }) (λ e. append_lengths m ws whole)

  pub file_table : (k : ℕ) → k ≢ certificate_count_at → get_or (file m ws).table k 0 ≡ get_or m.table k 0
  file_table k q =
      file_cases (λ x. get_or x.table k 0 ≡ get_or m.table k 0) m ws (λ e. refl) (λ e. append_table m ws whole k q)

  pub file_blocks : (file m ws).blocks ≡ m.blocks
  unfolding append_certificate
  file_blocks = file_cases (λ x. x.blocks ≡ m.blocks) m ws (λ e. refl) (λ e. refl)

  pub file_replica : (i : ℕ) → replica (file m ws) i ≡ replica m i
  file_replica i = file_cases (λ x. replica x i ≡ replica m i) m ws (λ e. refl) (λ e. append_replica m ws whole i)
