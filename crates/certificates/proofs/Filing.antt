-- What filing a certificate gives, and what that tells; and its words, written.
use Prim.Native.Nat.{ℕ, ◌+◌, ◌≤◌, ◌<◌}
use mathlib.Core.Path.{◌≡◌, refl, sym, ◌∙◌}
use mathlib.Core.Bool.{true, false}
use mathlib.Core.List.{List}
use lib.ListN.{length, set}
use lib.Dec.{ltb}
use Rattle.protocol.specs.Memory.{Memory, memory, certificate_count_at, certificate_at, append_certificate}
use Rattle.protocol.specs.Certificates.{first_below, has_words, number_for, is_filed, found, appended, log_has_room, can_file}
use Rattle.protocol.specs.Certificates.{file}
use Rattle.protocol.specs.Outcome.{first_refusal, answered, follow, accepted, refused, left, outcome_by, no_room}
use Rattle.protocol.proofs.logic.Booleans.{tests}
use Rattle.std.proofs.lemmas.Slice.{put_mid-paste}
use Rattle.std.proofs.lemmas.List.Edits.{sets, sets-eq}
use borrow.Rule.Slice.PartMut.{put_mid}
use lib.Seq.{take-length}
use Rattle.certificate_log.specs.inner.LogFits.{count_in}
use Rattle.certificates.specs.inner.Filing.{equal_from, is_equal, filing}

-- ---- what filing gives, from the number that the search gives

module _ (t l ws : List ℕ) (n : ℕ) (e : n ≡ first_below (count_in t) (is_equal l ws)) (b : List ℕ) where
  searched : number_for (memory t l b) ws ≡ n
  unfolding number_for has_words equal_from
  searched = sym e

  pub files_found : n < count_in t → left (accepted n found) t l b ≡ outcome_by (λ m. filing m ws) t l b
  unfolding follow answered first_refusal filing can_file file is_filed
  files_found h = let q : ltb n (count_in t) ≡ true = omega tests in rw (searched, q)

  pub files_appended : count_in t ≤ n → certificate_at (count_in t) < length l → {m' : Memory} → m' ≡ append_certificate (memory t l b) ws
      → record { answer = accepted n appended; state = m' } ≡ outcome_by (λ m. filing m ws) t l b
  unfolding follow answered first_refusal filing can_file file is_filed
  files_appended h r after =
      let q : ltb n (count_in t) ≡ false = omega tests in
      let room : log_has_room (memory t l b) ≡ true = omega tests in
      rw (after, searched, q, room)

  pub files_none : count_in t ≤ n → length l ≤ certificate_at (count_in t) → left (refused no_room) t l b ≡ outcome_by (λ m. filing m ws) t l b
  unfolding follow answered first_refusal filing can_file is_filed
  files_none h r =
      let q : ltb n (count_in t) ≡ false = omega tests in
      let full : log_has_room (memory t l b) ≡ false = omega tests in
      rw (searched, q, full)

-- ---- words, copied to the next slot

copied : (l ys ws : List ℕ) (start k : ℕ) → ys ≡ ws → k ≡ length ws → start + length ws ≤ length l → put_mid start k l ys ≡ sets l start ws
copied l ys ws start k same size fits =
    put_mid-paste start k l ys ws (length ws) same (sym size) refl
    ∙ rw (take-length ws) (sym (sets-eq ws l start fits))

pub written : (t l b ys ws : List ℕ) (k : ℕ) → ys ≡ ws → k ≡ length ws → certificate_at (count_in t) + length ws ≤ length l
    → memory (set t certificate_count_at (count_in t + 1)) (put_mid (certificate_at (count_in t)) k l ys) b
    ≡ append_certificate (memory t l b) ws
unfolding append_certificate
written t l b ys ws k same size fits = rw (copied l ys ws (certificate_at (count_in t)) k same size fits)
