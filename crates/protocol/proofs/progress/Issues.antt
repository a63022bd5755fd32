-- What an issuing call gives where its needs hold: the replica's words and the certificate under the answered number; and, where the
-- invariant holds and no equal one is issued, that the certificate is added.
use Prim.Native.Nat.{ℕ, ◌+◌, ◌≤◌, ◌<◌}
use mathlib.Core.Path.{◌≡◌, refl, sym, subst}
use mathlib.Core.Bool.{true, or-true}
use mathlib.Core.List.{List, [], ◌∷◌}
use native.Mathlib.Omega.{arith}
use Rattle.protocol.specs.Memory.{Memory, Replica, Certificate, Assignment, certificate_count_at, certificate_count, replica}
use Rattle.protocol.specs.Memory.{certificate}
use Rattle.protocol.specs.Memory.{words, update, append_certificate}
use Rattle.protocol.specs.Certificates.{number_for, is_filed, log_has_room, can_file, found, appended}
use Rattle.protocol.specs.Outcome.{Outcome, Need, ◌else◌, accepted, no_room, follow}
use Rattle.protocol.specs.FirstNeeds.{is_replica}
use Rattle.protocol.specs.Calls.{issuing}
use Rattle.protocol.specs.Theorems.{Accepted, SameLengths}
use Rattle.protocol.proofs.logic.Booleans.{tests}
use Rattle.protocol.proofs.calls.Needs.{Holds, none_refuses, joined_hold, accepts}
use Rattle.protocol.proofs.calls.Frame.{issuing_lengths}
use Rattle.protocol.proofs.memory.Words.{within_row}
use Rattle.protocol.proofs.memory.Formed.{Formed, sizes}
use Rattle.protocol.proofs.memory.Changes.{changed, update_header, append_count, append_new}
use Rattle.protocol.proofs.memory.Filing.{file_cases, filed_below, filed_equal, new_number, must_have_room}
use Rattle.protocol.proofs.memory.Keeps.{issuing_needs}
use Rattle.protocol.proofs.agreement.Safety.{Safe}
use Rattle.protocol.proofs.agreement.Acts.{Acts, issuing_acts}
use Rattle.protocol.proofs.requests.Repeats.{issuing_tells, issuing_appends}

-- The certificate is added, and the invariant holds on.
pub record Adds (m : Memory) (o : Outcome) : Type 0 where
  pub safe : Safe o.state
  pub answer : o.answer ≡ accepted (certificate_count m) appended
  pub count : certificate_count o.state ≡ certificate_count m + 1

-- Replica i becomes r', and certificate c stands under the answered number. Where S holds it is a new one.
pub record Issues (S : Type 0) (m : Memory) (o : Outcome) (i : ℕ) (r' : Replica) (c : Certificate) : Type 0 where
  pub accepted : Accepted o
  pub formed : Formed o.state
  pub acts : Acts m o.state i r' c
  pub lengths : SameLengths o.state m
  pub most : certificate_count o.state ≤ certificate_count m + 1
  pub number : o.answer.first < certificate_count o.state
  pub certificate : certificate o.state o.answer.first ≡ c
  pub adds : S → Adds m o

numbered : {n first second : ℕ} → first ≡ n → second ≡ appended → record { number = 0; first = first; second = second } ≡ accepted n appended
numbered e f = rw (e, f) refl

-- A certificate can be filed where a slot is free.
pub with_room : (m : Memory) (needs : List Need) (i : ℕ) (cs : List Assignment) (c : Certificate) → Holds needs → log_has_room m ≡ true
    → Holds (issuing m needs i cs c).needs
unfolding issuing can_file
with_room m needs i cs c hold room =
    joined_hold needs (can_file m (words c) else no_room ∷ []) hold (rw room (or-true (is_filed m (words c))), tt)

module _ (S : Type 0) (m : Memory) (needs : List Need) (i : ℕ) (cs : List Assignment) (c : Certificate) where
  -- The certificate filed, found or added.
  record Filed (x : Memory) : Type 0 where
    most : certificate_count x ≤ certificate_count m + 1
    number : number_for m (words c) < certificate_count x
    certificate : certificate x (number_for m (words c)) ≡ c

  filed : Holds (issuing m needs i cs c).needs → Formed m → within_row cs ≡ true → Filed (issuing m needs i cs c).after
  unfolding issuing update
  filed hold h within =
      let ws = words c in
      let z = sizes m h in
      file_cases (λ x. Filed (update x i cs)) m ws
      (λ e.
      let count = update_header m i cs within certificate_count_at (omega arith) in
      let below = filed_below m ws e in
      record { most = omega arith; number = omega arith; certificate = filed_equal m c e })
      (λ e.
      let room = must_have_room m ws (issuing_needs m needs i cs c hold).1 e in
      let more = append_count m ws refl (omega arith) in
      let count = update_header (append_certificate m ws) i cs within certificate_count_at (omega arith) in
      let next = new_number m ws e in
      record { most = omega arith; number = omega arith; certificate = rw next (append_new m ws refl (omega tests)) })

  pub issues : Holds (issuing m needs i cs c).needs → Formed m → is_replica m i ≡ true → within_row cs ≡ true
      → Formed (issuing m needs i cs c).after → (S → Safe (issuing m needs i cs c).after) → (S → (issuing m needs i cs c).second ≡ found → ⊥)
      → Issues S m (follow m (issuing m needs i cs c)) i (changed cs (replica m i)) c
  unfolding issuing
  issues hold h own within after safe new =
      let rule = issuing m needs i cs c in
      let x = filed hold h within in
      subst (λ o. Issues S m o i (changed cs (replica m i)) c) (accepts m rule (sym (none_refuses rule.needs hold)))
      (record {
        accepted = refl;
        formed = after;
        acts = issuing_acts m needs i cs c hold h own within;
        lengths = issuing_lengths m needs i cs c;
        most = x.most;
        number = x.number;
        certificate = x.certificate;
        adds =
            λ s.
            let second = issuing_appends m needs i cs c (new s) in
            let next = (issuing_tells m needs i cs c h within).if_appended second in
            record { safe = safe s; answer = numbered next.number second; count = next.count };
      })
