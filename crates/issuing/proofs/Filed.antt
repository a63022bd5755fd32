-- A call that issues a certificate, once its other needs hold: what it gives, from what filing the certificate gives.
use Prim.Native.Nat.{ℕ}
use mathlib.Core.Path.{◌≡◌, ap, sym, ◌∙◌}
use mathlib.Core.Bool.{true, false}
use mathlib.Core.List.{List, []}
use native.Mathlib.Omega.{arith}
use Rattle.std.specs.Prelude.{Result, IsErr, IsErrAnd}
use Rattle.protocol.specs.declared.Values.{Values}
use Rattle.protocol.specs.declared.Refusal.{Refusal}
use Rattle.protocol.specs.Memory.{Memory, Certificate, Assignment, row_at, words, assign, update}
use Rattle.protocol.specs.Certificates.{number_for, found_or_appended, can_file, file}
use Rattle.protocol.specs.Outcome.{Outcome, first_refusal, number_of, acceptance, answered, follow, accepted, refused, refusal, left, told, no_room}
use Rattle.protocol.specs.Calls.{issuing}
use Rattle.protocol.proofs.logic.Booleans.{by-test}
use Rattle.certificates.specs.inner.Filing.{filing}
use Rattle.checks.proofs.Passing.{some_refusal, handed_up}

module _ (m : Memory) (i : ℕ) (changes : List Assignment) (c : Certificate) where
  none_filed : can_file m (words c) ≡ false → follow m (filing m (words c)) ≡ refusal no_room m
  unfolding follow filing answered first_refusal
  none_filed full = rw full

  files : can_file m (words c) ≡ true
      → follow m (filing m (words c)) ≡ acceptance (number_for m (words c)) (found_or_appended m (words c)) (file m (words c))
  unfolding follow filing answered first_refusal
  files can = rw can

  none_issued : can_file m (words c) ≡ false → follow m (issuing m [] i changes c) ≡ refusal no_room m
  unfolding follow issuing answered first_refusal
  none_issued full = rw full

  issues : can_file m (words c) ≡ true
      → follow m (issuing m [] i changes c)
      ≡ acceptance (number_for m (words c)) (found_or_appended m (words c)) (update (file m (words c)) i changes)
  unfolding follow issuing answered first_refusal
  issues can = rw can

  -- From what `file` gives.
  module _ {d : Certificate} (same : d ≡ c) {t l b : List ℕ} where
    pub full : (a : Result Values Refusal) (e : Refusal) → left (refused (number_of e)) t l b ≡ follow m (filing m (words d))
        → IsErr a × IsErrAnd a (λ r. r ≡ e) → left (told a) t l b ≡ follow m (issuing m [] i changes c)
    full a e filed up =
        let gives : left (refused (number_of e)) t l b ≡ follow m (filing m (words c)) = rw same at filed in
        by-test (can_file m (words c))
        (λ can.
        let number : number_of e ≡ 0 = ap (λ (o : Outcome). o.answer.number) (gives ∙ files can) in
        absurd (some_refusal e number))
        (λ none. rw (handed_up a e up) (gives ∙ none_filed none ∙ sym (none_issued none)))

    pub issued : (v : Values) → left (accepted v.first v.second) t l b ≡ follow m (filing m (words d)) → {t' : List ℕ}
        → t' ≡ assign t (row_at i) changes → left (accepted v.first v.second) t' l b ≡ follow m (issuing m [] i changes c)
    unfolding update
    issued v filed written =
        let gives : left (accepted v.first v.second) t l b ≡ follow m (filing m (words c)) = rw same at filed in
        by-test (can_file m (words c))
        (λ can.
        let as_filed = gives ∙ files can in
        rw written (ap (λ (o : Outcome). record { answer = o.answer; state = update o.state i changes }) as_filed ∙ sym (issues can)))
        (λ none.
        let number : ◌≡◌ {A = ℕ} 0 no_room = ap (λ (o : Outcome). o.answer.number) (gives ∙ none_filed none) in
        absurd (omega arith))
