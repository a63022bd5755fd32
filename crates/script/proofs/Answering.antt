-- The ways that a line is answered.
use Rattle.std.proofs.Common.{ℕ, ◌≤◌, ◌≡◌, refl, true, false, List, take, None, Some}
use Rattle.std.specs.Prelude.{Err}
use Rattle.protocol.specs.declared.Refusal.TheVariants.{Unreadable}
use Rattle.protocol.specs.Outcome.{told}
use Rattle.protocol.proofs.logic.Booleans.{by-test}
use Rattle.script.specs.Lines.{min_fields, max_fields, field_count, numbers, has_numbers}
use Rattle.script.specs.inner.Reading.{line_read}
use Rattle.script.specs.Session.{Session, Answered, answer_numbers, answer_line}
use Rattle.script.proofs.Reading.{readable}

module _ (line : List ℕ) where
  pub not_readable : None ≡ line_read line → has_numbers line ≡ false
  unfolding line_read
  not_readable e = by-test (has_numbers line) (λ t. let some = rw t at e in absurd (cc)) (λ f. f)

  pub is_read : {n : ℕ} → Some n ≡ line_read line → (has_numbers line ≡ true) × (n ≡ field_count line)
  unfolding line_read
  is_read e = by-test (has_numbers line) (λ t. let some = rw t at e in (t, cc)) (λ f. let none = rw f at e in absurd (cc))

  pub count : {n : ℕ} → Some n ≡ line_read line → (min_fields ≤ n) × (n ≤ max_fields)
  count e = let r = is_read e in let d = readable line r.0 in rw r.1 (d.enough, d.few)

  module _ (s : Session) where
    pub line_refused : None ≡ line_read line → ◌≡◌ {A = Answered} (record { answer = told (Err Unreadable); session = s }) (answer_line s line)
    unfolding answer_line
    line_refused e = rw (not_readable e) refl

    pub line_answered : {n : ℕ} (held : List ℕ) {o : Answered} → Some n ≡ line_read line
        → (has_numbers line ≡ true → take (field_count line) held ≡ numbers line (field_count line))
        → o ≡ answer_numbers s (take n held) → o ≡ answer_line s line
    unfolding answer_line
    line_answered held e h x =
        let r = is_read e in
        rw r.0 (rw (r.1, h r.0) at x)
