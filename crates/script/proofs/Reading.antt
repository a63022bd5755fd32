-- The ways that reading a line's numbers goes.
use Rattle.std.proofs.Common.{ℕ, ◌+◌, ◌*◌, ◌<◌, ◌≤◌, ◌≡◌, refl, sym, ap, ◌∙◌, true, List, [], ◌∷◌, ◌++◌, length, take, None, Some}
use lib.ListN.{set}
use lib.Seq.{take-suc-set, take-append-le}
use native.Mathlib.Numerals.{unary_clauses}
use Rattle.protocol.proofs.logic.Booleans.{tests, by-test, each, all-hold, at_below}
use Rattle.protocol.specs.Form.{all_below}
use Rattle.field.specs.Field.{columns, number_from, found}
use Rattle.field.proofs.Reading.{found_some, found_none}
use Rattle.reader.specs.declared.Reader.{Reader}
use Rattle.reader.specs.inner.Reading.{moved_on}
use Rattle.reader.proofs.Fields.{moves}
use Rattle.script.specs.Lines.{min_fields, max_fields, field_count, number_at, numbers, is_number, has_numbers}
use Rattle.script.specs.inner.Reading.{line_read}

module _ (line : List ℕ) where
  pub record Readable : Type 0 where
    pub whole : columns * field_count line ≡ length line
    pub enough : min_fields ≤ field_count line
    pub few : field_count line ≤ max_fields
    pub all : all_below (field_count line) (is_number line) ≡ true

  pub readable : has_numbers line ≡ true → Readable
  unfolding has_numbers
  readable t =
      let e = each _ t in
      record { whole = omega (tests, e.0); enough = omega (tests, e.1.0); few = omega (tests, e.1.1.0); all = e.1.1.1.0 }

  pub is_readable : Readable → has_numbers line ≡ true
  unfolding has_numbers
  is_readable r = all-hold _ (omega (tests, r.whole), (omega (tests, r.enough), (omega (tests, r.few), (r.all, tt))))

  -- A line that fails a test.
  pub not_read : {A : Type 0} → (Readable → ⊥) → (None ≡ line_read line) × (has_numbers line ≡ true → A)
  unfolding line_read
  not_read n = (by-test (has_numbers line) (λ t. absurd (n (readable t))) (λ e. rw e refl), λ t. absurd (n (readable t)))

  -- The field at index i, read from its column.
  module _ (i : ℕ) {column : ℕ} (c : column ≡ columns * i) where
    -- It is no number.
    pub refused_at : {A : Type 0} → i < field_count line → None ≡ found (number_from line column)
        → (None ≡ line_read line) × (has_numbers line ≡ true → A)
    refused_at h e =
        let no = found_none (rw c at e) in
        not_read (λ (d : Readable). let t = at_below _ _ d.all i h in absurd (omega (tests, t)))

    -- It is one.
    pub number-at : {n : ℕ} → Some n ≡ found (number_from line column) → (is_number line i ≡ true) × (n ≡ number_at line i)
    number-at e = let f = found_some (rw c at e) in let h = f.0 in (omega tests, sym f.1)

  -- The next starts after it.
  pub further : {r s : Reader} (i : ℕ) {n : ℕ} → r.line.now ≡ line → r.column ≡ columns * i → Some n ≡ found (number_from r.line.now r.column)
      → s ≡ moved_on r → (s.line.now ≡ line) × (s.column ≡ columns * (i + 1))
  further {r} {s} i e c some moved =
      let after = sym (moves r.line.now r.column some) in
      let column : s.column ≡ columns * (i + 1) = ap (λ (x : Reader). x.column) moved ∙ after ∙ omega (tests, c) in
      (ap (λ (x : Reader). x.line.now) moved ∙ e, column)

  pub one_more : (held : List ℕ) (i n : ℕ) → i < length held → n ≡ number_at line i → take i held ≡ numbers line i
      → take (i + 1) (set held i n) ≡ numbers line (i + 1)
  unfolding numbers
  one_more held i n h e u =
      simp (unary_clauses, e) (take-suc-set held i (number_at line i) h ∙ ap (λ (l : List ℕ). l ++ (number_at line i ∷ [])) u)

  -- Every field has a number.
  pub all_read : (held rest : List ℕ) {i : ℕ} → i ≡ field_count line → i ≤ length held → Readable → take i held ≡ numbers line i
      → (Some (field_count line) ≡ line_read line)
      × (has_numbers line ≡ true → take (field_count line) (held ++ rest) ≡ numbers line (field_count line))
  unfolding line_read
  all_read held rest e h r u =
      let fits : field_count line ≤ length held = omega (tests, e, h) in
      (rw (is_readable r) refl, λ t. take-append-le (field_count line) held rest fits ∙ (rw e at u))
