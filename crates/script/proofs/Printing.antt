-- Text that grows by a field.
use Prim.Native.Nat.{ℕ, suc, ◌+◌, ◌*◌, ◌≤◌, ◌<◌}
use mathlib.Core.Path.{◌≡◌, sym, ap, ◌∙◌}
use mathlib.Core.List.{List, [], ◌∷◌, ◌++◌, append_assoc}
use lib.ListN.{length, take, set, length-append}
use lib.Seq.{take_at, take-suc-set, length-take-le}
use native.Mathlib.Omega.{arith}
use Rattle.protocol.specs.Outcome.{Answer}
use Rattle.field.specs.Field.{columns, max_number, field_of}
use Rattle.field.proofs.Theorems.{length_field}
use Rattle.script.specs.Text.{line_feed, answer_text, answer_bytes}

pub field_put : (text rest part : List ℕ) (at n : ℕ) → at ≤ length text → n ≤ max_number → part ≡ field_of n
    → take (at + columns) (take at text ++ (part ++ rest)) ≡ take at text ++ field_of n
field_put text rest part at n h small e =
    let long = length-append (take at text) (field_of n) in
    let short = length-take-le at text h in
    let eight = length_field n small in
    rw e
    (ap (λ (l : List ℕ). take (at + columns) l) (sym (append_assoc (take at text) (field_of n) rest))
    ∙ take_at (take at text ++ field_of n) rest (at + columns) (omega (arith, long, short, eight)))

-- Four fields and a line feed.
pub answer_put : (text t₁ t₂ t₃ t₄ : List ℕ) (at line : ℕ) (a : Answer)
    → take (at + columns) t₁ ≡ take at text ++ field_of line
    → take (at + columns + columns) t₂ ≡ take (at + columns) t₁ ++ field_of a.number
    → take (at + 2 * columns + columns) t₃ ≡ take (at + 2 * columns) t₂ ++ field_of a.first
    → take (at + 3 * columns + columns) t₄ ≡ take (at + 3 * columns) t₃ ++ field_of a.second
    → at + 4 * columns < length t₄
    → take (at + answer_bytes) (set t₄ (at + 4 * columns) line_feed) ≡ take at text ++ answer_text line a
unfolding answer_text
answer_put text t₁ t₂ t₃ t₄ at line a e₁ e₂ e₃ e₄ h =
    let k₂ : at + columns + columns ≡ at + 2 * columns = omega arith in
    let k₃ : at + 2 * columns + columns ≡ at + 3 * columns = omega arith in
    let k₄ : at + 3 * columns + columns ≡ at + 4 * columns = omega arith in
    let k₅ : at + answer_bytes ≡ suc (at + 4 * columns) = omega arith in
    rw k₅
    (take-suc-set t₄ (at + 4 * columns) line_feed h
    ∙ ap (λ (l : List ℕ). l ++ (line_feed ∷ []))
    ((rw k₄ at e₄) ∙ ap (λ (l : List ℕ). l ++ field_of a.second)
    ((rw k₃ at e₃) ∙ ap (λ (l : List ℕ). l ++ field_of a.first)
    ((rw k₂ at e₂) ∙ ap (λ (l : List ℕ). l ++ field_of a.number) e₁)))
    ∙ simp append_assoc)
