-- What was written reads back: a field, and the fields of a line.
use Prim.Native.Nat.{ℕ, zero, suc, ◌+◌, ◌*◌, ◌≤◌, ◌<◌}
use mathlib.Core.Path.{◌≡◌, refl, sym, ◌∙◌}
use mathlib.Core.Bool.{true}
use mathlib.Core.List.{List, [], ◌∷◌, ◌++◌}
use native.Mathlib.Omega.{arith}
use lib.ListN.{length, take, get_or, length-append}
use lib.Seq.{take_at, take_all, take-suc, drop-append-add}
use Rattle.protocol.proofs.logic.Booleans.{tests, all-below}
use Rattle.field.specs.Field.{columns, max_number, field_of}
use Rattle.field.specs.Theorems.{WrittenReadsBack}
use Rattle.field.proofs.Theorems.{length_field, written-reads-back}
use Rattle.script.specs.Lines.{min_fields, max_fields, field_count, number_at, numbers, is_number, has_numbers}
use Rattle.script.specs.Session.{Session, answer_numbers, answer_line}
use Rattle.script.specs.Text.{line_of}
use Rattle.script.proofs.Reading.{is_readable}

-- What is read from the first field of a line, and from any other.
module _ (n : ℕ) (small : n ≤ max_number) (rest : List ℕ) where
  pub field_here : number_at (field_of n ++ rest) 0 ≡ n
  unfolding WrittenReadsBack
  field_here = let w = written-reads-back n small in rw (take_at (field_of n) rest columns w.0) w.1

  pub field_after : (i : ℕ) → number_at (field_of n ++ rest) (suc i) ≡ number_at rest i
  unfolding WrittenReadsBack
  field_after i =
      let w = written-reads-back n small in
      let e : columns * suc i ≡ length (field_of n) + columns * i = omega (arith, w.0) in
      rw (e, drop-append-add)

-- Numbers that have a field.
abbrev pub Small : List ℕ → Type 0
Small [] = Unit {0}
Small (n ∷ ns) = (n ≤ max_number) × Small ns

length_line : (given : List ℕ) → Small given → length (line_of given) ≡ columns * length given
unfolding line_of
length_line [] h = refl
length_line (n ∷ given) h = rw (length-append, length_field n h.0, length_line given h.1) (omega arith)

module _ (given : List ℕ) where
  record ReadAt (i : ℕ) : Type 0 where
    same : number_at (line_of given) i ≡ get_or given i 0
    small : get_or given i 0 ≤ max_number

read_at : (given : List ℕ) → Small given → (i : ℕ) → i < length given → ReadAt given i
unfolding line_of
read_at [] h i l = absurd (omega arith)
read_at (n ∷ given) h zero l = record { same = field_here n h.0 (line_of given); small = h.0 }
read_at (n ∷ given) h (suc i) l =
    let rest = read_at given h.1 i (omega arith) in
    record { same = field_after n h.0 (line_of given) i ∙ rest.same; small = rest.small }

module _ (given : List ℕ) (small : Small given) where
  numbers_back : (k : ℕ) → k ≤ length given → numbers (line_of given) k ≡ take k given
  unfolding numbers
  numbers_back zero l = refl
  numbers_back (suc k) l =
      rw (numbers_back k (omega arith), (read_at given small k l).same) (sym (take-suc given k 0 l))

  count_back : field_count (line_of given) ≡ length given
  count_back = let e = length_line given small in omega arith

  -- A line of 3 to 34 such numbers gives what the numbers give.
  pub line_answer : min_fields ≤ length given → length given ≤ max_fields → (s : Session)
      → answer_line s (line_of given) ≡ answer_numbers s given
  unfolding answer_line
  line_answer enough few s =
      let count = count_back in
      let read : has_numbers (line_of given) ≡ true =
      is_readable (line_of given)
      (record {
        whole = omega (arith, length_line given small);
        enough = omega arith;
        few = omega arith;
        all =
            all-below (field_count (line_of given)) (is_number (line_of given))
            (λ i l. let r = read_at given small i (omega arith) in omega (tests, r.same, r.small));
      }) in
      rw (read, count, numbers_back (length given) (omega arith), take_all (length given) given (omega arith)) refl
