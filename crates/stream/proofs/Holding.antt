-- Bytes copied behind what is held of a line.
use Rattle.std.proofs.Common.{ℕ, ◌+◌, ◌-◌, ◌≤◌, ◌≡◌, sym, ap, ◌∙◌, List, ◌++◌, length, take, min, arith}
use Rattle.std.proofs.lemmas.List.{take_min}
use lib.Seq.{take-append-add}

-- A beginning, and as much of what follows as there is room for.
pub take_behind : (m : ℕ) (xs ys : List ℕ) {count : ℕ} → length xs ≤ m → count ≡ min (m - length xs) (length ys)
    → xs ++ take count ys ≡ take m (xs ++ ys)
take_behind m xs ys {count} h c =
    let e : m ≡ length xs + (m - length xs) = omega arith in
    let count_bytes : take count ys ≡ take (m - length xs) ys = rw c (take_min (m - length xs) ys) in
    ap (λ (l : List ℕ). xs ++ l) count_bytes
    ∙ sym (ap (λ (k : ℕ). take k (xs ++ ys)) e ∙ take-append-add xs ys (m - length xs))
