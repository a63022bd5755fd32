-- The blocks have no part in reading a call's code.
use Prim.Native.Nat.{ℕ}
use mathlib.Core.Path.{◌≡◌, refl, ap}
use mathlib.Core.List.{List, [], ◌∷◌}
use lib.ListN.{get_or}
use Rattle.protocol.specs.Memory.{memory}
use Rattle.codes.specs.Codes.{Coded, claimed_word, no_call, code_table, coded_call}

table_aside : (t l b : List ℕ) (replica number : ℕ) (list : List ℕ)
    → code_table (memory t l []) replica number list ≡ code_table (memory t l b) replica number list
unfolding code_table claimed_word
table_aside t l b replica number [] = refl
table_aside t l b replica number (x ∷ xs) = refl

pub coded_aside : (t l b : List ℕ) (code replica number : ℕ) (list : List ℕ)
    → coded_call (memory t l []) code replica number list ≡ coded_call (memory t l b) code replica number list
coded_aside t l b code replica number list =
    ap (λ (calls : List Coded). get_or calls code no_call) (table_aside t l b replica number list)
