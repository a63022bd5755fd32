-- Words that become 0.
use Prim.Native.Nat.{ℕ, ◌+◌, ◌<◌}
use mathlib.Core.Path.{◌≡◌, sym, ◌∙◌}
use mathlib.Core.List.{List}
use native.Mathlib.Omega.{arith}
use lib.Dec.{eqb}
use lib.ListN.{length, get_or, set, replicate, length-replicate, get_or-replicate}
use lib.Seq.{get_or-set_same, get_or-set_other, ext_get_or}
use Rattle.protocol.proofs.logic.Booleans.{tests, by-test}

-- A list of zeros.
pub all_zero : (l : List ℕ) (n : ℕ) → length l ≡ n → ((i : ℕ) → i < n → get_or l i 0 ≡ 0) → l ≡ replicate n 0
all_zero l n size zeros =
    ext_get_or 0 l (replicate n 0) (size ∙ sym (length-replicate n 0))
    (λ i h. let below : i < n = omega arith in zeros i below ∙ sym (get_or-replicate n i 0 0 below))

pub one_more_zero : (l : List ℕ) (at : ℕ) → at < length l → ((i : ℕ) → i < at → get_or l i 0 ≡ 0) → (i : ℕ) → i < at + 1
    → get_or (set l at 0) i 0 ≡ 0
one_more_zero l at room zeros i h =
    by-test (eqb i at) (λ e. let q : i ≡ at = omega tests in rw q (get_or-set_same l at 0 0 room))
    (λ e. get_or-set_other l at i 0 0 (omega tests) ∙ zeros i (omega tests))
