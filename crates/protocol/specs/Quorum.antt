-- Lists of certificates (document 01, "Calls", the first paragraph, and what the calls with a list ask of it).
use Rattle.std.specs.Prelude.{ℕ, ◌+◌, Bool, true, false, cond, not, ◌&&◌, ◌||◌, List, [], ◌∷◌, map, length, ltb, eqb}
use Rattle.protocol.specs.Memory.{Memory, Certificate, fault_bound, certificate_count, certificate}
use Rattle.protocol.specs.Form.{all_hold}
use Rattle.protocol.specs.Certificates.{is_kind, COMMIT, NEWVIEW, REPLY}

-- A test holds of every item of a list.
unfoldable pub every : {A : Type 0} → (A → Bool) → List A → Bool
every test [] = true
every test (x ∷ xs) = test x && every test xs

-- "“List” is f+1 certificate numbers."
abbrev pub is_quorum_size : Memory → List ℕ → Bool
is_quorum_size m list = eqb (length list) (fault_bound m + 1)

-- A certificate number is below the count of issued ones.
abbrev pub is_issued : Memory → ℕ → Bool
is_issued m number = ltb number (certificate_count m)

abbrev pub all_issued : Memory → List ℕ → Bool
all_issued m list = every (is_issued m) list

abbrev pub certificates_of : Memory → List ℕ → List Certificate
certificates_of m list = map (certificate m) list

-- The first of a list, and a certificate of zeros where the list is empty, which no list of f+1 is.
abbrev pub first_of : List Certificate → Certificate
first_of [] = record { kind = 0; signer = 0; view = 0; block = 0; of_view = 0; subject = 0; subject_boot = 0; signer_boot = 0 }
first_of (c ∷ cs) = c

unfoldable pub contains : ℕ → List ℕ → Bool
contains x [] = false
contains x (y ∷ ys) = eqb x y || contains x ys

unfoldable pub distinct : List ℕ → Bool
distinct [] = true
distinct (x ∷ xs) = not (contains x xs) && distinct xs

-- "different signers"; document 02, #107: "Signers in a list differ by box, never by boot."
abbrev pub signers : List Certificate → List ℕ
signers cs = map (λ c. c.signer) cs

-- A quorum: a test holds of each certificate, and the signers are different.
unfoldable pub is_quorum : (Certificate → Bool) → List Certificate → Bool
is_quorum test cs = all_hold (every test cs ∷ distinct (signers cs) ∷ [])

-- "“Matching commits” are a list of COMMITs with equal view and block and different signers." A commit quorum, of this view and block.
abbrev pub is_commit_of : ℕ → ℕ → Certificate → Bool
is_commit_of view block c = all_hold (is_kind COMMIT c ∷ eqb c.view view ∷ eqb c.block block ∷ [])

abbrev pub is_commit_quorum : ℕ → ℕ → List Certificate → Bool
is_commit_quorum view block = is_quorum (is_commit_of view block)

-- Accumulate: "NEWVIEWs of one view, different signers."
abbrev pub is_new_view_of : ℕ → Certificate → Bool
is_new_view_of view c = all_hold (is_kind NEWVIEW c ∷ eqb c.view view ∷ [])

abbrev pub is_new_view_quorum : ℕ → List Certificate → Bool
is_new_view_quorum view = is_quorum (is_new_view_of view)

-- Recover: "REPLYs with this subject, its boot, view = low, different signers, none the box."
abbrev pub is_reply_to : ℕ → ℕ → ℕ → Certificate → Bool
is_reply_to replica boot view c =
    all_hold
    (is_kind REPLY c ∷ eqb c.subject replica ∷ eqb c.subject_boot boot ∷ eqb c.view view ∷ not (eqb c.signer replica) ∷ [])

abbrev pub is_reply_quorum : ℕ → ℕ → ℕ → List Certificate → Bool
is_reply_quorum replica boot view = is_quorum (is_reply_to replica boot view)

abbrev pub is_greater : Certificate → Certificate → Bool
is_greater c best = ltb best.of_view c.of_view

-- Of two, the one with the greater of-view; the first if they are equal.
abbrev pub greater : Certificate → Certificate → Certificate
greater best c = cond (is_greater c best) c best

-- "the greatest of-view, the first in the list if several": the one so far, against the rest of the list.
unfoldable pub greatest_from : Certificate → List Certificate → Certificate
greatest_from best [] = best
greatest_from best (c ∷ cs) = greatest_from (greater best c) cs

abbrev pub greatest : List Certificate → Certificate
greatest cs = greatest_from (first_of cs) cs
