-- As many entries as may wait, and as many movements as may be lent: "512 may wait"; "at most 2,048 movements are lent".
use Rattle.std.specs.Prelude.{ℕ, List, [], ◌∷◌, ◌++◌, replicate}
use Rattle.std.proofs.lemmas.List.Edits.{sets}
use Rattle.protocol.specs.Outcome.{wrong_form, unknown_number, wrong_movement, wrong_identity, wrong_certificate, waiting_full, accepted, refused}
use Rattle.entries.specs.cases.Rows.{enters, withdraws, matches, asks, ◌gives◌, Case}
use Rattle.entries.specs.cases.Starts.{repeated, moves, waits, by_hand, on}

-- ---- entries

-- So many equal entries, by hand: an identity that waits several times breaks no form.
abbrev pub crowd : ℕ → List ℕ → List ℕ
crowd n rest = (n ∷ replicate 122 77) ++ repeated n (waits 5 0 1 3) rest

abbrev pub one_free : List ℕ
one_free = crowd 511 (replicate 4 77 ++ replicate 2048 0)

abbrev pub full : List ℕ
full = crowd 512 (replicate 2048 0)

-- One more goes in where 511 wait; 512 are of the form, and then none goes in, and one may leave. 11 before 13 before 14.
unfoldable pub crowd_cases : List Case
crowd_cases =
    on one_free (enters 7 0 1 5 gives accepted 0 0 ∷ [])
    ∷ on full (asks 1 gives accepted 77 77 ∷ [])
    ∷ on full (enters 7 0 1 5 gives refused waiting_full ∷ [])
    ∷ on full (enters 5 0 1 5 gives refused wrong_identity ∷ [])
    ∷ on full (enters 5 0 1 0 gives refused wrong_movement ∷ [])
    ∷ on full (withdraws 5 gives accepted 0 0 ∷ [])
    ∷ []

-- 513 are not of the form, though each by itself is: the words of the last one stand where those of the first places do.
abbrev pub one_too_many : Case
one_too_many = on (crowd 513 (replicate 2044 0)) (asks 1 gives refused wrong_form ∷ [])

-- ---- movements

abbrev pub many : ℕ → List ℕ
many n = repeated n (moves 2 0 1 5) []

-- A slice in which 7 waits, with one word set.
abbrev pub waiting7 : ℕ → ℕ → List ℕ
waiting7 k word = sets (by_hand 1 (waits 7 0 1 5)) k (word ∷ [])

-- Of 2,048 places the last is 2047, whose word is the slice's last.
unfoldable pub many_cases : List Case
many_cases =
    on (waiting7 4217 1) (matches (many 2048) 0 7 2047 gives accepted 0 0 ∷ [])
    ∷ on (waiting7 4218 1) (matches (many 2048) 0 7 2047 gives refused wrong_certificate ∷ [])
    ∷ on (waiting7 4218 1) (matches (many 2048) 0 7 2048 gives refused unknown_number ∷ [])
    ∷ []

abbrev pub one_movement_too_many : Case
one_movement_too_many = on (waiting7 4218 0) (matches (many 2049) 0 7 0 gives refused wrong_form ∷ [])

unfoldable pub past_the_most : List Case
past_the_most = one_too_many ∷ one_movement_too_many ∷ []
