-- Certificates by the log's words alone: the test of one, and its two parts as the code makes them, of one and of a group.
use Rattle.std.specs.Prelude.{ℕ, zero, suc, ◌+◌, Bool, false, not, ◌||◌, List, [], ◌∷◌, get_or, ltb, eqb}
use Rattle.protocol.specs.Memory.{memory, certificate, ceiling, certificate_at, kind_at, signer_at, view_at, proposed_block_at, of_view_at}
use Rattle.protocol.specs.Memory.{subject_at, subject_boot_at, signer_boot_at}
use Rattle.protocol.specs.Form.{all_below, last_kind, certificate_formed}
use Rattle.protocol.specs.inner.Groups.{any_holds}

-- Of so many replicas and blocks.
abbrev pub certificate_ok : List ℕ → ℕ → ℕ → ℕ → Bool
certificate_ok log replicas added c = certificate_formed replicas added (certificate (memory [] log []) c)

-- The certificate whose words start at an index is of some kind;
unfoldable pub has_kind : List ℕ → ℕ → Bool
has_kind log at = not (eqb (get_or log (at + kind_at) 0) 0)

-- one of its words is above the greatest that it may be.
abbrev pub excesses : List ℕ → ℕ → ℕ → ℕ → List Bool
excesses log last_replica last_block at =
    ltb last_kind (get_or log (at + kind_at) 0)
    ∷ ltb last_replica (get_or log (at + signer_at) 0)
    ∷ ltb ceiling (get_or log (at + view_at) 0)
    ∷ ltb last_block (get_or log (at + proposed_block_at) 0)
    ∷ ltb ceiling (get_or log (at + of_view_at) 0)
    ∷ ltb last_replica (get_or log (at + subject_at) 0)
    ∷ ltb ceiling (get_or log (at + subject_boot_at) 0)
    ∷ ltb ceiling (get_or log (at + signer_boot_at) 0)
    ∷ []

unfoldable pub exceeds : List ℕ → ℕ → ℕ → ℕ → Bool
exceeds log last_replica last_block at = any_holds (excesses log last_replica last_block at)

-- A test holds of some number below a count.
unfoldable pub some_below : ℕ → (ℕ → Bool) → Bool
some_below zero test = false
some_below (suc k) test = some_below k test || test k

abbrev pub group_size : ℕ
group_size = 8

-- All of a group, whose words start at an index, are of some kind; one of them has a word above the greatest that it may be.
unfoldable pub group_has_kinds : List ℕ → ℕ → Bool
group_has_kinds log at = all_below group_size (λ j. has_kind log (at + certificate_at j))

unfoldable pub group_exceeds : List ℕ → ℕ → ℕ → ℕ → Bool
group_exceeds log last_replica last_block at = some_below group_size (λ j. exceeds log last_replica last_block (at + certificate_at j))
