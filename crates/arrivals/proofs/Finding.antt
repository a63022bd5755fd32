-- What the slot of an identity tells of the entries: whether it waits, its entry, and the entries without it.
use Prim.Native.Nat.{ℕ, zero, suc, ◌+◌, ◌*◌, ◌-◌, ◌/◌, ◌≤◌, ◌<◌}
use mathlib.Core.Path.{◌≡◌, refl, ap, ◌∙◌}
use mathlib.Core.Bool.{Bool, true, false}
use mathlib.Core.List.{List, [], ◌∷◌, ◌++◌}
use native.Mathlib.Omega.{arith}
use borrow.Author.Tests.{eqb-false}
use lib.Dec.{ltb, eqb}
use Rattle.std.specs.Prelude.{Option, None, Some}
use Rattle.std.specs.Option.{MatchOption, unwrap_or, is_some}
use Rattle.protocol.specs.inner.Groups.{any_holds}
use Rattle.protocol.proofs.logic.Booleans.{tests, by-test}
use Rattle.protocol.proofs.logic.Joined.{none_of}
use Rattle.entries.specs.declared.Entry.{Entry}
use Rattle.entries.specs.Entries.{waiting_count, entry, entries_from, entries, is_waiting, entry_of, without}
use Rattle.entries.proofs.Words.{from_append}
use Rattle.arrivals.specs.inner.Found.{NoneBelow, FirstWith, Found, has_identity, closed_up}

-- Entries passed, four at a time, of which none has the identity.
abbrev pub four : List ℕ → ℕ → ℕ → Bool
four w identity slot =
    any_holds
    (has_identity w identity slot
    ∷ has_identity w identity (slot + 1)
    ∷ has_identity w identity (slot + 2)
    ∷ has_identity w identity (slot + 3)
    ∷ [])

none_of_four : (w : List ℕ) (identity slot : ℕ) → four w identity slot ≡ false → (k : ℕ) → slot ≤ k → k < slot + 4
    → (entry w k).identity ≡ identity → ⊥
none_of_four w identity slot e k from to is =
    let has = has_identity w identity in
    let t = none_of (has slot ∷ has (slot + 1) ∷ has (slot + 2) ∷ has (slot + 3) ∷ []) e in
    by-test (eqb k slot) (λ q. let z : k ≡ slot = omega tests in eqb-false _ _ t.0 (rw z at is))
    (λ a. by-test (eqb k (slot + 1)) (λ q. let z : k ≡ slot + 1 = omega tests in eqb-false _ _ t.1.0 (rw z at is))
    (λ b. by-test (eqb k (slot + 2)) (λ q. let z : k ≡ slot + 2 = omega tests in eqb-false _ _ t.1.1.0 (rw z at is))
    (λ c. let z : k ≡ slot + 3 = omega tests in eqb-false _ _ t.1.1.1.0 (rw z at is))))

pub groups_passed : (w : List ℕ) (identity groups : ℕ) (found : Option ℕ)
    → MatchOption found ((k : ℕ) → 0 ≤ k → k < groups → four w identity (4 * k) ≡ false)
    (λ group.
    (0 ≤ group)
    × (group < groups)
    × (four w identity (4 * group) ≡ true)
    × ((k : ℕ) → 0 ≤ k → k < group → four w identity (4 * k) ≡ false))
    → (unwrap_or found groups ≤ groups) × NoneBelow w identity (4 * unwrap_or found groups)
groups_passed w identity groups None none =
    (omega arith, λ k l. none_of_four w identity (4 * (k / 4)) (none (k / 4) (omega arith) (omega arith)) k (omega arith) (omega arith))
groups_passed w identity groups (Some group) one =
    (omega arith, λ k l. none_of_four w identity (4 * (k / 4)) (one.3 (k / 4) (omega arith) (omega arith)) k (omega arith) (omega arith))

-- None from a slot on up to another; and none before both, where there is none before the first either.
abbrev pub NoneFrom : List ℕ → ℕ → ℕ → ℕ → Type 0
NoneFrom w identity from to = (k : ℕ) → from ≤ k → k < to → (entry w k).identity ≡ identity → ⊥

pub none_both : (w : List ℕ) (identity start slot : ℕ) → ((k : ℕ) → k < start → (entry w k).identity ≡ identity → ⊥)
    → NoneFrom w identity start slot → (k : ℕ) → k < slot → (entry w k).identity ≡ identity → ⊥
none_both w identity start slot before from k l is =
    by-test (ltb k start) (λ e. before k (omega tests) is) (λ e. from k (omega tests) l is)

-- None before a start, and the first from it on.
pub found_from : (w : List ℕ) (identity start count : ℕ) (found : Option ℕ) → NoneBelow w identity start
    → MatchOption found (NoneFrom w identity start count)
    (λ slot. (start ≤ slot) × (slot < count) × ((entry w slot).identity ≡ identity) × NoneFrom w identity start slot)
    → Found w identity count found
found_from w identity start count None before none = none_both w identity start count before none
found_from w identity start count (Some slot) before one =
    record {
      within = one.1;
      before = none_both w identity start slot before one.3;
      there = one.2;
    }

module _ (identity : ℕ) where
  -- Behind entries of which none has the identity, the rest tells.
  waits_later : (es fs : List Entry) → is_waiting identity es ≡ false → is_waiting identity (es ++ fs) ≡ is_waiting identity fs
  unfolding is_waiting
  waits_later [] fs h = refl
  waits_later (e ∷ es) fs h =
      by-test (eqb e.identity identity) (λ t. let z : true ≡ false = rw t at h in cc)
      (λ t. rw t (waits_later es fs (rw t at h)))

  found_later : (es fs : List Entry) → is_waiting identity es ≡ false → entry_of identity (es ++ fs) ≡ entry_of identity fs
  unfolding is_waiting entry_of
  found_later [] fs h = refl
  found_later (e ∷ es) fs h =
      by-test (eqb e.identity identity) (λ t. let z : true ≡ false = rw t at h in cc)
      (λ t. rw t (found_later es fs (rw t at h)))

  removed_later : (es fs : List Entry) → is_waiting identity es ≡ false → without identity (es ++ fs) ≡ es ++ without identity fs
  unfolding is_waiting without
  removed_later [] fs h = refl
  removed_later (e ∷ es) fs h =
      by-test (eqb e.identity identity) (λ t. let z : true ≡ false = rw t at h in cc)
      (λ t. rw t (ap (λ (l : List Entry). e ∷ l) (removed_later es fs (rw t at h))))

  none_before : (w : List ℕ) (n k : ℕ) → ((j : ℕ) → j < k + n → (entry w j).identity ≡ identity → ⊥)
      → is_waiting identity (entries_from w k n) ≡ false
  unfolding is_waiting entries_from
  none_before w zero k h = refl
  none_before w (suc n) k h =
      let other : eqb (entry w k).identity identity ≡ false =
      by-test (eqb (entry w k).identity identity) (λ t. absurd (h k (omega arith) (omega tests))) (λ t. t) in
      rw other (none_before w n (suc k) (λ j l. h j (omega arith)))

  pub not_found : (w : List ℕ) → NoneBelow w identity (waiting_count w) → is_waiting identity (entries w) ≡ false
  not_found w none = none_before w (waiting_count w) 0 (λ j b. none j (omega arith))

  module _ (w : List ℕ) (slot : ℕ) (f : FirstWith w identity (waiting_count w) slot) where
    cut : entries w ≡ entries_from w 0 slot ++ (entry w slot ∷ entries_from w (slot + 1) (waiting_count w - (slot + 1)))
    unfolding entries_from
    cut =
        let m = waiting_count w - (slot + 1) in
        let n : waiting_count w ≡ slot + suc m = omega (arith, f.within) in
        let k : slot + 1 ≡ suc slot = omega arith in
        let z : 0 + slot ≡ slot = omega arith in
        ap (entries_from w 0) n ∙ from_append w 0 slot (suc m) ∙ rw (z, k) refl

    own : eqb (entry w slot).identity identity ≡ true
    own = omega (tests, f.there)

    before : is_waiting identity (entries_from w 0 slot) ≡ false
    before = none_before w slot 0 (λ j b. f.before j (omega arith))

    pub found : is_waiting identity (entries w) ≡ true
    unfolding is_waiting
    found = ap (is_waiting identity) cut ∙ waits_later (entries_from w 0 slot) _ before ∙ rw own refl

    pub found_entry : entry_of identity (entries w) ≡ entry w slot
    unfolding entry_of
    found_entry = ap (entry_of identity) cut ∙ found_later (entries_from w 0 slot) _ before ∙ rw own refl

    pub found_others : without identity (entries w) ≡ closed_up w slot
    unfolding without
    found_others = ap (without identity) cut ∙ removed_later (entries_from w 0 slot) _ before ∙ rw own refl

  -- Whether one was found is whether it waits.
  pub waits : (w : List ℕ) (found : Option ℕ) → Found w identity (waiting_count w) found → is_waiting identity (entries w) ≡ is_some found
  waits w None none = not_found w none
  waits w (Some slot) f = found w slot f
