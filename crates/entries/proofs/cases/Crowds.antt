-- As many entries as may wait, and as many movements as may be lent. To read 512 entries or 2,048 movements one by one takes long, so it is
-- shown once that each of them is the same; the rest of each row is by computation.
use Prim.Native.Nat.{ℕ, zero, suc, ◌+◌, ◌*◌, ◌≤◌, ◌<◌}
use mathlib.Core.Path.{◌≡◌, refl, ap, ◌∙◌}
use mathlib.Core.Bool.{true, false}
use mathlib.Core.List.{List, [], ◌∷◌, ◌++◌}
use native.Mathlib.Omega.{arith}
use lib.ListN.{length, get_or, replicate, get_or-append}
use lib.Seq.{get_or-append-add}
use Rattle.protocol.specs.Form.{all_hold, all_below}
use Rattle.protocol.specs.Outcome.{Answer, unknown_number, wrong_movement, wrong_identity, wrong_certificate, waiting_full, accepted, refused}
use Rattle.protocol.proofs.logic.Booleans.{all-hold, all-below}
use Rattle.movements.specs.declared.Movement.{Movement}
use Rattle.movements.specs.Movements.{movement, movement_allowed, movement_count, is_movement_list}
use Rattle.entries.specs.declared.Entry.{Entry}
use Rattle.entries.specs.Entries.{waiting_count, entry, entries_from, entries, entry_allowed, waiting_formed, is_waiting}
use Rattle.entries.specs.Waiting.{lent}
use Rattle.entries.specs.Arrivals.{LedgerCall, ledger_step}
use Rattle.entries.specs.cases.Rows.{made, enters, withdraws, matches, asks, RowHolds, RowsHold, EveryCaseHolds}
use Rattle.entries.specs.cases.Starts.{repeated, forked, waits, moves}
use Rattle.entries.specs.cases.Crowds.{crowd, one_free, full, crowd_cases, many, waiting7, many_cases}
use Rattle.protocol.proofs.cases.Rows.{◌and◌}
use Rattle.entries.proofs.cases.Rows.{wrong}

-- ---- words repeated

read : (n k o : ℕ) (ws rest : List ℕ) → length ws ≡ 4 → k < n → o < 4 → get_or (repeated n ws rest) (4 * k + o) 0 ≡ get_or ws o 0
read zero k o ws rest four h l = absurd (omega arith)
read (suc n) zero o ws rest four h l =
    let e : 4 * 0 + o ≡ o = omega arith in
    ap (λ (i : ℕ). get_or (ws ++ repeated n ws rest) i 0) e ∙ get_or-append ws (repeated n ws rest) 0 o (omega arith)
read (suc n) (suc k) o ws rest four h l =
    let e : 4 * suc k + o ≡ length ws + (4 * k + o) = omega arith in
    ap (λ (i : ℕ). get_or (ws ++ repeated n ws rest) i 0) e
    ∙ (get_or-append-add ws (repeated n ws rest) (4 * k + o) 0 ∙ read n k o ws rest four (omega arith) l)

-- ---- entries

abbrev same : Entry
same = made 5 0 1 3

module _ (n : ℕ) (rest : List ℕ) where
  word : (k o : ℕ) → k < n → o < 4 → get_or (crowd n rest) (123 + 4 * k + o) 0 ≡ get_or (waits 5 0 1 3) o 0
  word k o h l =
      let e : 123 + 4 * k + o ≡ 123 + (4 * k + o) = omega arith in
      ap (λ (i : ℕ). get_or (crowd n rest) i 0) e
      ∙ (get_or-append-add (n ∷ replicate 122 77) (repeated n (waits 5 0 1 3) rest) (4 * k + o) 0 ∙ read n k o (waits 5 0 1 3) rest refl h l)

  each : (k : ℕ) → k < n → entry (crowd n rest) k ≡ same
  each k h =
      rw (word k 0 h (omega arith), word k 1 h (omega arith), word k 2 h (omega arith), word k 3 h (omega arith)) refl

  allowed : all_below n (λ k. entry_allowed 3 (entry (crowd n rest) k)) ≡ true
  unfolding entry_allowed all_hold
  allowed = all-below n _ (λ k h. ap (entry_allowed 3) (each k h))

  listed : (k m : ℕ) → k + m ≤ n → entries_from (crowd n rest) k m ≡ replicate m same
  unfolding entries_from
  listed k zero h = refl
  listed k (suc m) h = rw (each k (omega arith), listed (suc k) m (omega arith)) refl

-- Rows on any slice of this form with these entries.
module _ (slice : List ℕ) (formed : waiting_formed 3 slice ≡ true) where
  abbrev Gives : LedgerCall → Answer → Type 0
  Gives call a = (ledger_step (lent forked slice) call).answer ≡ a

  module _ (counted : waiting_count slice ≡ 511) (new : is_waiting 7 (entries slice) ≡ false) where
    goes_in : Gives (enters 7 0 1 5) (accepted 0 0)
    unfolding wrong
    goes_in = rw (formed, new, counted) refl

  module _ (counted : waiting_count slice ≡ 512) where
    is_full : is_waiting 7 (entries slice) ≡ false → Gives (enters 7 0 1 5) (refused waiting_full)
    unfolding wrong
    is_full new = rw (formed, new, counted) refl

    waits_already : is_waiting 5 (entries slice) ≡ true → Gives (enters 5 0 1 5) (refused wrong_identity)
    unfolding wrong
    waits_already known = rw (formed, known) refl

    no_pallets : Gives (enters 5 0 1 0) (refused wrong_movement)
    unfolding wrong
    no_pallets = rw formed refl

    may_leave : is_waiting 5 (entries slice) ≡ true → Gives (withdraws 5) (accepted 0 0)
    unfolding wrong
    may_leave known = rw (formed, known) refl

    is-formed : get_or slice 3 0 ≡ 77 → get_or slice 4 0 ≡ 77 → Gives (asks 1) (accepted 77 77)
    unfolding wrong
    is-formed pallets earliest = rw (formed, pallets, earliest) refl

one_free_formed : waiting_formed 3 one_free ≡ true
unfolding waiting_formed
one_free_formed = all-hold _ (refl, (refl, (allowed 511 (replicate 4 77 ++ replicate 2048 0), tt)))

full_formed : waiting_formed 3 full ≡ true
unfolding waiting_formed
full_formed = all-hold _ (refl, (refl, (allowed 512 (replicate 2048 0), tt)))

one_free_new : is_waiting 7 (entries one_free) ≡ false
unfolding is_waiting
one_free_new = ap (is_waiting 7) (listed 511 (replicate 4 77 ++ replicate 2048 0) 0 511 (omega arith))

full_new : is_waiting 7 (entries full) ≡ false
unfolding is_waiting
full_new = ap (is_waiting 7) (listed 512 (replicate 2048 0) 0 512 (omega arith))

full_known : is_waiting 5 (entries full) ≡ true
unfolding is_waiting
full_known = ap (is_waiting 5) (listed 512 (replicate 2048 0) 0 512 (omega arith))

pub crowd-cases : EveryCaseHolds crowd_cases
unfolding EveryCaseHolds RowsHold RowHolds crowd_cases
crowd-cases =
    (goes_in one_free one_free_formed refl one_free_new and tt)
    and (is-formed full full_formed refl refl refl and tt)
    and (is_full full full_formed refl full_new and tt)
    and (waits_already full full_formed refl full_known and tt)
    and (no_pallets full full_formed refl and tt)
    and (may_leave full full_formed refl full_known and tt)
    and tt

-- ---- movements

abbrev moved : Movement
moved = record { block = 2; giver = 0; taker = 1; pallets = 5 }

abbrev AllAllowed : List ℕ → Type 0
AllAllowed movements = all_below (movement_count movements) (λ k. movement_allowed 3 5 (movement movements k)) ≡ true

-- Rows with any such list.
module _ (movements : List ℕ) (whole : is_movement_list movements ≡ true) (counted : movement_count movements ≡ 2048) where
  abbrev Matches : List ℕ → ℕ → Answer → Type 0
  Matches slice place a = (ledger_step (lent forked slice) (matches movements 0 7 place)).answer ≡ a

  past_the_last : Matches (waiting7 4218 1) 2048 (refused unknown_number)
  unfolding wrong
  past_the_last = rw (whole, counted) refl

  module _
      (tested : AllAllowed movements)
      (block : get_or movements 8188 0 ≡ 2)
      (giver : get_or movements 8189 0 ≡ 0)
      (taker : get_or movements 8190 0 ≡ 1)
      (pallets : get_or movements 8191 0 ≡ 5)
    where
      last_place : Matches (waiting7 4217 1) 2047 (accepted 0 0)
      unfolding wrong
      last_place = rw (whole, tested, counted, giver, taker, pallets, block) refl

      last_place_used : Matches (waiting7 4218 1) 2047 (refused wrong_certificate)
      unfolding wrong
      last_place_used = rw (whole, tested, counted, giver, taker, pallets, block) refl

many_each : (k : ℕ) → k < 2048 → movement (many 2048) k ≡ moved
many_each k h =
    let word : (o : ℕ) → o < 4 → get_or (many 2048) (4 * k + o) 0 ≡ get_or (moves 2 0 1 5) o 0
    = λ o l. read 2048 k o (moves 2 0 1 5) [] refl h l in
    rw (word 0 (omega arith), word 1 (omega arith), word 2 (omega arith), word 3 (omega arith)) refl

many_allowed : AllAllowed (many 2048)
unfolding movement_allowed all_hold
many_allowed = all-below 2048 _ (λ k h. ap (movement_allowed 3 5) (many_each k h))

pub many-cases : EveryCaseHolds many_cases
unfolding EveryCaseHolds RowsHold RowHolds many_cases is_movement_list all_hold
many-cases =
    (last_place (many 2048) refl refl many_allowed refl refl refl refl and tt)
    and (last_place_used (many 2048) refl refl many_allowed refl refl refl refl and tt)
    and (past_the_last (many 2048) refl refl and tt)
    and tt
