-- What a code tells whatever the memory holds: whether there is a call, what is refused where there is none, and that a code other than 0
-- is no opening.
use Prim.Native.Nat.{ℕ, zero, suc}
use mathlib.Core.Path.{◌≡◌, refl}
use mathlib.Core.Bool.{Bool, true, false}
use mathlib.Core.List.{List, [], ◌∷◌}
use lib.ListN.{drop, get_or}
use Rattle.protocol.specs.declared.Call.{Call}
use Rattle.protocol.specs.Memory.{Memory}
use Rattle.protocol.specs.Theorems.{is_opening}
use Rattle.protocol.specs.declared.Refusal.{Refusal}
use Rattle.protocol.specs.declared.Refusal.TheVariants.{Unreadable}
use Rattle.std.specs.Prelude.{Ok, Err}
use Rattle.codes.specs.Codes.{Coded, no_call, when, code_table, coded_call}

same_unreadable : (t : Bool) (call call' : Call) → when t call ≡ no_call → when t call' ≡ no_call
unfolding when
same_unreadable true call call' e = cc
same_unreadable false call call' e = refl

-- What holds of each entry of a table, and where there is none, holds of the entry at a code.
abbrev Each : (Coded → Type 0) → List Coded → Type 0
Each P [] = Unit {0}
Each P (coded ∷ rest) = P coded × Each P rest

each_at : (P : Coded → Type 0) (table : List Coded) (k : ℕ) → P no_call → Each P table → P (get_or table k no_call)
each_at P [] k past h = past
each_at P (coded ∷ rest) zero past h = h.0
each_at P (coded ∷ rest) (suc k) past h = each_at P rest k past h.1

-- What is refused is refused as unreadable.
abbrev OnlyUnreadable : Coded → Type 0
OnlyUnreadable (Ok call) = Unit {0}
OnlyUnreadable (Err refusal) = refusal ≡ Unreadable

only_unreadable : (t : Bool) (call : Call) → OnlyUnreadable (when t call)
unfolding when
only_unreadable true call = tt
only_unreadable false call = refl

-- No call of these is an opening.
abbrev NoOpening : Coded → Type 0
NoOpening (Ok call) = is_opening call ≡ false
NoOpening (Err refusal) = Unit {0}

none : (t : Bool) (call : Call) → is_opening call ≡ false → NoOpening (when t call)
unfolding when
none true call e = e
none false call e = tt

module _ (replica number : ℕ) (list : List ℕ) where
  -- A Prepare on commits alone looks into the memory, and only for what it claims.
  pub unreadable_anywhere : (m m' : Memory) (code : ℕ) → coded_call m code replica number list ≡ no_call
      → coded_call m' code replica number list ≡ no_call
  unfolding code_table
  unreadable_anywhere m m' zero e = e
  unreadable_anywhere m m' (suc zero) e = e
  unreadable_anywhere m m' (suc (suc zero)) e = e
  unreadable_anywhere m m' (suc (suc (suc zero))) e = same_unreadable _ _ _ e
  unreadable_anywhere m m' (suc (suc (suc (suc code)))) e = e

  pub refused_unreadable : (m : Memory) (code : ℕ) {refusal : Refusal} → coded_call m code replica number list ≡ Err refusal
      → refusal ≡ Unreadable
  unfolding code_table
  refused_unreadable m code e =
      rw e at (each_at OnlyUnreadable (code_table m replica number list) code refl (search only_unreadable))

  pub no_opening : (m : Memory) (code : ℕ) {call : Call} → (code ≡ 0 → ⊥) → coded_call m code replica number list ≡ Ok call
      → is_opening call ≡ false
  unfolding code_table
  no_opening m zero n e = absurd (n refl)
  no_opening m (suc code) n e = rw e at (each_at NoOpening (drop 1 (code_table m replica number list)) code tt (search none))
