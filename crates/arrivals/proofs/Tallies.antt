-- A tally goes over the entries from the last to the first.
use Prim.Native.Nat.{ℕ, suc, ◌+◌, ◌*◌, ◌-◌, ◌≤◌, ◌<◌}
use mathlib.Core.Path.{◌≡◌, refl}
use mathlib.Core.List.{List}
use native.Mathlib.Omega.{arith}
use Rattle.movements.specs.Movements.{max_pallets}
use Rattle.entries.specs.Entries.{waiting_count, entry, entries_from, entries, pallets_for, earliest_for}
use Rattle.entries.proofs.Words.{from_length}
use Rattle.entries.proofs.Lists.{all_from, pallets_small}
use Rattle.arrivals.specs.declared.TakerTally.{TakerTally}
use Rattle.arrivals.specs.inner.Found.{tallied, tally_of}

-- Of the entries from one on, up to the last.
abbrev pub tally_from : List ℕ → ℕ → ℕ → ℕ → TakerTally
tally_from w taker count slot = tally_of taker (entries_from w slot (count - slot))

pub none_tallied : (w : List ℕ) (taker count : ℕ) → record { pallets = 0; earliest = 0 } ≡ tally_from w taker count count
unfolding entries_from pallets_for earliest_for
none_tallied w taker count = let z : count - count ≡ 0 = omega arith in rw z refl

pub one_tallied : (w : List ℕ) (taker count slot : ℕ) → 0 < slot → slot ≤ count
    → tallied (tally_from w taker count slot) (entry w (slot - 1)) taker ≡ tally_from w taker count (slot - 1)
unfolding entries_from pallets_for earliest_for
one_tallied w taker count slot some le = go (slot - 1) (count - slot) slot (omega arith) (count - (slot - 1)) (omega arith)
  where
    go : (k n next : ℕ) → next ≡ suc k → (more : ℕ) → more ≡ suc n
        → tallied (tally_of taker (entries_from w next n)) (entry w k) taker ≡ tally_of taker (entries_from w k more)
    go k n next e more f = rw (e, f) refl

pub all_tallied : (w : List ℕ) (taker slot : ℕ) → slot ≡ 0 → tally_from w taker (waiting_count w) slot ≡ tally_of taker (entries w)
all_tallied w taker slot e =
    let z : waiting_count w - slot ≡ waiting_count w = omega arith in
    rw (z, e) refl

pub few_pallets : (w : List ℕ) (taker n slot : ℕ) → ((k : ℕ) → k < slot + n → (entry w k).pallets ≤ max_pallets)
    → pallets_for taker (entries_from w slot n) ≤ n * max_pallets
few_pallets w taker n slot few =
    let size = from_length w slot n in
    rw size at (pallets_small taker max_pallets (entries_from w slot n) (all_from (λ e. e.pallets ≤ max_pallets) w slot n (λ k from below. few k below)))
