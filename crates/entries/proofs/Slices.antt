-- The further slice after each change: its form, and that it keeps for each taker what its entries tell.
use Prim.Native.Nat.{ℕ, ◌≤◌, ◌<◌}
use mathlib.Core.Path.{◌≡◌, refl, sym, ap, ◌∙◌}
use mathlib.Core.Bool.{true, false}
use mathlib.Core.List.{List, [], ◌∷◌, ◌++◌}
use native.Mathlib.Omega.{arith}
use lib.ListN.{length, get_or, set, replicate, length-append, length-set, length-replicate, get_or-replicate, get_or-eq_default}
use lib.Seq.{get_or-set_same, get_or-set_other}
use lib.Dec.{ltb, eqb}
use Rattle.protocol.proofs.logic.Booleans.{tests, by-test, each, all-hold, at_below, all-below}
use Rattle.movements.specs.Movements.{max_pallets}
use Rattle.entries.specs.declared.Entry.{Entry}
use Rattle.entries.specs.Entries.{max_waiting, max_replicas, kept_pallets_at, kept_earliest_at, place_at, waiting_words, waiting_count}
use Rattle.entries.specs.Entries.{kept_pallets, kept_earliest, entries_from, entries, entry_allowed, waiting_formed, is_waiting, entry_of}
use Rattle.entries.specs.Entries.{without, pallets_for, earliest_for, holding, refreshed}
use Rattle.entries.specs.Waiting.{departed}
use Rattle.entries.proofs.Words.{from_length, holding_length, holding_elsewhere, entries_held, refreshed_length}
use Rattle.entries.proofs.Words.{refreshed_elsewhere, entries_refreshed, entries_placed}
use Rattle.entries.proofs.Lists.{All, all_joined, all_without, all_of, all_from, from_all, without_length, pallets_joined}
use Rattle.entries.proofs.Lists.{earliest_joined, pallets_without, earliest_without}

-- ---- the form

pub record AllowedEntry (replicas : ℕ) (e : Entry) : Type 0 where
  pub taker : e.taker < replicas
  pub few : e.pallets ≤ max_pallets

pub is-allowed : (replicas : ℕ) (e : Entry) → entry_allowed replicas e ≡ true → AllowedEntry replicas e
unfolding entry_allowed
is-allowed replicas e h = let t = each _ h in omega tests

pub record Formed (replicas : ℕ) (w : List ℕ) : Type 0 where
  pub size : length w ≡ waiting_words
  pub few : waiting_count w ≤ max_waiting
  pub each : All (λ e. entry_allowed replicas e ≡ true) (entries w)

pub formed : (replicas : ℕ) (w : List ℕ) → waiting_formed replicas w ≡ true → Formed replicas w
unfolding waiting_formed
formed replicas w e =
    let t = each _ e in
    record {
      size = omega tests;
      few = omega tests;
      each =
          all_from (λ x. entry_allowed replicas x ≡ true) w 0 (waiting_count w)
          (λ i l r. at_below (waiting_count w) _ t.1.1.0 i (omega arith));
    }

pub form : (replicas : ℕ) (w : List ℕ) → Formed replicas w → waiting_formed replicas w ≡ true
unfolding waiting_formed
form replicas w h =
    all-hold _ (
      omega tests,
      (
        omega tests,
        (
          all-below (waiting_count w) _
              (λ i l. from_all (λ x. entry_allowed replicas x ≡ true) w 0 (waiting_count w) h.each i (omega arith) (omega arith)),
          tt,
        ),
      ),
    )

-- ---- a taker's two words

refreshed_pallets : (w : List ℕ) (taker : ℕ) → kept_pallets_at taker < length w
    → kept_pallets (refreshed w taker) taker ≡ pallets_for taker (entries w)
unfolding refreshed
refreshed_pallets w taker h =
    get_or-set_other (set w (kept_pallets_at taker) (pallets_for taker (entries w))) (kept_earliest_at taker) (kept_pallets_at taker)
    (earliest_for taker (entries w)) 0 (omega arith)
    ∙ get_or-set_same w (kept_pallets_at taker) (pallets_for taker (entries w)) 0 h

refreshed_earliest : (w : List ℕ) (taker : ℕ) → kept_earliest_at taker < length w
    → kept_earliest (refreshed w taker) taker ≡ earliest_for taker (entries w)
unfolding refreshed
refreshed_earliest w taker h =
    get_or-set_same (set w (kept_pallets_at taker) (pallets_for taker (entries w))) (kept_earliest_at taker) (earliest_for taker (entries w)) 0
    (simp length-set h)

-- ---- the entries of a slice, and what it keeps of them

pub record Slice (w : List ℕ) (es : List Entry) : Type 0 where
  pub size : length w ≡ waiting_words
  pub listed : entries w ≡ es
  pub few : length es ≤ max_waiting
  pub pallets : (taker : ℕ) → taker < max_replicas → kept_pallets w taker ≡ pallets_for taker es
  pub earliest : (taker : ℕ) → taker < max_replicas → kept_earliest w taker ≡ earliest_for taker es

pub slice_count : (w : List ℕ) → waiting_count w ≡ length (entries w)
slice_count w = sym (from_length w 0 (waiting_count w))

-- All words 0, as an opening leaves them.
abbrev pub cleared : List ℕ
cleared = replicate waiting_words 0

pub cleared_length : length cleared ≡ waiting_words
cleared_length = length-replicate {A = ℕ} waiting_words 0

pub cleared_word : (j : ℕ) → get_or cleared j 0 ≡ 0
cleared_word j =
    let size = cleared_length in
    by-test (ltb j waiting_words) (λ inside. get_or-replicate {A = ℕ} waiting_words j 0 0 (omega tests))
    (λ past. get_or-eq_default cleared 0 {n = j} (omega tests))

pub slice_cleared : Slice cleared []
unfolding entries_from pallets_for earliest_for
slice_cleared =
    record {
      size = cleared_length;
      listed = refl;
      few = omega arith;
      pallets = λ taker l. cleared_word (kept_pallets_at taker);
      earliest = λ taker l. cleared_word (kept_earliest_at taker);
    }

-- Other entries, that tell no taker anything else but one, whose two words are written anew.
module _ (w : List ℕ) (es : List Entry) (taker : ℕ) (size : length w ≡ waiting_words) (few : length es ≤ max_waiting)
    (own : taker < max_replicas) where
  pub rewritten_size : length (refreshed (holding w es) taker) ≡ waiting_words
  rewritten_size = refreshed_length (holding w es) taker ∙ holding_length w es ∙ size

  pub rewritten_entries : entries (refreshed (holding w es) taker) ≡ es
  rewritten_entries = entries_refreshed (holding w es) taker own ∙ entries_held w es few size

  -- The word of a place is none of them.
  pub rewritten_place : (place : ℕ) → get_or (refreshed (holding w es) taker) (place_at place) 0 ≡ get_or w (place_at place) 0
  rewritten_place place =
      refreshed_elsewhere (holding w es) taker (place_at place) (λ e. omega arith) (λ e. omega arith)
      ∙ holding_elsewhere w es (place_at place) (λ e. omega arith) (λ l. omega arith)

  pub rewritten : ((t : ℕ) → t < max_replicas → eqb taker t ≡ false
      → (kept_pallets w t ≡ pallets_for t es) × (kept_earliest w t ≡ earliest_for t es))
      → Slice (refreshed (holding w es) taker) es
  rewritten others =
      let long = holding_length w es in
      let held = entries_held w es few size in
      record {
        size = rewritten_size;
        listed = rewritten_entries;
        few = few;
        pallets = λ t l.
            by-test (eqb taker t)
            (λ hit.
            let q : taker ≡ t = omega tests in
            rw (← q) (refreshed_pallets (holding w es) taker (omega arith) ∙ ap (pallets_for taker) held))
            (λ miss.
            refreshed_elsewhere (holding w es) taker (kept_pallets_at t) (λ e. omega tests) (λ e. omega tests)
            ∙ holding_elsewhere w es (kept_pallets_at t) (λ e. omega arith) (λ h. omega arith)
            ∙ (others t l miss).0);
        earliest = λ t l.
            by-test (eqb taker t)
            (λ hit.
            let q : taker ≡ t = omega tests in
            rw (← q) (refreshed_earliest (holding w es) taker (omega arith) ∙ ap (earliest_for taker) held))
            (λ miss.
            refreshed_elsewhere (holding w es) taker (kept_earliest_at t) (λ e. omega tests) (λ e. omega tests)
            ∙ holding_elsewhere w es (kept_earliest_at t) (λ e. omega arith) (λ h. omega arith)
            ∙ (others t l miss).1);
      }

-- ---- the changes of the calls

abbrev pub arrived : List ℕ → Entry → List ℕ
arrived w e = refreshed (holding w (entries w ++ (e ∷ []))) e.taker

pub joined_length : (es : List Entry) (e : Entry) → length es < max_waiting → length (es ++ (e ∷ [])) ≤ max_waiting
joined_length es e h = simp length-append (omega arith)

pub slice_joined : (w : List ℕ) (es : List Entry) (e : Entry) → Slice w es → e.taker < max_replicas → length es < max_waiting
    → Slice (arrived w e) (es ++ (e ∷ []))
slice_joined w es e h own room =
    rw h.listed
    (rewritten w (es ++ (e ∷ [])) e.taker h.size (joined_length es e room) own
    (λ t l other.
    (h.pallets t l ∙ sym (pallets_joined t es e other), h.earliest t l ∙ sym (earliest_joined t es e other))))

pub slice_without : (w : List ℕ) (es : List Entry) (identity : ℕ) → Slice w es → (entry_of identity es).taker < max_replicas
    → Slice (departed w identity) (without identity es)
slice_without w es identity h own =
    let fewer = without_length identity es in
    let few = h.few in
    rw h.listed
    (rewritten w (without identity es) (entry_of identity es).taker h.size (omega arith) own
    (λ t l other.
    (h.pallets t l ∙ sym (pallets_without t identity es other), h.earliest t l ∙ sym (earliest_without t identity es other))))

-- The words of the places stand past them all.
pub joined_place : (w : List ℕ) (es : List Entry) (e : Entry) → Slice w es → e.taker < max_replicas → length es < max_waiting
    → (place : ℕ) → get_or (arrived w e) (place_at place) 0 ≡ get_or w (place_at place) 0
joined_place w es e h own room =
    rw h.listed (rewritten_place w (es ++ (e ∷ [])) e.taker h.size (joined_length es e room) own)

pub without_place : (w : List ℕ) (es : List Entry) (identity : ℕ) → Slice w es → (entry_of identity es).taker < max_replicas
    → (place : ℕ) → get_or (departed w identity) (place_at place) 0 ≡ get_or w (place_at place) 0
without_place w es identity h own =
    let fewer = without_length identity es in
    let few = h.few in
    rw h.listed (rewritten_place w (without identity es) (entry_of identity es).taker h.size (omega arith) own)

pub slice_placed : (w : List ℕ) (es : List Entry) (place v : ℕ) → Slice w es → Slice (set w (place_at place) v) es
slice_placed w es place v h =
    let few = h.few in
    let count = slice_count w in
    let same = ap length h.listed in
    record {
      size = length-set w (place_at place) v ∙ h.size;
      listed = entries_placed w place v (omega arith) ∙ h.listed;
      few = few;
      pallets = λ t l. get_or-set_other w (place_at place) (kept_pallets_at t) v 0 (omega arith) ∙ h.pallets t l;
      earliest = λ t l. get_or-set_other w (place_at place) (kept_earliest_at t) v 0 (omega arith) ∙ h.earliest t l;
    }

-- ---- the form after them

pub formed_cleared : (replicas : ℕ) → Formed replicas cleared
unfolding entries_from
formed_cleared replicas = record { size = cleared_length; few = omega arith; each = tt }

-- Entries of a slice of its form, that may be entered.
module _ (replicas : ℕ) (w : List ℕ) (h : Formed replicas w) where
  pub formed_count : length (entries w) ≤ max_waiting
  formed_count = let few = h.few in let count = slice_count w in omega arith

  formed_rewritten : (es : List Entry) (taker : ℕ) → length es ≤ max_waiting → taker < max_replicas
      → All (λ e. entry_allowed replicas e ≡ true) es → Formed replicas (refreshed (holding w es) taker)
  formed_rewritten es taker few own each =
      let left = rewritten_entries w es taker h.size few own in
      let count = slice_count (refreshed (holding w es) taker) in
      let same = ap length left in
      record { size = rewritten_size w es taker h.size few own; few = omega arith; each = rw left each }

  pub formed_placed : (place v : ℕ) → Formed replicas (set w (place_at place) v)
  formed_placed place v =
      let few = h.few in
      let count : waiting_count (set w (place_at place) v) ≡ waiting_count w = get_or-set_other w (place_at place) 0 v 0 (omega arith) in
      record { size = length-set w (place_at place) v ∙ h.size; few = omega arith; each = rw (entries_placed w place v few) h.each }

  module _ (most : replicas ≤ max_replicas) where
    pub formed_joined : (e : Entry) → entry_allowed replicas e ≡ true → length (entries w) < max_waiting → Formed replicas (arrived w e)
    formed_joined e new room =
        let own = is-allowed replicas e new in
        formed_rewritten (entries w ++ (e ∷ [])) e.taker (joined_length (entries w) e room) (omega arith)
        (all_joined _ (entries w) e h.each new)

    -- The taker of an entry that waits is a replica.
    pub taker_known : (identity : ℕ) → is_waiting identity (entries w) ≡ true → (entry_of identity (entries w)).taker < max_replicas
    taker_known identity waits =
        let own = is-allowed replicas (entry_of identity (entries w)) (all_of _ identity (entries w) waits h.each) in
        omega arith

    pub formed_without : (identity : ℕ) → is_waiting identity (entries w) ≡ true → Formed replicas (departed w identity)
    formed_without identity waits =
        let fewer = without_length identity (entries w) in
        let few = formed_count in
        formed_rewritten (without identity (entries w)) (entry_of identity (entries w)).taker (omega arith) (taker_known identity waits)
        (all_without _ identity (entries w) h.each)
