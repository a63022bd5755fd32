-- The rules of the calls on entries that wait (document 02, "#108 Movements that wait"): "Dispatchers enter movements before any block has
-- them, and strike them out." "After 1 to 3 comes 11, then 13, then 14; last, a named movement that doesn't fit the entry, lies outside the
-- line or was used before returns 5": so are the needs of each in order; opening has its own, 2, 12, 1.
use Rattle.std.specs.Prelude.{ℕ, Bool, not, List, [], ◌∷◌, ◌++◌, length, set, replicate, ltb, eqb, Result}
use Rattle.protocol.specs.declared.Values.{Values}
use Rattle.protocol.specs.declared.Refusal.{Refusal}
use Rattle.protocol.specs.Memory.{Memory, memory, replica_count, fault_bound, block_count, replica, parent}
use Rattle.protocol.specs.Ancestry.{is_ancestor_by}
use Rattle.protocol.specs.Form.{all_hold, all_below, well_formed}
use Rattle.protocol.specs.Outcome.{Need, ◌else◌, OutcomeOf, RuleOf, Answer, follow, told, wrong_form, out_of_range, unknown_number}
use Rattle.protocol.specs.Outcome.{wrong_certificate, wrong_movement, wrong_identity, waiting_full}
use Rattle.protocol.specs.FirstNeeds.{is_replica}
use Rattle.protocol.specs.Calls.{opening}
use Rattle.movements.specs.declared.Movement.{Movement}
use Rattle.movements.specs.Movements.{movement, movement_count, movement_allowed, is_movement_list}
use Rattle.entries.specs.declared.Entry.{Entry}
use Rattle.entries.specs.Entries.{max_waiting, place_at, waiting_words, kept_pallets, kept_earliest, is_used, entries}
use Rattle.entries.specs.Entries.{entry_allowed, waiting_formed, is_waiting, entry_of, without, holding, refreshed}

-- What these calls are lent: the ledger's three slices, and the further one.
pub record Lent : Type 0 where
  pub memory : Memory
  pub waiting : List ℕ

abbrev pub lent : Memory → List ℕ → Lent
lent m w = record { memory = m; waiting = w }

abbrev pub WaitingRule : Type 0
WaitingRule = RuleOf {Value = ℕ} 0 Lent

abbrev pub WaitingOutcome : Type 0
WaitingOutcome = OutcomeOf ℕ Lent

-- The form of the ledger's slices, and of the further one.
abbrev pub form_needs : Lent → List Need
form_needs s =
    well_formed s.memory else wrong_form
    ∷ waiting_formed (replica_count (fault_bound s.memory)) s.waiting else wrong_form
    ∷ []

-- ---- what the calls need after the form, where these entries wait

-- "Entering returns 11 for an identity of 0 or a breach of those rules"; "13 for an identity already waiting [..]; 14 for 512 waiting."
-- Where there are so many replicas.
abbrev pub arrival_needs : ℕ → List Entry → Entry → List Need
arrival_needs replicas es e =
    entry_allowed replicas e else wrong_movement
    ∷ not (is_waiting e.identity es) else wrong_identity
    ∷ ltb (length es) max_waiting else waiting_full
    ∷ []

-- "13 for an identity [..] not waiting when it should leave or be matched".
abbrev pub departure_needs : List Entry → ℕ → List Need
departure_needs es identity = is_waiting identity es else wrong_identity ∷ []

-- "A movement is named and known by its place, from 0, in the list of #101, whatever list is lent (matching tests all of it as #101 does)".
-- "A place past the movement list returns 3."
abbrev pub place_needs : Memory → List ℕ → ℕ → ℕ → List Need
place_needs m movements i place =
    is_replica m i else out_of_range
    ∷ ltb place (movement_count movements) else unknown_number
    ∷ all_below (movement_count movements) (λ k. movement_allowed (replica_count (fault_bound m)) (block_count m) (movement movements k))
    else wrong_movement
    ∷ []

-- Then the identity.
abbrev pub naming_needs : Memory → List Entry → List ℕ → ℕ → ℕ → ℕ → List Need
naming_needs m es movements i identity place = place_needs m movements i place ++ departure_needs es identity

-- Giver, taker and pallets are the entry's.
abbrev pub is_of_entry : Movement → Entry → Bool
is_of_entry x e = all_hold (eqb x.giver e.giver ∷ eqb x.taker e.taker ∷ eqb x.pallets e.pallets ∷ [])

-- "or when the line of a chosen box's shown block holds a movement of the same giver, taker and pallets that the host names for it and that
-- took out no entry before." Where the place took one out, or not.
abbrev pub fit_needs : Memory → List Entry → Bool → List ℕ → ℕ → ℕ → ℕ → List Need
fit_needs m es took_out movements i identity place =
    let x = movement movements place in
    is_of_entry x (entry_of identity es) else wrong_certificate
    ∷ is_ancestor_by (parent m) x.block (replica m i).decided_block else wrong_certificate
    ∷ not took_out else wrong_certificate
    ∷ []

-- ---- the rules

-- "An accepted opening empties the entries and these places." The ledger's opening, with the length of the further slice tested last; no
-- word of that is read, and each becomes 0.
unfoldable pub open_rule : Lent → ℕ → List ℕ → WaitingRule
open_rule s f steps =
    let plain = opening s.memory f steps in
    record {
      needs = plain.needs ++ (eqb (length s.waiting) waiting_words else wrong_form ∷ []);
      first = plain.first;
      second = plain.second;
      after = lent plain.after (replicate waiting_words 0);
    }

-- "An identity may come again after it has left, as a fresh arrival": it stands last.
unfoldable pub enter_rule : Lent → Entry → WaitingRule
enter_rule s e =
    let w = s.waiting in
    record {
      needs = form_needs s ++ arrival_needs (replica_count (fault_bound s.memory)) (entries w) e;
      first = 0;
      second = 0;
      after = lent s.memory (refreshed (holding w (entries w ++ (e ∷ []))) e.taker);
    }

-- The slice once the entry of an identity has left.
abbrev pub departed : List ℕ → ℕ → List ℕ
departed w identity = refreshed (holding w (without identity (entries w))) (entry_of identity (entries w)).taker

-- "It leaves when it is withdrawn".
unfoldable pub withdraw_rule : Lent → ℕ → WaitingRule
withdraw_rule s identity =
    record {
      needs = form_needs s ++ departure_needs (entries s.waiting) identity;
      first = 0;
      second = 0;
      after = lent s.memory (departed s.waiting identity);
    }

-- All but the fit; and the fit, which comes last.
abbrev pub match_needs : Lent → List ℕ → ℕ → ℕ → ℕ → List Need
match_needs s movements i identity place =
    is_movement_list movements else wrong_form
    ∷ (form_needs s ++ naming_needs s.memory (entries s.waiting) movements i identity place)

abbrev pub match_fit : Lent → List ℕ → ℕ → ℕ → ℕ → List Need
match_fit s movements i identity place =
    let w = s.waiting in
    fit_needs s.memory (entries w) (is_used w place) movements i identity place

unfoldable pub match_rule : Lent → List ℕ → ℕ → ℕ → ℕ → WaitingRule
match_rule s movements i identity place =
    record {
      needs = match_needs s movements i identity place ++ match_fit s movements i identity place;
      first = 0;
      second = 0;
      after = lent s.memory (set (departed s.waiting identity) (place_at place) 1);
    }

-- "asking for a taker returns these two as its values, and entering, withdrawing and matching return 0, 0"; "asking for a taker that is no
-- box returns 2."
unfoldable pub ask_rule : Lent → ℕ → WaitingRule
ask_rule s taker =
    record {
      needs = form_needs s ++ (is_replica s.memory taker else out_of_range ∷ []);
      first = kept_pallets s.waiting taker;
      second = kept_earliest s.waiting taker;
      after = s;
    }

-- ---- any of them

pub data WaitingCall : Type 0 where
  -- f, and the steps beside it
  Open : ℕ → List ℕ → WaitingCall
  Enter : Entry → WaitingCall
  -- an identity
  Withdraw : ℕ → WaitingCall
  -- the movements, a replica, an identity, a place
  Match : List ℕ → ℕ → ℕ → ℕ → WaitingCall
  -- a taker
  Ask : ℕ → WaitingCall

unfoldable pub waiting_rule : Lent → WaitingCall → WaitingRule
waiting_rule s (Open f steps) = open_rule s f steps
waiting_rule s (Enter e) = enter_rule s e
waiting_rule s (Withdraw identity) = withdraw_rule s identity
waiting_rule s (Match movements i identity place) = match_rule s movements i identity place
waiting_rule s (Ask taker) = ask_rule s taker

-- What any of these calls gives.
unfoldable pub waiting_step : Lent → WaitingCall → WaitingOutcome
waiting_step s call = follow s (waiting_rule s call)

-- An answer, with what the four slices hold then; and the code's.
abbrev pub waiting_left : Answer → List ℕ → List ℕ → List ℕ → List ℕ → WaitingOutcome
waiting_left a t l b w = record { answer = a; state = lent (memory t l b) w }

abbrev pub waiting_outcome : Result Values Refusal → List ℕ → List ℕ → List ℕ → List ℕ → WaitingOutcome
waiting_outcome a t l b w = waiting_left (told a) t l b w

-- A match is lent the movements too, and leaves them as they are.
pub record MatchOutcome : Type 0 where
  pub outcome : WaitingOutcome
  pub movements : List ℕ

abbrev pub matching : Lent → List ℕ → ℕ → ℕ → ℕ → MatchOutcome
matching s movements i identity place = record { outcome = waiting_step s (Match movements i identity place); movements = movements }
