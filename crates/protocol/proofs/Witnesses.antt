-- Statements with premises, used at a worked execution: the premises hold there by computation. Where one premise more makes a statement
-- empty, its use fails here.
use Prim.Native.Nat.{ℕ, ◌<◌}
use mathlib.Core.Path.{◌≡◌, refl, ap, ◌∙◌}
use mathlib.Core.Bool.{Bool, true, false, not, ◌&&◌, false≢true}
use mathlib.Core.List.Memᴰ
use mathlib.Core.List.{List, [], ◌∷◌, ◌++◌, Memᴰ}
use mathlib.Core.Logic.{⊎_elim}
use native.Mathlib.Omega.{arith}
use lib.ListN.{length, replicate}
use Rattle.protocol.specs.declared.Call.TheVariants.{Open, Block, Prepare, Store, View, Accumulate, Decide}
use Rattle.protocol.specs.declared.Justification.TheVariants.{Acc, Commits}
use Rattle.protocol.specs.Memory.{Memory, certificate_count, block_count, replica, parent}
use Rattle.protocol.specs.Form.{well_formed}
use Rattle.protocol.specs.Quorum.{every}
use Rattle.protocol.specs.Outcome.{Answer, accepted}
use Rattle.protocol.specs.Runs.{Invocation, plain, ◌on◌, step, run, answers}
use Rattle.protocol.specs.History.{Event, reopened, added, decided, other, event_of, history, given_parent, highest}
use Rattle.protocol.specs.History.{decision_block, decision_view}
use Rattle.protocol.specs.Agreement.{OneChain, PanelsRise, OpensNone, Execution, events_of, end_of, Agreement, WordsMatchHistory}
use Rattle.protocol.specs.WayOn.{can_enter, can_all_enter, has_room, can_decide, way_on, is_accepted, WayOn, DecideWithin, ViewsSuffice, numbered_calls, numbered_answers}
use Rattle.protocol.specs.WayOn.{WayOnNumbered}
use Rattle.protocol.specs.cases.Starts.{zeros, blank}
use Rattle.protocol.specs.cases.WayOn.{after_wedge}
use Rattle.protocol.proofs.logic.Booleans.{and-true}
use Rattle.protocol.proofs.cases.Rows.{wrong}

-- ---- one execution with two decisions

-- For f = 1: block 1 is proposed on an ACC and decided in view 1,
abbrev pub first_calls : List Invocation
first_calls =
    plain (View 0 1)
    ∷ plain (View 1 1)
    ∷ Accumulate 0 on (0 ∷ 1 ∷ [])
    ∷ plain (Block 0)
    ∷ plain (Prepare 0 1 (Acc 2))
    ∷ plain (Store 0 3)
    ∷ plain (Store 1 3)
    ∷ Decide 0 on (4 ∷ 5 ∷ [])
    ∷ []

-- and block 2, on it, proposed on its commits and decided in view 2.
abbrev pub more_calls : List Invocation
more_calls =
    plain (Block 1)
    ∷ Prepare 1 2 (Commits 1 1) on (4 ∷ 5 ∷ [])
    ∷ plain (Store 0 6)
    ∷ plain (Store 2 6)
    ∷ Decide 0 on (7 ∷ 8 ∷ [])
    ∷ []

abbrev pub first_events : List Event
first_events = decided 0 1 1 ∷ other ∷ other ∷ other ∷ added 1 0 ∷ other ∷ other ∷ other ∷ []

abbrev pub more_events : List Event
more_events = decided 0 2 2 ∷ other ∷ other ∷ other ∷ added 2 1 ∷ []

abbrev opened : Memory
opened = (step (blank 1) (Open 1) []).state

-- What calls tell after the opening. Everything that the rules are made of opens with it.
unfoldable told : List Invocation → List Event
unfolding wrong event_of history
told calls = history [] opened calls

opens : (step (blank 1) (Open 1) []).answer.number ≡ 0
unfolding wrong
opens = refl

first_told : history [] opened first_calls ≡ first_events
unfolding told
first_told = refl

more_told : history [] (run opened first_calls) more_calls ≡ more_events
unfolding told
more_told = refl

all_told : history [] opened (first_calls ++ more_calls) ≡ more_events ++ first_events
unfolding told
all_told = refl

-- No accepted Open is among events.
abbrev pub is_reopened : Event → Bool
is_reopened reopened = true
is_reopened (added b p) = false
is_reopened (decided i b v) = false
is_reopened other = false

abbrev pub none_reopens : List Event → Bool
none_reopens [] = true
none_reopens (e ∷ past) = not (is_reopened e) && none_reopens past

pub none-reopens : (events : List Event) → none_reopens events ≡ true → Memᴰ reopened events → ⊥
none-reopens [] none w = Memᴰ.not-nil w
none-reopens (e ∷ past) none w =
    let both = and-true (not (is_reopened e)) (none_reopens past) none in
    ⊎_elim (λ same. false≢true (ap (λ x. not (is_reopened x)) same ∙ both.0)) (none-reopens past both.1) (Memᴰ.cases_cons w)

abbrev executed : (calls : List Invocation) (events : List Event) → history [] opened calls ≡ events → none_reopens events ≡ true → Execution
executed calls events e none =
    record { start = blank 1; f = 1; list = []; calls = calls; opened = opens; once = λ w. none-reopens events none (rw e at w) }

-- The first decision alone, and both.
pub begun : Execution
begun = executed first_calls first_events first_told refl

pub worked : Execution
worked = executed (first_calls ++ more_calls) (more_events ++ first_events) all_told refl

-- No opening is among the calls after the first decision.
pub none_opens : OpensNone (end_of begun) more_calls
unfolding begun
none_opens w = none-reopens more_events refl (rw more_told at w)

-- What the first calls told is told by all of them.
after_more : {e : Event} {past : List Event} → Memᴰ e past → Memᴰ e (more_events ++ past)
after_more w = Memᴰ.tail (Memᴰ.tail (Memᴰ.tail (Memᴰ.tail (Memᴰ.tail w))))

pub worked_told : events_of worked ≡ more_events ++ first_events
unfolding worked
worked_told = all_told

pub first_decided : Memᴰ (decided 0 1 1) (events_of worked)
first_decided = rw worked_told (after_more (Memᴰ.head refl))

pub second_decided : Memᴰ (decided 0 2 2) (events_of worked)
second_decided = rw worked_told (Memᴰ.head refl)

-- ---- the statements, used

pub agreement_used : Agreement → OneChain (events_of worked) 1 2 × PanelsRise (events_of worked)
unfolding Agreement
agreement_used statement =
    let agreed = statement worked in
    (agreed.one_chain 0 1 1 0 2 2 first_decided second_decided, agreed.panels_rise)

two_blocks : 2 < block_count (end_of worked)
unfolding told worked
two_blocks = omega arith

-- Block 2's parent, and what replica 0 decided, are words that the calls told.
pub words_match_history_used : WordsMatchHistory
    → (parent (end_of worked) 2 ≡ given_parent (events_of worked) 2)
    × ((replica (end_of worked) 0).decided_view ≡ decision_view (highest (events_of worked) 0))
    × ((replica (end_of worked) 0).decided_block ≡ decision_block (highest (events_of worked) 0))
unfolding WordsMatchHistory worked
words_match_history_used statement =
    let words = statement worked in
    (words.parents 2 two_blocks, words.views 0 (omega arith), words.blocks 0 (omega arith))

-- ---- a way on

-- After the past that might wedge it, of the worked cases, three replicas decide.
abbrev wedged : Memory
wedged = after_wedge.chosen.start

abbrev three : List ℕ
three = 3 ∷ 1 ∷ 0 ∷ []

wedge_formed : well_formed wedged ≡ true
unfolding wrong
wedge_formed = refl

wedge_lasts : can_decide wedged three 4 ≡ true
unfolding wrong can_decide can_all_enter has_room can_enter
wedge_lasts = refl

-- Ten calls, none refused, and the last names block 3 in view 4.
pub way_on_used : WayOn
    → (length (way_on wedged three 4) ≡ 10)
    × (every is_accepted (answers wedged (way_on wedged three 4)) ≡ true)
    × ((before : List Answer) × (answers wedged (way_on wedged three 4) ≡ before ++ (accepted 3 4 ∷ [])))
unfolding WayOn wrong
way_on_used statement =
    let end = statement wedged three 4 wedge_formed wedge_lasts in
    (end.count, end.none_refused, (end.before, end.decision))

-- With steps of 4 every limit is just f+2 above the lowest views: replicas 0 and 2 can enter views 2 and 3 and no more, and decide in one.
abbrev tight : Memory
tight = (step (zeros 1 6 2) (Open 1) (replicate 8 4)).state

pub views_suffice_used : ViewsSuffice → DecideWithin tight (0 ∷ 2 ∷ []) 1
unfolding ViewsSuffice wrong can_all_enter can_enter has_room
views_suffice_used statement = statement tight (0 ∷ 2 ∷ []) 1 refl refl refl

-- After the two decisions replicas 0 and 1 go on to view 4: six certificates more and block 3, which replica 0, its leader, then shows.
worked_lasts : can_decide (end_of worked) (0 ∷ 1 ∷ []) 4 ≡ true
unfolding told can_decide can_all_enter has_room can_enter worked
worked_lasts = refl

abbrev gone_on : Memory
gone_on = run (end_of worked) (way_on (end_of worked) (0 ∷ 1 ∷ []) 4)

pub way_on_numbered_used : WayOnNumbered
    → (way_on (end_of worked) (0 ∷ 1 ∷ []) 4 ≡ numbered_calls (end_of worked) (0 ∷ 1 ∷ []) 4)
    × (answers (end_of worked) (way_on (end_of worked) (0 ∷ 1 ∷ []) 4) ≡ numbered_answers (end_of worked) 4)
    × (certificate_count gone_on ≡ 15)
    × (block_count gone_on ≡ 4)
    × ((replica gone_on 0).decided_view ≡ 4)
    × ((replica gone_on 0).decided_block ≡ 3)
unfolding WayOnNumbered told worked
way_on_numbered_used statement =
    let way = statement worked (0 ∷ 1 ∷ []) 4 worked_lasts in
    (way.calls, way.answered, way.certificates, way.blocks, way.decided_view, way.decided_block)
