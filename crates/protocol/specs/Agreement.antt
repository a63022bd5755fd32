-- Demand 3 (document 01, "Whole lists of calls"): decisions never conflict and no panel's height falls, for every list of calls after an
-- accepted opening. A single claim about calls and their answers.
use Rattle.std.specs.Prelude.{ℕ, ◌≤◌, ◌<◌, ◌≡◌, true, ◌⊎◌}
use mathlib.Core.List.{List, [], ◌∷◌, Memᴰ}
use Rattle.protocol.specs.declared.Call.TheVariants.{Open, Decide}
use Rattle.protocol.specs.Memory.{Memory, replica_count, certificate_count, certificate, block_count, replica, parent}
use Rattle.protocol.specs.Ancestry.{is_ancestor_by}
use Rattle.protocol.specs.Runs.{Invocation, step, run}
use Rattle.protocol.specs.Theorems.{Accepted}
use Rattle.protocol.specs.History.{Event, reopened, decided, history, given_parent, highest, decision_block, decision_view, panel}

-- One of two blocks is in the other's line, by the parents given.
abbrev pub OneChain : List Event → ℕ → ℕ → Type 0
OneChain events b c = (is_ancestor_by (given_parent events) b c ≡ true) ⊎ (is_ancestor_by (given_parent events) c b ≡ true)

-- At every event of a history, for every replica, the panel after it is at least the panel before it.
abbrev pub PanelsRise : List Event → Type 0
PanelsRise [] = Unit {0}
PanelsRise (e ∷ past) = ((i : ℕ) → panel past i ≤ panel (e ∷ past) i) × PanelsRise past

-- (a) of the blocks that any two accepted Decides named, one is in the other's line; (b) no panel's height falls.
pub record Agreed (events : List Event) : Type 0 where
  pub one_chain : (i b v j c w : ℕ) → Memᴰ (decided i b v) events → Memᴰ (decided j c w) events → OneChain events b c
  pub panels_rise : PanelsRise events

-- None of these calls, made on this memory, is an accepted Open.
abbrev pub OpensNone : Memory → List Invocation → Type 0
OpensNone m calls = Memᴰ reopened (history [] m calls) → ⊥

-- "The list starts from the memory that an accepted Open leaves, for each f, all fitting lengths and any earlier contents. Each call in
-- it is one of the other eleven or a refused Open, in any order, with any numbers and lists." Nothing else is assumed. The list beside the
-- opening is any that it accepts: what holds of executions holds "with any allowed steps" (document 02, #104).
-- Call this an execution of a ledger: the earlier contents, f, the list beside the opening, and the calls after it.
pub record Execution : Type 0 where
  pub start : Memory
  pub f : ℕ
  pub list : List ℕ
  pub calls : List Invocation
  pub opened : Accepted (step start (Open f) list)
  pub once : OpensNone (step start (Open f) list).state calls

-- The memory that the opening leaves; the events of an execution, and the memory at its end.
abbrev pub opened_by : Execution → Memory
opened_by x = (step x.start (Open x.f) x.list).state

abbrev pub events_of : Execution → List Event
events_of x = history [] (opened_by x) x.calls

abbrev pub end_of : Execution → Memory
end_of x = run (opened_by x) x.calls

-- Document 02, #104: "A pool with any allowed steps is still safe from conflicting decisions."
unfoldable pub Agreement : Type 0
Agreement = (x : Execution) → Agreed (events_of x)

-- ---- The link to the words: parents, decided views and decided blocks at the end are what the calls and answers told.

pub record Told (f : ℕ) (events : List Event) (m : Memory) : Type 0 where
  pub parents : (b : ℕ) → b < block_count m → parent m b ≡ given_parent events b
  pub views : (i : ℕ) → i < replica_count f → (replica m i).decided_view ≡ decision_view (highest events i)
  pub blocks : (i : ℕ) → i < replica_count f → (replica m i).decided_block ≡ decision_block (highest events i)

unfoldable pub WordsMatchHistory : Type 0
WordsMatchHistory = (x : Execution) → Told x.f (events_of x) (end_of x)

-- ---- Certificates and blocks are only ever appended between two openings: those of a memory stand in every later one. Of a block this is
-- its parent; that its height stays follows, and is stated in Heights.antt.

pub record Extends (m m' : Memory) : Type 0 where
  pub certificates : certificate_count m ≤ certificate_count m'
  pub certificate : (c : ℕ) → c < certificate_count m → certificate m' c ≡ certificate m c
  pub blocks : block_count m ≤ block_count m'
  pub parent : (b : ℕ) → b < block_count m → parent m' b ≡ parent m b

unfoldable pub OnlyAppended : Type 0
OnlyAppended = (x : Execution) (more : List Invocation) → OpensNone (end_of x) more → Extends (end_of x) (run (end_of x) more)

-- ---- The stronger form: at the end of an execution, the blocks of any two lists that a Decide would accept are of one line, decided
-- or not.

unfoldable pub WouldAgree : Type 0
WouldAgree =
    (x : Execution) (i j : ℕ) (l₁ l₂ : List ℕ)
    → Accepted (step (end_of x) (Decide i) l₁) → Accepted (step (end_of x) (Decide j) l₂)
    → OneChain (events_of x) (step (end_of x) (Decide i) l₁).answer.first
    (step (end_of x) (Decide j) l₂).answer.first
