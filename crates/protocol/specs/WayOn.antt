-- There is always a way on (document 02, #109): "While boxes, meter and room last, no past may wedge the ledger." What must last is a test of
-- the memory, some replicas and a view; the calls that then end in a decision are computed from the same three.
use Rattle.std.specs.Prelude.{ℕ, zero, suc, ◌+◌, ◌-◌, ◌*◌, ◌%◌, ◌≤◌, ◌<◌, ◌≡◌, Bool, true, List, [], ◌∷◌, ◌++◌, map, length, ltb, leb, eqb}
use Rattle.protocol.specs.declared.Call.TheVariants.{Block, Prepare, Store, View, Accumulate, Decide}
use Rattle.protocol.specs.declared.Justification.TheVariants.{Acc}
use Rattle.protocol.specs.Memory.{Memory, Certificate, replica_count, fault_bound, certificate_count, block_count, live, replica}
use Rattle.protocol.specs.Memory.{certificate_at, certificate, block_at}
use Rattle.protocol.specs.Form.{all_hold, well_formed}
use Rattle.protocol.specs.Certificates.{new_view_of, appended}
use Rattle.protocol.specs.Quorum.{every, is_quorum_size, contains, distinct, greatest}
use Rattle.protocol.specs.Outcome.{Answer, accepted}
use Rattle.protocol.specs.FirstNeeds.{is_replica}
use Rattle.protocol.specs.Calls.{has_status}
use Rattle.protocol.specs.Runs.{Invocation, plain, ◌on◌, invoked, run, answers}
use Rattle.protocol.specs.Agreement.{Execution, end_of}

-- ---- What must last: "boxes, meter and room".

-- "2f+4 free places": for f+1 NEWVIEWs, an ACC, a PROP and f+1 COMMITs.
abbrev pub decision_slots : ℕ → ℕ
decision_slots f = 2 * f + 4

-- "2f+6 named calls": one for each of these certificates, a Block and a Decide.
abbrev pub decision_calls : ℕ → ℕ
decision_calls f = 2 * f + 6

-- Document 02, #103: "The leader of view v is (v−1) mod n." A view above a lowest view is not 0.
abbrev pub leader_of : ℕ → ℕ → ℕ
leader_of f w = (w - 1) % replica_count f

-- "live boxes and a view w above all their lows and below all their bounds": of one of them.
unfoldable pub can_enter : Memory → ℕ → ℕ → Bool
can_enter m w i =
    let r = replica m i in
    all_hold (is_replica m i ∷ has_status live r ∷ ltb r.min_view w ∷ ltb w r.view_limit ∷ [])

-- "If the book has 2f+4 free places and the blocks one".
unfoldable pub has_room : Memory → Bool
has_room m =
    all_hold
    (leb (certificate_at (certificate_count m + decision_slots (fault_bound m))) (length m.log)
    ∷ leb (block_at (block_count m + 1)) (length m.blocks)
    ∷ [])

-- "choose f+1 live boxes": different replicas, as many as a quorum has, that can all enter a view.
unfoldable pub can_all_enter : Memory → List ℕ → ℕ → Bool
can_all_enter m replicas w = all_hold (is_quorum_size m replicas ∷ distinct replicas ∷ every (can_enter m w) replicas ∷ [])

-- "choose f+1 live boxes and a view w above all their lows and below all their bounds, whose leader is one of them. If the book has 2f+4 free
-- places and the blocks one".
unfoldable pub can_decide : Memory → List ℕ → ℕ → Bool
can_decide m replicas w = all_hold (can_all_enter m replicas w ∷ contains (leader_of (fault_bound m) w) replicas ∷ has_room m ∷ [])

-- ---- The calls.

-- A call, and those that go on from the memory that it leaves and from its first value, the number of what it issued or added.
abbrev pub ask : Memory → Invocation → (Memory → ℕ → List Invocation) → List Invocation
ask m q rest = let o = invoked m q in q ∷ rest o.state o.answer.first

abbrev pub first_values : Memory → List Invocation → List ℕ
first_values m calls = map (λ a. a.first) (answers m calls)

-- The same of several calls.
abbrev pub ask_all : Memory → List Invocation → (Memory → List ℕ → List Invocation) → List Invocation
ask_all m calls rest = calls ++ rest (run m calls) (first_values m calls)

abbrev pub view_calls : ℕ → List ℕ → List Invocation
view_calls w replicas = map (λ i. plain (View i w)) replicas

abbrev pub store_calls : ℕ → List ℕ → List Invocation
store_calls prop replicas = map (λ i. plain (Store i prop)) replicas

-- "The calls are a view call per box, one accumulate, one block, one prepare, a store per box and one decide." The leader accumulates the
-- NEWVIEWs, as an ACC serves its signer alone; the new block is on the accumulated one. Any replica may decide: here the leader does.
unfoldable pub way_on : Memory → List ℕ → ℕ → List Invocation
way_on m replicas w =
    let leader = leader_of (fault_bound m) w in
    ask_all m (view_calls w replicas)
    (λ m new_views.
    ask m (Accumulate leader on new_views)
    (λ m acc.
    ask m (plain (Block (certificate m acc).block))
    (λ m b.
    ask m (plain (Prepare leader b (Acc acc)))
    (λ m prop.
    ask_all m (store_calls prop replicas)
    (λ m commits.
    Decide leader on commits ∷ [])))))

-- ---- "then 2f+6 named calls, none refused, end in a decision at view w of a new block": the last answer is the block of the next number,
-- which the Block among them adds, and w. It holds in every well-formed memory.

abbrev pub is_accepted : Answer → Bool
is_accepted a = eqb a.number 0

pub record EndsInDecision (m : Memory) (replicas : List ℕ) (w : ℕ) : Type 0 where
  pub count : length (way_on m replicas w) ≡ decision_calls (fault_bound m)
  pub none_refused : every is_accepted (answers m (way_on m replicas w)) ≡ true
  pub before : List Answer
  pub decision : answers m (way_on m replicas w) ≡ before ++ (accepted (block_count m) w ∷ [])

unfoldable pub WayOn : Type 0
WayOn =
    (m : Memory) (replicas : List ℕ) (w : ℕ) → well_formed m ≡ true → can_decide m replicas w ≡ true → EndsInDecision m replicas w

-- ---- "While boxes, meter and room last": f+1 views in a row that f+1 replicas can all enter are enough of the counter. They can, where every
-- limit is f+2 above the greatest of their lowest views. Turns go round, so one of the f+1 views is led by one of them.

pub record DecideWithin (m : Memory) (replicas : List ℕ) (v : ℕ) : Type 0 where
  pub view : ℕ
  pub above : v < view
  pub within : view ≤ v + (fault_bound m + 1)
  pub decides : can_decide m replicas view ≡ true

unfoldable pub ViewsSuffice : Type 0
ViewsSuffice =
    (m : Memory) (replicas : List ℕ) (v : ℕ) → can_all_enter m replicas (v + 1) ≡ true
    → can_all_enter m replicas (v + (fault_bound m + 1)) ≡ true → has_room m ≡ true → DecideWithin m replicas v

-- ---- "In any state reached from an opening": the end of an execution. There each of the 2f+4 certificates is added, none found, so their
-- numbers are the log's next ones: all calls and answers can be written down before the first call is made.

-- So many numbers, from one on.
unfoldable pub counting : ℕ → ℕ → List ℕ
counting from zero = []
counting from (suc k) = from ∷ counting (from + 1) k

-- The NEWVIEW that a replica issues for a view. Accumulated, those of the replicas give the block of the greatest stored view, the first in
-- the list if several.
abbrev pub report : Memory → ℕ → ℕ → Certificate
report m w i = let r = replica m i in new_view_of i r.boot w r.stored_block r.stored_view

abbrev pub latest_stored : Memory → List ℕ → ℕ → ℕ
latest_stored m replicas w = (greatest (map (report m w) replicas)).block

-- The numbers: the first NEWVIEW has the next one, then come the ACC, the PROP and the COMMITs.
abbrev pub new_view_numbers : Memory → List ℕ
new_view_numbers m = counting (certificate_count m) (fault_bound m + 1)

abbrev pub acc_number : Memory → ℕ
acc_number m = certificate_count m + (fault_bound m + 1)

abbrev pub prop_number : Memory → ℕ
prop_number m = acc_number m + 1

abbrev pub commit_numbers : Memory → List ℕ
commit_numbers m = counting (prop_number m + 1) (fault_bound m + 1)

-- The calls by these,
unfoldable pub numbered_calls : Memory → List ℕ → ℕ → List Invocation
numbered_calls m replicas w =
    let leader = leader_of (fault_bound m) w in
    view_calls w replicas
    ++ (Accumulate leader on new_view_numbers m
    ∷ plain (Block (latest_stored m replicas w))
    ∷ plain (Prepare leader (block_count m) (Acc (acc_number m)))
    ∷ store_calls (prop_number m) replicas
    ++ (Decide leader on commit_numbers m ∷ []))

-- and their answers: "every issuing call hands that up: the second value is [..] 0 for one added" (document 02, #102).
abbrev pub added_as : List ℕ → List Answer
added_as numbers = map (λ number. accepted number appended) numbers

unfoldable pub numbered_answers : Memory → ℕ → List Answer
numbered_answers m w =
    added_as (new_view_numbers m)
    ++ (accepted (acc_number m) appended
    ∷ accepted (block_count m) 0
    ∷ accepted (prop_number m) appended
    ∷ added_as (commit_numbers m)
    ++ (accepted (block_count m) w ∷ []))

pub record Numbered (m : Memory) (replicas : List ℕ) (w : ℕ) : Type 0 where
  pub ends : EndsInDecision m replicas w
  pub calls : way_on m replicas w ≡ numbered_calls m replicas w
  pub answered : answers m (way_on m replicas w) ≡ numbered_answers m w
  pub certificates : certificate_count (run m (way_on m replicas w)) ≡ certificate_count m + decision_slots (fault_bound m)
  pub blocks : block_count (run m (way_on m replicas w)) ≡ block_count m + 1
  -- the leader then shows the new block: w is above every view that it had decided
  pub decided_view : (replica (run m (way_on m replicas w)) (leader_of (fault_bound m) w)).decided_view ≡ w
  pub decided_block : (replica (run m (way_on m replicas w)) (leader_of (fault_bound m) w)).decided_block ≡ block_count m

unfoldable pub WayOnNumbered : Type 0
WayOnNumbered =
    (x : Execution) (replicas : List ℕ) (w : ℕ) → can_decide (end_of x) replicas w ≡ true → Numbered (end_of x) replicas w
