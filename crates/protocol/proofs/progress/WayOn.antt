-- What specs/WayOn.antt states: the way on ends in a decision; and in an execution nothing of it is found, so that its numbers are known.
use Prim.Native.Nat.{ℕ, zero, suc, ◌+◌, ◌-◌, ◌*◌, ◌%◌, ◌≤◌, ◌<◌}
use mathlib.Core.Path.{◌≡◌, refl, ◌∙◌}
use mathlib.Core.Bool.{true}
use mathlib.Core.Logic.{inr, ⊎_elim}
use mathlib.Core.List.{List, [], ◌∷◌, ◌++◌, map}
use native.Mathlib.Omega.{arith}
use borrow.Author.Tests.{eq-eqb}
use lib.ListN.{length, length-map, length-append}
use Rattle.protocol.specs.Memory.{Memory, replica_count, fault_bound, certificate_count, block_count, replica}
use Rattle.protocol.specs.Memory.{certificate_at, certificate, block_at}
use Rattle.protocol.specs.Form.{replica_formed}
use Rattle.protocol.specs.Certificates.{ACC}
use Rattle.protocol.specs.Leader.{leads}
use Rattle.protocol.specs.Quorum.{contains, distinct, greatest}
use Rattle.protocol.specs.Runs.{Invocation}
use Rattle.protocol.specs.Agreement.{end_of}
use Rattle.protocol.specs.WayOn.{decision_slots, leader_of, can_enter, has_room, can_all_enter, can_decide, way_on, EndsInDecision, WayOn}
use Rattle.protocol.specs.WayOn.{report}
use Rattle.protocol.specs.WayOn.{numbered_calls, numbered_answers, WayOnNumbered}
use Rattle.protocol.proofs.logic.Booleans.{tests, each}
use Rattle.protocol.proofs.memory.Formed.{Formed, formed}
use Rattle.protocol.proofs.agreement.Meeting.{Quorum, meet}
use Rattle.protocol.proofs.agreement.Safety.{clause, Safe}
use Rattle.protocol.proofs.agreement.SafeParts.{left_behind}
use Rattle.protocol.proofs.agreement.Agreement.{reached_by}
use Rattle.protocol.proofs.progress.Asking.{Decides}
use Rattle.protocol.proofs.progress.Each.{every_member, all-below}
use Rattle.protocol.proofs.progress.Made.{made_greatest}
use Rattle.protocol.proofs.progress.Parts.{CanEnter}
use Rattle.protocol.proofs.progress.Way.{way_plan, entering_on}

-- ---- the premises

leader_leads : (f w : ℕ) → 1 ≤ w → leads f w (leader_of f w) ≡ true
unfolding leads
leader_leads f zero l = absurd (omega arith)
leader_leads f (suc v) l = let e : suc v - 1 ≡ v = omega arith in rw e (eq-eqb (v % replica_count f) (v % replica_count f) refl)

-- What can_decide tells.
record Lasts (m : Memory) (replicas : List ℕ) (w : ℕ) : Type 0 where
  size : length replicas ≡ fault_bound m + 1
  different : distinct replicas ≡ true
  below : (j : ℕ) → contains j replicas ≡ true → j < replica_count (fault_bound m)
  can : (j : ℕ) → contains j replicas ≡ true → CanEnter w (replica m j)
  leading : contains (leader_of (fault_bound m) w) replicas ≡ true
  leads : leads (fault_bound m) w (leader_of (fault_bound m) w) ≡ true
  room : certificate_at (certificate_count m + decision_slots (fault_bound m)) ≤ length m.log
  blocks : block_at (block_count m + 1) ≤ length m.blocks

lasts : (m : Memory) (replicas : List ℕ) (w : ℕ) → can_decide m replicas w ≡ true → Lasts m replicas w
unfolding can_decide can_all_enter can_enter has_room
lasts m replicas w e =
    let t = each _ e in
    let h = each _ t.0 in
    let leading = t.1.0 in
    let room = each _ t.1.1.0 in
    let can = every_member (can_enter m w) replicas h.1.1.0 in
    record {
      size = omega tests;
      different = h.1.0;
      below = λ j among. let t = each _ (can j among) in omega tests;
      can = λ j among. let t = each _ (can j among) in record { status = omega tests; min_view = omega tests; limit = omega tests };
      leading = leading;
      leads = (let t = each _ (can _ leading) in leader_leads (fault_bound m) w (omega tests));
      room = omega tests;
      blocks = omega tests;
    }

-- ---- the way

quorum : (m : Memory) (replicas : List ℕ) (w : ℕ) → Lasts m replicas w → Quorum (fault_bound m) replicas
quorum m replicas w h = record { size = h.size; different = h.different; replicas = all-below _ replicas h.below }

-- In a reached memory no ACC of view w reports what the replicas have stored. They can still commit in the view before w, so an ACC of view w
-- reports that view; and each of them has stored in an earlier one.
no_acc : (m : Memory) (replicas : List ℕ) (w : ℕ) → Lasts m replicas w → Safe m → (k : ℕ) → k < certificate_count m
    → (certificate m k).kind ≡ ACC → (certificate m k).view ≡ w → (certificate m k).of_view ≡ (greatest (map (report m w) replicas)).of_view → ⊥
unfolding replica_formed
no_acc m replicas w h safe k l kind view of_view =
    let size = h.size in
    let some = (h.can _ h.leading).min_view in
    let acc = clause m (certificate m k) ACC kind (safe.log k l) in
    let stored =
    made_greatest (report m w) (λ c. c.of_view + 2 ≤ w) replicas (omega arith)
    (λ i among.
    let row = each _ (safe.formed.rows i (h.below i among)) in
    let above = (h.can i among).min_view in
    omega tests) in
    let leader = each _ (safe.formed.rows _ (h.below _ h.leading)) in
    let covered =
    acc.covers (w - 1) (omega tests) (omega arith)
    (record {
      members = replicas;
      quorum = quorum m replicas w h;
      each = λ j among. inr (let above = (h.can j among).min_view in omega arith);
    }) in
    omega arith

-- Nor was anything decided in view w or later: of those who committed there, and left that view, one is among the replicas.
decided_before : (m : Memory) (replicas : List ℕ) (w : ℕ) → Lasts m replicas w → Safe m
    → (replica m (leader_of (fault_bound m) w)).decided_view < w
decided_before m replicas w h safe =
    ⊎_elim (λ none. let z = none.0 in let some = (h.can _ h.leading).min_view in omega arith)
    (λ x.
    let s = meet (fault_bound m) x.members replicas x.quorum (quorum m replicas w h) in
    let commit = x.each s.member s.left in
    let left = left_behind m safe (record { number = commit.number; issued = commit.issued; holds = commit.holds.commit }) in
    let above = (h.can s.member s.right).min_view in
    omega arith)
    (safe.rows _ (h.below _ h.leading)).decided

way : (S : Type 0) (m : Memory) (replicas : List ℕ) (w : ℕ) (h : Lasts m replicas w) → Formed m → (S → Safe m)
    → Decides S m (way_on m replicas w) (leader_of (fault_bound m) w) (block_count m) w
    (way_plan S (fault_bound m) w replicas h.size h.different h.below h.leading h.leads (certificate_count m) (block_count m)
    (replica m))
unfolding way_on
way S m replicas w h z safe =
    entering_on S (fault_bound m) w replicas h.size h.different h.below h.leading h.leads (certificate_count m) (block_count m) m z
    refl refl refl safe (λ s. decided_before m replicas w h (safe s)) h.room h.blocks h.can (λ s. no_acc m replicas w h (safe s))

-- ---- the statements

-- Twice a call by each replica, and four calls.
way_length : (replicas : List ℕ) (enter store : ℕ → Invocation) (p q r d : Invocation)
    → length (map enter replicas ++ (p ∷ q ∷ r ∷ (map store replicas ++ (d ∷ [])))) ≡ 2 * length replicas + 4
way_length replicas enter store p q r d =
    let first = length-map replicas enter in
    let second = length-map replicas store in
    let both = length-append (map enter replicas) (p ∷ q ∷ r ∷ (map store replicas ++ (d ∷ []))) in
    let more = length-append (map store replicas) (d ∷ []) in
    omega arith

ends : (S : Type 0) (m : Memory) (replicas : List ℕ) (w : ℕ) (h : Lasts m replicas w) (z : Formed m) (safe : S → Safe m)
    → EndsInDecision m replicas w
unfolding way_on
ends S m replicas w h z safe =
    let x = way S m replicas w h z safe in
    record {
      count = way_length replicas _ _ _ _ _ _ ∙ (let size = h.size in omega arith);
      none_refused = x.none_refused;
      before = x.before;
      decision = x.decision;
    }

-- Nothing is known of where the way starts.
pub way-on : WayOn
unfolding WayOn
way-on m replicas w e can = ends ⊥ m replicas w (lasts m replicas w can) (formed m e) absurd

-- It starts where the invariant holds.
pub way-on-numbered : WayOnNumbered
unfolding WayOnNumbered numbered_calls numbered_answers
way-on-numbered execution replicas w can =
    let m = end_of execution in
    let safe = (reached_by execution).safe in
    let h = lasts m replicas w can in
    let x = way (Unit {0}) m replicas w h safe.formed (λ s. safe) in
    record {
      ends = ends (Unit {0}) m replicas w h safe.formed (λ s. safe);
      calls = x.known tt;
      answered = x.answered tt;
      certificates = x.certificates tt;
      blocks = x.blocks tt;
      decided_view = x.decided_view tt;
      decided_block = x.decided_block tt;
    }
