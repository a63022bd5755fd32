-- The calls of the way on, one by one: each is accepted where its needs hold and the log has room, and what it leaves.
use Prim.Native.Nat.{ℕ, ◌+◌, ◌≤◌, ◌<◌}
use mathlib.Core.Path.{◌≡◌, refl, sym, subst, ◌∙◌}
use mathlib.Core.Bool.{true, false, cond, not}
use mathlib.Core.Logic.{◌≢◌}
use mathlib.Core.List.{List, [], ◌∷◌, ◌++◌}
use native.Mathlib.Omega.{arith}
use lib.ListN.{length, get_or}
use lib.Dec.{ltb, eqb}
use Rattle.protocol.specs.declared.Call.TheVariants.{Block, Prepare, Store, View, Accumulate, Decide}
use Rattle.protocol.specs.declared.Justification.TheVariants.{Acc}
use Rattle.protocol.specs.Memory.{Memory, Replica, Certificate, ◌becomes◌, fault_bound, certificate_count, block_count}
use Rattle.protocol.specs.Memory.{min_view_at, flag_at, stored_view_at, stored_block_at, decided_view_at, decided_block_at, live, lowered}
use Rattle.protocol.specs.Memory.{raised, replica, certificate}
use Rattle.protocol.specs.Memory.{row_start, block_at, parent_at, parent, kept_height, block_record, append_block}
use Rattle.protocol.specs.Form.{replica_formed}
use Rattle.protocol.specs.Certificates.{PROP, ACC, prop_of, commit_of, new_view_of, acc_of, log_has_room}
use Rattle.protocol.specs.Leader.{leads}
use Rattle.protocol.specs.Quorum.{every, is_quorum_size, is_issued, all_issued, certificates_of, first_of, is_new_view_quorum, is_commit_quorum}
use Rattle.protocol.specs.Quorum.{greatest}
use Rattle.protocol.specs.Outcome.{Outcome, ◌else◌, unknown_number, wrong_status, wrong_certificate, accepted}
use Rattle.protocol.specs.FirstNeeds.{is_replica, is_block, replica_needs, number_needs, list_needs}
use Rattle.protocol.specs.Calls.{has_status, is_ahead, is_justified, justification_needs, proposal_needs, store_needs, view_needs}
use Rattle.protocol.specs.Calls.{accumulate_needs}
use Rattle.protocol.specs.Calls.{block, prepare, store, view, accumulate, decide}
use Rattle.protocol.specs.Runs.{rule_of, step}
use Rattle.protocol.proofs.logic.Booleans.{tests, by_cond, true_and, each, all-hold}
use Rattle.protocol.proofs.calls.Needs.{Holds, none_refuses, accepts, outcome_state}
use Rattle.protocol.proofs.calls.LeavesForm.{block-leaves, prepare_leaves, store-leaves, view-leaves, accumulate-leaves}
use Rattle.protocol.proofs.memory.Words.{within_row}
use Rattle.protocol.proofs.memory.Formed.{Formed, form, sizes}
use Rattle.protocol.proofs.memory.Changes.{changed, update_header, update_own, block-count, block_new}
use Rattle.protocol.proofs.agreement.Safety.{Safe}
use Rattle.protocol.proofs.agreement.Acts.{Acts}
use Rattle.protocol.proofs.agreement.SafeCalls.{store_safe, view_safe, accumulate_safe}
use Rattle.protocol.proofs.agreement.SafePrepare.{prepare_safe}
use Rattle.protocol.proofs.agreement.SafeEnds.{AddsBlocks, block_adds, adds_safe}
use Rattle.protocol.proofs.requests.Repeats.{issuing_repeats, known, prepare_never_found, store_never_found}
use Rattle.protocol.proofs.progress.Issues.{Issues, with_room, issues}

-- ---- a View of a view above the lowest

-- A live replica whose lowest view is below w, and its limit above.
pub record CanEnter (w : ℕ) (r : Replica) : Type 0 where
  pub status : r.status ≡ live
  pub min_view : r.min_view < w
  pub limit : w < r.view_limit

abbrev pub entering : ℕ → Replica → Replica
entering w r = changed (flag_at becomes cond (is_ahead r w) lowered r.flag ∷ min_view_at becomes w ∷ []) r

abbrev pub new_view_by : ℕ → ℕ → Replica → Certificate
new_view_by w i r = new_view_of i r.boot w r.stored_block r.stored_view

-- What storing a PROP makes of a replica, and the COMMIT that it issues.
abbrev pub storing : ℕ → ℕ → Replica → Replica
storing w b r =
    changed (stored_view_at becomes w ∷ stored_block_at becomes b ∷ min_view_at becomes (w + 1) ∷ flag_at becomes lowered ∷ []) r

abbrev pub commit_by : ℕ → ℕ → ℕ → Replica → Certificate
commit_by w b i r = commit_of i r.boot w b

module _ (S : Type 0) (m : Memory) (i : ℕ) (h : Formed m) (own : is_replica m i ≡ true) (room : log_has_room m ≡ true) (safe : S → Safe m) where
  pub view_issues : (w : ℕ) → CanEnter w (replica m i)
      → Issues S m (step m (View i w) []) i (entering w (replica m i)) (new_view_by w i (replica m i))
  unfolding step rule_of view replica_formed
  view_issues w can =
      let r = each _ (h.rows i (omega tests)) in
      let needs : Holds (replica_needs m i ++ view_needs (replica m i) w) =
      (form m h, (own, (omega tests, (omega tests, (omega tests, (omega tests, (omega tests, tt))))))) in
      let hold : Holds (view m i w).needs = with_room m _ i _ _ needs room in
      issues S m _ i _ _ hold h own refl (view-leaves m i w hold) (λ s. (view_safe m i w hold (safe s)).safe)
      (λ s told.
      let past = (known m (safe s) (issuing_repeats m _ i _ _ told).equal).0.min_view in
      omega (arith, past, can.min_view))

  -- ---- an Accumulate of NEWVIEWs of one view

  pub accumulate_issues : (list : List ℕ) → (replica m i).status ≡ live → is_quorum_size m list ≡ true → all_issued m list ≡ true
      → is_new_view_quorum (first_of (certificates_of m list)).view (certificates_of m list) ≡ true
      → (let cs = certificates_of m list in
      let acc = acc_of i (replica m i).boot (first_of cs).view (greatest cs).block (greatest cs).of_view in
      (S → (k : ℕ) → k < certificate_count m → certificate m k ≡ acc → ⊥)
      → Issues S m (step m (Accumulate i) list) i (replica m i) acc)
  unfolding step rule_of accumulate
  accumulate_issues list status size issued quorum new =
      let needs : Holds (replica_needs m i ++ (list_needs m list ++ accumulate_needs (replica m i) (certificates_of m list))) =
      (form m h, (own, (size, (issued, (omega tests, (quorum, tt)))))) in
      let hold : Holds (accumulate m i list).needs = with_room m _ i _ _ needs room in
      issues S m _ i _ _ hold h own refl (accumulate-leaves m i list hold) (λ s. (accumulate_safe m i list hold (safe s)).safe)
      (λ s told. let same = (issuing_repeats m _ i _ _ told).equal in new s same.number same.issued same.holds)

  -- ---- a Prepare on an ACC, in the lowest view, with the flag lowered

  pub record CanPropose (b acc : ℕ) : Type 0 where
    pub issued : acc < certificate_count m
    pub kind : (certificate m acc).kind ≡ ACC
    pub signer : (certificate m acc).signer ≡ i
    pub leader : leads (fault_bound m) (certificate m acc).view i ≡ true
    pub added : b < block_count m
    pub other : b ≢ 0
    pub parent : parent m b ≡ (certificate m acc).block
    pub status : (replica m i).status ≡ live
    pub min_view : (replica m i).min_view ≡ (certificate m acc).view
    pub flag : (replica m i).flag ≡ lowered
    pub limit : (certificate m acc).view < (replica m i).view_limit

  pub prepare_issues : (b acc : ℕ) → CanPropose b acc
      → Issues S m (step m (Prepare i b (Acc acc)) []) i (changed (flag_at becomes raised ∷ []) (replica m i))
      (prop_of i (replica m i).boot (certificate m acc).view b)
  unfolding step rule_of prepare every
  prepare_issues b acc can =
      let c = certificate m acc in
      let one : is_issued m acc ≡ true = omega tests in
      let all : all_issued m (acc ∷ []) ≡ true = true_and one refl in
      let other : not (eqb b 0) ≡ true = (let e : eqb b 0 ≡ false = omega tests in rw e refl) in
      let justified : is_justified i (Acc acc) (c ∷ []) ≡ true = all-hold _ (omega tests) in
      let needs :
      Holds
      (replica_needs m i
      ++ (justification_needs m (Acc acc) []
      ++ (is_block m b else unknown_number
      ∷ has_status live (replica m i) else wrong_status
      ∷ is_justified i (Acc acc) (c ∷ []) else wrong_certificate
      ∷ proposal_needs (fault_bound m) i (replica m i) b (parent m b) c.view c.block))) = (
        form m h,
        (
          own,
          (
            refl,
            (
              all,
              (
                omega tests,
                (
                  omega tests,
                  (justified, (can.leader, (other, (omega tests, (omega tests, (omega tests, (omega tests, tt))))))),
                ),
              ),
            ),
          ),
        ),
      ) in
      let hold : Holds (prepare m i b (Acc acc) []).needs = with_room m _ i _ _ needs room in
      issues S m _ i _ _ hold h own refl (prepare_leaves m i b (Acc acc) [] hold) (λ s. (prepare_safe m i b (Acc acc) [] hold (safe s)).safe)
      (λ s told. prepare_never_found m (safe s) i b (Acc acc) [] hold told)

  -- ---- a Store of a PROP of a view that is not below the lowest

  pub record CanStore (number : ℕ) : Type 0 where
    pub issued : number < certificate_count m
    pub kind : (certificate m number).kind ≡ PROP
    pub leader : leads (fault_bound m) (certificate m number).view (certificate m number).signer ≡ true
    pub status : (replica m i).status ≡ live
    pub min_view : (replica m i).min_view ≤ (certificate m number).view
    pub limit : (certificate m number).view < (replica m i).view_limit

  pub store_issues : (number : ℕ) → CanStore number
      → (let p = certificate m number in
      Issues S m (step m (Store i number) []) i (storing p.view p.block (replica m i)) (commit_by p.view p.block i (replica m i)))
  unfolding step rule_of store
  store_issues number can =
      let needs : Holds (replica_needs m i ++ (number_needs m number ++ store_needs (fault_bound m) (replica m i) (certificate m number))) =
      (form m h, (own, (omega tests, (omega tests, (omega tests, (can.leader, (omega tests, (omega tests, tt)))))))) in
      let hold : Holds (store m i number).needs = with_room m _ i _ _ needs room in
      issues S m _ i _ _ hold h own refl (store-leaves m i number hold) (λ s. (store_safe m i number hold (safe s)).safe)
      (λ s told. store_never_found m (safe s) i number hold told)

-- ---- a Block

-- The new block has the next number and this parent; all else stands.
pub record AddsBlock (S : Type 0) (m : Memory) (p : ℕ) (o : Outcome) : Type 0 where
  pub answer : o.answer ≡ accepted (block_count m) 0
  pub formed : Formed o.state
  pub adds : AddsBlocks m o.state
  pub count : block_count o.state ≡ block_count m + 1
  pub parent : parent o.state (block_count m) ≡ p
  pub log : o.state.log ≡ m.log
  pub safe : S → Safe o.state

pub block_adds_one : (S : Type 0) (m : Memory) (p : ℕ) → Formed m → p < block_count m → block_at (block_count m + 1) ≤ length m.blocks
    → (S → Safe m) → AddsBlock S m p (step m (Block p) [])
unfolding step rule_of block append_block
block_adds_one S m p h known room safe =
    let z = sizes m h in
    let ws = block_record p (kept_height m p + 1) in
    let hold : Holds (block m p).needs = (form m h, (omega tests, (omega tests, tt))) in
    let adds = block_adds m ws refl h in
    let after = block-leaves m p hold in
    subst (AddsBlock S m p) (accepts m (block m p) (sym (none_refuses (block m p).needs hold)))
    (record {
      answer = refl;
      formed = after;
      adds = adds;
      count = block-count m ws refl (omega arith);
      parent = block_new m ws refl parent_at (omega arith) (omega arith);
      log = refl;
      safe = λ s. adds_safe m _ adds after (safe s);
    })

-- ---- a Decide of commits of one view and block

-- It names block b and view w; and a replica that had decided in an earlier view shows the block then.
pub record Names (m : Memory) (i b w : ℕ) (o : Outcome) : Type 0 where
  pub answer : o.answer ≡ accepted b w
  pub shown : (replica m i).decided_view < w
      → replica o.state i ≡ changed (decided_view_at becomes w ∷ decided_block_at becomes b ∷ []) (replica m i)

pub decide_names : (m : Memory) (i b w : ℕ) (list : List ℕ) → Formed m → is_replica m i ≡ true → is_quorum_size m list ≡ true
    → all_issued m list ≡ true → (first_of (certificates_of m list)).view ≡ w → (first_of (certificates_of m list)).block ≡ b
    → is_commit_quorum w b (certificates_of m list) ≡ true → Names m i b w (step m (Decide i) list)
unfolding step rule_of decide
decide_names m i b w list h own size issued view block quorum =
    let c = first_of (certificates_of m list) in
    let z = sizes m h in
    let matching : is_commit_quorum c.view c.block (certificates_of m list) ≡ true = rw (view, block) quorum in
    let hold : Holds (decide m i list).needs = (form m h, (own, (size, (issued, (matching, tt))))) in
    subst (Names m i b w) (accepts m (decide m i list) (sym (none_refuses (decide m i list).needs hold)))
    (record {
      answer = rw (view, block) refl;
      shown =
          λ older.
          let newer : ltb (replica m i).decided_view c.view ≡ true = omega tests in
          rw newer
          (update_own m i (decided_view_at becomes c.view ∷ decided_block_at becomes c.block ∷ []) refl (omega tests) ∙ rw (view, block) refl);
    })

-- Accepted or refused, it leaves the counts.
pub decide_header : (m : Memory) (i : ℕ) (list : List ℕ) (k : ℕ) → k < row_start
    → get_or (step m (Decide i) list).state.table k 0 ≡ get_or m.table k 0
unfolding step rule_of decide
decide_header m i list k l =
    outcome_state m (decide m i list) (λ x. get_or x.table k 0 ≡ get_or m.table k 0) refl
    (λ e.
    update_header m i _
    (by_cond (λ cs. within_row cs ≡ true) (ltb (replica m i).decided_view (first_of (certificates_of m list)).view) (λ e. refl) (λ e. refl))
    k l)

-- ---- what the replicas and the log have between two parts of the way

-- A replica that has entered view w and not proposed in it.
pub record Entered (w : ℕ) (r : Replica) : Type 0 where
  pub status : r.status ≡ live
  pub min_view : r.min_view ≡ w
  pub flag : r.flag ≡ lowered
  pub limit : w < r.view_limit

-- A replica that may store in view w.
pub record MayStore (w : ℕ) (r : Replica) : Type 0 where
  pub status : r.status ≡ live
  pub min_view : r.min_view ≤ w
  pub limit : w < r.view_limit

-- The PROP stands under its number.
pub record Proposed (f prop : ℕ) (p : Certificate) (x : Memory) : Type 0 where
  pub faults : fault_bound x ≡ f
  pub issued : prop < certificate_count x
  pub certificate : certificate x prop ≡ p

pub proposed_on : (f prop : ℕ) (p : Certificate) (x x' : Memory) (i : ℕ) (r : Replica) (c : Certificate) → Acts x x' i r c → Proposed f prop p x
    → Proposed f prop p x'
proposed_on f prop p x x' i r c acts at =
    let grows = acts.files.grows in
    let issued = at.issued in
    record {
      faults = acts.faults ∙ at.faults;
      issued = omega arith;
      certificate = acts.files.old prop at.issued ∙ at.certificate;
    }
