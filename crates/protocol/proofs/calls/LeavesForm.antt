-- An accepted call leaves well-formed memory.
use Prim.Native.Nat.{ℕ, ◌+◌, ◌≤◌}
use mathlib.Core.Path.{◌≡◌, refl}
use mathlib.Core.Bool.{Bool, true, false, ◌||◌}
use mathlib.Core.Logic.{◌≢◌}
use mathlib.Core.List.{List}
use lib.Dec.{ltb, leb, eqb}
use Rattle.protocol.specs.declared.Call.{Call}
use Rattle.protocol.specs.declared.Call.TheVariants.{Open, Block, Prepare, Store, View, Accumulate, Decide, Reboot}
use Rattle.protocol.specs.declared.Call.TheVariants.{Reserve, Request, Reply, Recover}
use Rattle.protocol.specs.declared.Justification.{Justification}
use Rattle.protocol.specs.Memory.{Memory, Replica, Certificate, replica_count, ceiling, fault_bound, block_count, retired, raised}
use Rattle.protocol.specs.Memory.{replica, certificate, update}
use Rattle.protocol.specs.Form.{replica_formed, certificate_formed}
use Rattle.protocol.specs.Counter.{counter_step}
use Rattle.protocol.specs.Quorum.{certificates_of, first_of}
use Rattle.protocol.specs.Calls.{is_ahead, retires, limit_after, opening, block, prepare, store, view, accumulate, decide, reboot}
use Rattle.protocol.specs.Calls.{reserve, request, reply, recover}
use Rattle.protocol.specs.Runs.{rule_of, step}
use Rattle.protocol.specs.Theorems.{AcceptedLeavesForm}
use Rattle.protocol.proofs.logic.Booleans.{tests, by_cond, or-false, each, all-hold}
use Rattle.protocol.proofs.calls.Needs.{Holds, accepted_after}
use Rattle.protocol.proofs.calls.Rules.{accepted_needs}
use Rattle.protocol.proofs.memory.Formed.{Formed, formed, form}
use Rattle.protocol.proofs.memory.Keeps.{Suits, update_keeps, block_keeps, issuing_needs, issuing_keeps}
use Rattle.protocol.proofs.memory.Lists.{all_named, first_named, picked}
use Rattle.protocol.proofs.memory.Opened.{opened, opened_formed}

-- A certificate in its ranges.
abbrev InRange : Memory → Certificate → Type 0
InRange m c = certificate_formed (replica_count (fault_bound m)) (block_count m) c ≡ true

pub opening_leaves : (m : Memory) (f : ℕ) (list : List ℕ) → Holds (opening m f list).needs → Formed (opening m f list).after
unfolding opening
opening_leaves m f list h = opened_formed m f list _ h.0 h.1.0 h.1.1.0 (opened m f list h.1.0 h.1.1.0)

pub block-leaves : (m : Memory) (p : ℕ) → Holds (block m p).needs → Formed (block m p).after
unfolding block
block-leaves m p h = block_keeps m p (formed m h.0) (omega tests) (omega tests)

pub store-leaves : (m : Memory) (i number : ℕ) → Holds (store m i number).needs → Formed (store m i number).after
unfolding store replica_formed certificate_formed
store-leaves m i number hold =
    let h = (issuing_needs m _ i _ _ hold).0 in
    let z = formed m h.0 in
    let r = each _ (z.rows i (omega tests)) in
    let p = each _ (z.log number (omega tests)) in
    issuing_keeps m _ i _ _ hold z h.1.0 (all-hold _ (omega tests)) (record { within = refl; row = all-hold _ (omega tests) })

pub prepare_leaves : (m : Memory) (i b : ℕ) (j : Justification) (list : List ℕ) → Holds (prepare m i b j list).needs
    → Formed (prepare m i b j list).after
unfolding prepare replica_formed certificate_formed
prepare_leaves m i b j list hold =
    let h = (issuing_needs m _ i _ _ hold).0 in
    let z = formed m h.0 in
    let r = each _ (z.rows i (omega tests)) in
    issuing_keeps m _ i _ _ hold z h.1.0 (all-hold _ (omega tests)) (record { within = refl; row = all-hold _ (omega tests) })

pub view-leaves : (m : Memory) (i w : ℕ) → Holds (view m i w).needs → Formed (view m i w).after
unfolding view replica_formed certificate_formed
view-leaves m i w hold =
    let h = (issuing_needs m _ i _ _ hold).0 in
    let z = formed m h.0 in
    let r = each _ (z.rows i (omega tests)) in
    issuing_keeps m _ i _ _ hold z h.1.0 (all-hold _ (omega tests))
    (record {
      within = refl;
      row =
          let flag = by_cond (λ (x : ℕ). leb x raised ≡ true) (is_ahead (replica m i) w) (λ e. omega tests) (λ e. omega tests) in
          all-hold _ (omega tests, (flag, omega tests));
    })

pub accumulate-leaves : (m : Memory) (i : ℕ) (list : List ℕ) → Holds (accumulate m i list).needs
    → Formed (accumulate m i list).after
unfolding accumulate replica_formed certificate_formed
accumulate-leaves m i list hold =
    let h = (issuing_needs m _ i _ _ hold).0 in
    let z = formed m h.0 in
    let r = each _ (z.rows i (omega tests)) in
    let cs = all_named (InRange m) m list h.1.1.1.0 z.log in
    let two = picked (InRange m) m list h.1.1.0 cs in
    let c = each _ two.0 in
    let g = each _ two.1 in
    issuing_keeps m _ i _ _ hold z h.1.0 (all-hold _ (omega tests)) (record { within = refl; row = all-hold _ (omega tests) })

pub decide-leaves : (m : Memory) (i : ℕ) (list : List ℕ) → Holds (decide m i list).needs → Formed (decide m i list).after
unfolding decide replica_formed certificate_formed
decide-leaves m i list h =
    let z = formed m h.0 in
    let r = each _ (z.rows i (omega tests)) in
    let cs = all_named (InRange m) m list h.1.1.1.0 z.log in
    let c = each _ (first_named (InRange m) m list h.1.1.0 cs) in
    by_cond (λ cs. Formed (update m i cs)) (ltb (replica m i).decided_view (first_of (certificates_of m list)).view)
    (λ e. update_keeps m i _ z h.1.0 (record { within = refl; row = all-hold _ (omega tests) }))
    (λ e. update_keeps m i _ z h.1.0 (record { within = refl; row = all-hold _ (omega tests) }))

-- Whether a reboot retires the replica; one that does not stays within 1,000,000.
abbrev pub reboot_retires : Memory → ℕ → Bool
reboot_retires m i = let r = replica m i in retires r (r.boot + 1) (limit_after m r (r.boot + 1))

-- A replica that a Reboot does not retire: it was not retired before, and boot and limit are in range.
pub record StaysActive (m : Memory) (r : Replica) : Type 0 where
  pub active : r.status ≢ retired
  pub boot : r.boot + 1 ≤ ceiling
  pub limit : r.view_limit + counter_step m (r.boot + 1) ≤ ceiling

pub stays_active : (m : Memory) (i : ℕ) → reboot_retires m i ≡ false → StaysActive m (replica m i)
stays_active m i e =
    let a = or-false (eqb (replica m i).status retired || ltb ceiling ((replica m i).boot + 1)) _ e in
    let b = or-false (eqb (replica m i).status retired) _ a.0 in
    omega tests

pub reboot-leaves : (m : Memory) (i : ℕ) → Holds (reboot m i).needs → Formed (reboot m i).after
unfolding reboot replica_formed
reboot-leaves m i h =
    let z = formed m h.0 in
    let r = each _ (z.rows i (omega tests)) in
    by_cond (λ cs. Formed (update m i cs)) (reboot_retires m i)
    (λ e. update_keeps m i _ z h.1.0 (record { within = refl; row = all-hold _ (omega tests) }))
    (λ e.
    let fits = stays_active m i e in
    update_keeps m i _ z h.1.0 (record { within = refl; row = all-hold _ (omega tests) }))

pub reserve-leaves : (m : Memory) (i : ℕ) → Holds (reserve m i).needs → Formed (reserve m i).after
unfolding reserve replica_formed
reserve-leaves m i h =
    let z = formed m h.0 in
    let r = each _ (z.rows i (omega tests)) in
    update_keeps m i _ z h.1.0 (record { within = refl; row = all-hold _ (omega tests) })

pub request-leaves : (m : Memory) (i : ℕ) → Holds (request m i).needs → Formed (request m i).after
unfolding request replica_formed certificate_formed
request-leaves m i hold =
    let h = (issuing_needs m _ i _ _ hold).0 in
    let z = formed m h.0 in
    let r = each _ (z.rows i (omega tests)) in
    issuing_keeps m _ i _ _ hold z h.1.0 (all-hold _ (omega tests)) (record { within = refl; row = all-hold _ (omega tests) })

pub reply-leaves : (m : Memory) (i number : ℕ) → Holds (reply m i number).needs → Formed (reply m i number).after
unfolding reply replica_formed certificate_formed
reply-leaves m i number hold =
    let h = (issuing_needs m _ i _ _ hold).0 in
    let z = formed m h.0 in
    let r = each _ (z.rows i (omega tests)) in
    let q = each _ (z.log number (omega tests)) in
    issuing_keeps m _ i _ _ hold z h.1.0 (all-hold _ (omega tests))
    (by_cond (Suits m i) (ltb (replica m i).min_view (certificate m number).view)
    (λ e. record { within = refl; row = all-hold _ (omega tests) })
    (λ e. record { within = refl; row = all-hold _ (omega tests) }))

pub recover-leaves : (m : Memory) (i : ℕ) (list : List ℕ) → Holds (recover m i list).needs → Formed (recover m i list).after
unfolding recover replica_formed certificate_formed
recover-leaves m i list h =
    let z = formed m h.0 in
    let r = each _ (z.rows i (omega tests)) in
    let cs = all_named (InRange m) m list h.1.1.1.0 z.log in
    let two = picked (InRange m) m list h.1.1.0 cs in
    let c = each _ two.0 in
    let g = each _ two.1 in
    update_keeps m i _ z h.1.0 (record { within = refl; row = all-hold _ (omega tests) })

leaves : (m : Memory) (call : Call) (list : List ℕ) → Holds (rule_of m call list).needs → Formed (rule_of m call list).after
unfolding rule_of
leaves m (Open f) list h = opening_leaves m f list h
leaves m (Block p) list h = block-leaves m p h
leaves m (Prepare i b justification) list h = prepare_leaves m i b justification list h
leaves m (Store i number) list h = store-leaves m i number h
leaves m (View i w) list h = view-leaves m i w h
leaves m (Accumulate i) list h = accumulate-leaves m i list h
leaves m (Decide i) list h = decide-leaves m i list h
leaves m (Reboot i) list h = reboot-leaves m i h
leaves m (Reserve i) list h = reserve-leaves m i h
leaves m (Request i) list h = request-leaves m i h
leaves m (Reply i number) list h = reply-leaves m i number h
leaves m (Recover i) list h = recover-leaves m i list h

pub accepted-leaves-form : AcceptedLeavesForm
unfolding AcceptedLeavesForm step
accepted-leaves-form m call list accepted =
    rw (accepted_after m (rule_of m call list) accepted) (form _ (leaves m call list (accepted_needs m call list accepted)))
