-- The invariant after each call that one replica makes.
use Prim.Native.Nat.{ℕ, ◌≤◌}
use mathlib.Core.Path.{◌≡◌, refl, ap}
use mathlib.Core.Bool.{true}
use mathlib.Core.Logic.{◌≢◌, inl, inr, ⊎_elim}
use mathlib.Core.List.{List, []}
use native.Mathlib.Omega.{arith}
use lib.Dec.{ltb}
use Rattle.protocol.specs.Memory.{Memory, Replica, Certificate, Assignment}
use Rattle.protocol.specs.Memory.{replica, certificate, live, raised, update}
use Rattle.protocol.specs.Form.{replica_formed}
use Rattle.protocol.specs.Certificates.{PROP, COMMIT, NEWVIEW, REPLY}
use Rattle.protocol.specs.Quorum.{certificates_of, signers, first_of, is_quorum}
use Rattle.protocol.specs.FirstNeeds.{is_replica}
use Rattle.protocol.specs.Calls.{is_ahead, decision_words, store, view, accumulate, decide, reboot}
use Rattle.protocol.specs.Calls.{has_status, issuing, reserve, request, reply, recover}
use Rattle.protocol.specs.Outcome.{Need}
use Rattle.protocol.proofs.logic.Booleans.{tests, by_cond, each}
use Rattle.protocol.proofs.calls.Needs.{Holds}
use Rattle.protocol.proofs.memory.Words.{within_row}
use Rattle.protocol.proofs.memory.Changes.{changed}
use Rattle.protocol.proofs.memory.Formed.{Formed}
use Rattle.protocol.proofs.memory.Keeps.{issuing_needs}
use Rattle.protocol.proofs.memory.Lists.{picked}
use Rattle.protocol.proofs.agreement.Quorums.{signed_by, all_map, each_tested, quorum, covers}
use Rattle.protocol.proofs.calls.LeavesForm.{store-leaves, view-leaves, accumulate-leaves, decide-leaves, reboot-leaves}
use Rattle.protocol.proofs.calls.LeavesForm.{reboot_retires, reserve-leaves, request-leaves, reply-leaves, recover-leaves}
use Rattle.protocol.proofs.agreement.Safety.{Issued, CommitTo, Proposed, Chosen, ReportSafe, NewViewSafe, Clause, CertificateSafe}
use Rattle.protocol.proofs.agreement.Safety.{clause, ReplicaSafe, Safe}
use Rattle.protocol.proofs.agreement.Moves.{Moves, issued_after, origin_after, chosen_after, choosable_before, committed_before}
use Rattle.protocol.proofs.agreement.Acts.{Acts, Advances, GoesOn, update_acts, issuing_acts, moves, committed_same, safe_after}
use Rattle.protocol.proofs.agreement.Acts.{quiet_after, goes_on}
use Rattle.protocol.proofs.agreement.SafeParts.{Keeps, stored_after, decided_after, replica_kept, left_behind}

pub store_safe : (m : Memory) (i number : ℕ) → Holds (store m i number).needs → Safe m → GoesOn m (store m i number).after
unfolding store replica_formed
store_safe m i number hold safe =
    let h = (issuing_needs m _ i _ _ hold).0 in
    let z = safe.formed in
    let f = each _ (z.rows i (omega tests)) in
    let p = certificate m number in
    let r = replica m i in
    let row = safe.rows i (omega tests) in
    let acts = issuing_acts m _ i _ _ hold z h.1.0 refl in
    let mv =
    moves m _ i _ _ acts (record { min_view = omega tests; limit = omega arith; flag = λ a e x. absurd (omega tests) })
    (λ k. record { signer = refl; could = omega tests; left = omega arith }) in
    let proposed : Proposed m p.view p.block =
    record { number = number; issued = omega tests; holds = record { kind = omega tests; view = refl; block = refl } } in
    let min_view = ap (λ (r : Replica). r.min_view) acts.own in
    goes_on m _ i _ _ acts safe (store-leaves m i number hold) mv
    (record { positive = omega tests; min_view = omega arith; proposed = issued_after m _ mv _ proposed })
    (record {
      stored = inr (issued_after m _ mv _ proposed);
      covers =
          λ e v x ch.
          ⊎_elim (λ old. let before = left_behind m safe old in omega tests) (λ new. let after = new.1 in omega arith)
          (committed_before m _ mv x);
      decided = decided_after m _ i _ _ acts mv r refl refl row;
    })
    (λ k. absurd (omega arith)) refl refl

-- Assignments that keep what the replica stored and decided, and lower neither its lowest view nor its limit.
record KeepsWords (r : Replica) (cs : List Assignment) : Type 0 where
  within : within_row cs ≡ true
  advances : Advances r (changed cs r)
  keeps : Keeps r (changed cs r)

no_words : (r : Replica) → KeepsWords r []
no_words r =
    record {
      within = refl;
      advances = record { min_view = omega arith; limit = omega arith; flag = λ a e x. x };
      keeps = record { stored_view = refl; stored_block = refl; decided_view = refl; decided_block = refl; status = λ e. e };
    }

-- A certificate that is neither a PROP nor a COMMIT, by a replica that keeps what it stored and decided.
signs : (m : Memory) (needs : List Need) (i : ℕ) (cs : List Assignment) (c : Certificate) → Holds (issuing m needs i cs c).needs
    → Safe m → is_replica m i ≡ true → KeepsWords (replica m i) cs → c.kind ≢ PROP → c.kind ≢ COMMIT
    → (let out = (issuing m needs i cs c).after in
    Formed out → (Acts m out i (changed cs (replica m i)) c → Moves m out → CertificateSafe out c) → GoesOn m out)
signs m needs i cs c hold safe own kept no-prop no-commit formed new =
    let acts = issuing_acts m needs i cs c hold safe.formed own kept.within in
    let mv = moves m _ i _ c acts kept.advances (λ k. absurd (no-commit k)) in
    goes_on m _ i _ c acts safe formed mv (new acts mv)
    (replica_kept m _ i _ c acts mv no-commit (replica m i) kept.keeps (safe.rows i (omega tests)))
    (λ k. absurd (no-prop k)) kept.keeps.decided_view kept.keeps.decided_block

-- Such assignments, after which the lowest view is at least w.
record Raises (r : Replica) (w : ℕ) (cs : List Assignment) : Type 0 where
  kept : KeepsWords r cs
  min_view : w ≤ (changed cs r).min_view

-- What a replica stored, as a certificate of view w.
abbrev report_of : ℕ → ℕ → ℕ → Replica → ℕ → ℕ → Certificate
report_of kind i w r subject boot =
    record {
      kind = kind;
      signer = i;
      view = w;
      block = r.stored_block;
      of_view = r.stored_view;
      subject = subject;
      subject_boot = boot;
      signer_boot = r.boot;
    }

-- A live replica issues one, and has left the views below w.
reports : (m : Memory) (needs : List Need) (i kind w subject boot : ℕ) (cs : List Assignment) → Raises (replica m i) w cs
    → is_replica m i ≡ true → has_status live (replica m i) ≡ true → Safe m → kind ≢ PROP → kind ≢ COMMIT
    → (let c = report_of kind i w (replica m i) subject boot in
    let out = issuing m needs i cs c in
    Holds out.needs → Formed out.after → (ReportSafe out.after c → Clause kind out.after c) → GoesOn m out.after)
reports m needs i kind w subject boot cs raises own lives safe no-prop no-commit hold formed by_kind =
    signs m needs i cs _ hold safe own raises.kept no-prop no-commit formed
    (λ acts mv.
    let row = safe.rows i (omega tests) in
    let min_view = ap (λ (r : Replica). r.min_view) acts.own in
    by_kind
    (record {
      min_view = omega (arith, min_view, raises.min_view);
      origin = origin_after m _ mv row.stored;
      covers = λ v l x ch. row.covers (omega tests) v (committed_same m _ i _ _ acts no-commit x) (choosable_before m _ mv ch);
    }))

pub view_safe : (m : Memory) (i w : ℕ) → Holds (view m i w).needs → Safe m → GoesOn m (view m i w).after
unfolding view replica_formed
view_safe m i w hold safe =
    let h = (issuing_needs m _ i _ _ hold).0 in
    let f = each _ (safe.formed.rows i (omega tests)) in
    let r = replica m i in
    reports m _ i NEWVIEW w 0 0 _
    (record {
      kept =
          record {
            within = refl;
            advances =
                record {
                  min_view = omega tests;
                  limit = omega arith;
                  flag = λ a e x. by_cond (λ (y : ℕ). y ≡ raised) (is_ahead r w) (λ t. absurd (omega tests)) (λ t. x);
                };
            keeps = record { stored_view = refl; stored_block = refl; decided_view = refl; decided_block = refl; status = λ e. e };
          };
      min_view = omega arith;
    })
    h.1.0 (omega tests) safe (λ k. omega arith) (λ k. omega arith) hold (view-leaves m i w hold)
    (λ x. (x, record { positive = omega tests; older = omega tests }))

pub accumulate_safe : (m : Memory) (i : ℕ) (list : List ℕ) → Holds (accumulate m i list).needs → Safe m
    → GoesOn m (accumulate m i list).after
unfolding accumulate is_quorum
accumulate_safe m i list hold safe =
    let h = (issuing_needs m _ i _ _ hold).0 in
    let cs = certificates_of m list in
    let w = (first_of cs).view in
    let size = h.1.1.0 in
    let issued = h.1.1.1.0 in
    let tested = each _ h.1.1.1.1.1.0 in
    let Report : Certificate → Type 0 = λ c. (ReportSafe m c × (c.view ≡ w)) × NewViewSafe c in
    let reports =
    each_tested m (CertificateSafe m) Report _ list issued safe.log tested.0
    (λ c x t. let t = each _ t in let k = clause m c NEWVIEW (omega tests) x in ((k.0, omega tests), k.1)) in
    let two = picked Report m list size reports in
    let first = two.0 in
    let best = two.1 in
    signs m _ i _ _ hold safe h.1.0 (no_words (replica m i)) (λ k. omega arith) (λ k. omega arith) (accumulate-leaves m i list hold)
    (λ acts mv.
    record {
      positive = first.1.positive;
      older = omega (arith, best.1.older, best.0.1);
      origin = origin_after m _ mv best.0.0.origin;
      covers =
          λ v a b ch.
          covers m cs w (quorum m list safe.formed size issued tested.1.0) (all_map Report _ cs (λ c x. x.0) reports) v b
          (choosable_before m _ mv ch);
    })

pub request_safe : (m : Memory) (i : ℕ) → Holds (request m i).needs → Safe m → GoesOn m (request m i).after
unfolding request
request_safe m i hold safe =
    let h = (issuing_needs m _ i _ _ hold).0 in
    signs m _ i _ _ hold safe h.1.0 (no_words (replica m i)) (λ k. omega arith) (λ k. omega arith) (request-leaves m i hold)
    (λ acts mv. tt)

pub reply_safe : (m : Memory) (i number : ℕ) → Holds (reply m i number).needs → Safe m → GoesOn m (reply m i number).after
unfolding reply
reply_safe m i number hold safe =
    let h = (issuing_needs m _ i _ _ hold).0 in
    let r = replica m i in
    let w = (certificate m number).view in
    reports m _ i REPLY w _ _ _
    (by_cond (Raises r w) (ltb r.min_view w)
    (λ e.
    record {
      kept =
          record {
            within = refl;
            advances = record { min_view = omega tests; limit = omega arith; flag = λ a s x. omega tests };
            keeps = record { stored_view = refl; stored_block = refl; decided_view = refl; decided_block = refl; status = λ e. e };
          };
      min_view = omega arith;
    })
    (λ e. record { kept = no_words r; min_view = omega tests }))
    h.1.0 h.1.1.1.0 safe (λ k. omega arith) (λ k. omega arith) hold (reply-leaves m i number hold) (λ x. x)

-- ---- the calls that issue nothing

-- A certificate of no kind, which none of them issues.
abbrev nothing : Certificate
nothing = first_of []

pub record Updated (m : Memory) (i : ℕ) (cs : List Assignment) : Type 0 where
  pub acts : Acts m (update m i cs) i (changed cs (replica m i)) nothing
  pub moves : Moves m (update m i cs)
  pub safe : Safe (update m i cs)

module _ (m : Memory) (i : ℕ) (cs : List Assignment) where
  -- What the replica's new words must meet.
  abbrev Meets : Type 0
  Meets =
      Acts m (update m i cs) i (changed cs (replica m i)) nothing → Moves m (update m i cs)
      → ReplicaSafe (update m i cs) i (changed cs (replica m i))

  updated : Safe m → is_replica m i ≡ true → Formed (update m i cs) → within_row cs ≡ true
      → Advances (replica m i) (changed cs (replica m i)) → Meets → Updated m i cs
  updated safe own formed within adv mine =
      let acts = update_acts m i cs nothing safe.formed own within in
      let mv = moves m (update m i cs) i (changed cs (replica m i)) nothing acts adv (λ k. absurd (omega arith)) in
      record {
        acts = acts;
        moves = mv;
        safe =
            safe_after m (update m i cs) i (changed cs (replica m i)) nothing acts safe formed mv tt (mine acts mv)
            (λ k. absurd (omega arith));
      }

  update_goes_on : Safe m → is_replica m i ≡ true → Formed (update m i cs) → within_row cs ≡ true
      → Advances (replica m i) (changed cs (replica m i)) → Meets
      → (changed cs (replica m i)).decided_view ≡ (replica m i).decided_view
      → (changed cs (replica m i)).decided_block ≡ (replica m i).decided_block → GoesOn m (update m i cs)
  update_goes_on safe own formed within adv mine v b =
      let u = updated safe own formed within adv mine in
      record { safe = u.safe; moves = u.moves; quiet = quiet_after m _ i _ nothing u.acts v b }

pub reserve_safe : (m : Memory) (i : ℕ) → Holds (reserve m i).needs → Safe m → GoesOn m (reserve m i).after
unfolding reserve
reserve_safe m i h safe =
    update_goes_on m i _ safe h.1.0 (reserve-leaves m i h) refl
    (record { min_view = omega arith; limit = omega arith; flag = λ a e x. x })
    (λ acts mv.
    replica_kept m _ i _ nothing acts mv (λ k. omega arith) (replica m i)
    (record { stored_view = refl; stored_block = refl; decided_view = refl; decided_block = refl; status = λ e. e })
    (safe.rows i (omega tests)))
    refl refl

pub reboot_safe : (m : Memory) (i : ℕ) → Holds (reboot m i).needs → Safe m → GoesOn m (reboot m i).after
unfolding reboot replica_formed
reboot_safe m i h safe =
    let r = replica m i in
    let f = each _ (safe.formed.rows i (omega tests)) in
    let row = safe.rows i (omega tests) in
    by_cond (λ cs. Formed (update m i cs) → GoesOn m (update m i cs)) (reboot_retires m i)
    (λ e left.
    update_goes_on m i _ safe h.1.0 left refl (record { min_view = omega arith; limit = omega arith; flag = λ a s x. x })
    (λ acts mv.
    replica_kept m _ i _ nothing acts mv (λ k. omega arith) r
    (record { stored_view = refl; stored_block = refl; decided_view = refl; decided_block = refl; status = λ s. absurd (omega arith) }) row)
    refl refl)
    (λ e left.
    update_goes_on m i _ safe h.1.0 left refl
    (record { min_view = omega tests; limit = omega arith; flag = λ a s x. absurd (omega arith) })
    (λ acts mv.
    record {
      stored = inl (refl, refl);
      covers = λ s. absurd (omega arith);
      decided = decided_after m _ i _ nothing acts mv r refl refl row;
    })
    refl refl)
    (reboot-leaves m i h)

pub recover_safe : (m : Memory) (i : ℕ) (list : List ℕ) → Holds (recover m i list).needs → Safe m
    → GoesOn m (recover m i list).after
unfolding recover is_quorum
recover_safe m i list h safe =
    let r = replica m i in
    let row = safe.rows i (omega tests) in
    let cs = certificates_of m list in
    let w = r.min_view in
    let size = h.1.1.0 in
    let issued = h.1.1.1.0 in
    let tested = each _ h.1.1.1.1.1.0 in
    let Report : Certificate → Type 0 = λ c. ReportSafe m c × (c.view ≡ w) in
    let reports =
    each_tested m (CertificateSafe m) Report _ list issued safe.log tested.0
    (λ c x t. let t = each _ t in (clause m c REPLY (omega tests) x, omega tests)) in
    let best = (picked Report m list size reports).1 in
    update_goes_on m i _ safe h.1.0 (recover-leaves m i list h) refl
    (record { min_view = omega arith; limit = omega arith; flag = λ a s x. x })
    (λ acts mv.
    record {
      stored = origin_after m _ mv best.0.origin;
      covers =
          λ s v x ch.
          let old = committed_same m _ i _ nothing acts (λ k. omega arith) x in
          covers m cs w (quorum m list safe.formed size issued tested.1.0) reports v (left_behind m safe old)
          (choosable_before m _ mv ch);
      decided = decided_after m _ i _ nothing acts mv r refl refl row;
    })
    refl refl

-- What a Decide accepts is chosen.
pub chosen : (m : Memory) (i : ℕ) (list : List ℕ) → Holds (decide m i list).needs → Safe m
    → Chosen m (decide m i list).second (decide m i list).first
unfolding decide is_quorum
chosen m i list h safe =
    let cs = certificates_of m list in
    let v = (first_of cs).view in
    let b = (first_of cs).block in
    let issued = h.1.1.1.0 in
    let tested = each _ h.1.1.1.1.0 in
    let commits =
    each_tested m (λ c. Issued m (λ x. x ≡ c)) (λ c. Issued m (λ x. CommitTo v b c.signer x)) _ list issued
    (λ k l. record { number = k; issued = l; holds = refl }) tested.0
    (λ c x t.
    let t = each _ t in
    let commit : CommitTo v b c.signer c =
    record { commit = record { kind = omega tests; view = omega tests; signer = refl }; block = omega tests } in
    record { number = x.number; issued = x.issued; holds = rw x.holds commit }) in
    record {
      members = signers cs;
      quorum = quorum m list safe.formed h.1.1.0 issued tested.1.0;
      each = λ j w. let s = signed_by _ cs j commits w in rw (← s.signer) s.holds;
    }

pub decide_safe : (m : Memory) (i : ℕ) (list : List ℕ) → Holds (decide m i list).needs → Safe m
    → Updated m i (decision_words (replica m i) (first_of (certificates_of m list)))
unfolding decide
decide_safe m i list h safe =
    let r = replica m i in
    let row = safe.rows i (omega tests) in
    let c = first_of (certificates_of m list) in
    by_cond (λ cs. Formed (update m i cs) → Updated m i cs) (ltb r.decided_view c.view)
    (λ e left.
    updated m i _ safe h.1.0 left refl (record { min_view = omega arith; limit = omega arith; flag = λ a s x. x })
    (λ acts mv.
    record {
      stored = stored_after m _ i _ nothing acts mv r refl refl row;
      covers =
          λ s v x ch.
          row.covers s v (committed_same m _ i _ nothing acts (λ k. omega arith) x) (choosable_before m _ mv ch);
      decided = inr (chosen_after m _ mv (chosen m i list h safe));
    }))
    (λ e left.
    updated m i _ safe h.1.0 left refl (no_words r).advances
    (λ acts mv. replica_kept m _ i _ nothing acts mv (λ k. omega arith) r (no_words r).keeps row))
    (decide-leaves m i list h)
