-- What every list of calls after an opening keeps: the invariant, and that the words are what the calls and answers told.
use Prim.Native.Nat.{ℕ, ◌+◌, ◌≤◌, ◌<◌}
use mathlib.Core.Path.{◌≡◌, refl, sym, ap, ◌∙◌, subst}
use mathlib.Core.Bool.{true, false, cond}
use mathlib.Core.Logic.{inl, inr, ⊎_elim}
use mathlib.Core.List.Memᴰ
use mathlib.Core.List.{List, [], ◌∷◌, Memᴰ}
use native.Mathlib.Omega.{arith}
use lib.Dec.{ltb, leb, eqb}
use Rattle.protocol.specs.Memory.{Memory, Replica, ◌becomes◌, decided_view_at, decided_block_at, replica_count, fault_bound}
use Rattle.protocol.specs.Memory.{block_count, replica, parent_at, parent, kept_height, block_record, append_block}
use Rattle.protocol.specs.Ancestry.{Falls, steps_to_root, height_by, height, is_ancestor_by}
use Rattle.protocol.specs.Form.{replica_formed, certificate_formed}
use Rattle.protocol.specs.Quorum.{certificates_of, first_of}
use Rattle.protocol.specs.Calls.{block, decide}
use Rattle.protocol.specs.History.{Event, added, decided, other, given_parent, Decision, none, ◌in_view◌, higher, highest}
use Rattle.protocol.specs.History.{decision_block, decision_view, panel}
use Rattle.protocol.specs.Agreement.{OneChain, PanelsRise, Told, Extends}
use Rattle.protocol.proofs.logic.Booleans.{tests, by-test, by_cond, each}
use Rattle.protocol.proofs.calls.Needs.{Holds}
use Rattle.protocol.proofs.memory.Changes.{same_parent, changed, block_new, block_old, block-count}
use Rattle.protocol.proofs.memory.Formed.{sizes, falls}
use Rattle.protocol.proofs.memory.Keeps.{block_keeps}
use Rattle.protocol.proofs.memory.Ancestors.{IsAncestor, ancestor_same, is-ancestor, height_same, ancestor_height}
use Rattle.protocol.proofs.agreement.Safety.{Chosen, Safe}
use Rattle.protocol.proofs.agreement.Moves.{chosen_after}
use Rattle.protocol.proofs.agreement.Acts.{GoesOn}
use Rattle.protocol.proofs.agreement.SafeCalls.{chosen, decide_safe}
use Rattle.protocol.proofs.agreement.SafeEnds.{adds_moves, adds_safe, block_adds, chosen_proposal, chosen_ancestor}

pub record Reached (f : ℕ) (past : List Event) (m : Memory) : Type 0 where
  pub safe : Safe m
  pub faults : fault_bound m ≡ f
  pub told : Told f past m
  -- a number that is no replica's has decided nothing
  pub strangers : (i : ℕ) → replica_count f ≤ i → highest past i ≡ none
  pub decisions : (i b v : ℕ) → Memᴰ (decided i b v) past → Chosen m v b
  pub panels : PanelsRise past

-- What a next event leaves: all of that again, with nothing lost from the log and the blocks.
pub record Follows (f : ℕ) (past : List Event) (m m' : Memory) : Type 0 where
  pub reached : Reached f past m'
  pub extends : Extends m m'

-- An event that is not the newest is an older one.
older : {x e : Event} {past : List Event} → (x ≡ e → ⊥) → Memᴰ x (e ∷ past) → Memᴰ x past
older differs w = ⊎_elim (λ e. absurd (differs e)) (λ w. w) (Memᴰ.cases_cons w)

-- The decided words of a replica are those of its highest decision.
record HoldsHighest (r : Replica) (s : Decision) : Type 0 where
  view : r.decided_view ≡ decision_view s
  block : r.decided_block ≡ decision_block s

words_told : (r : Replica) (b v : ℕ) (d : Decision) → 1 ≤ v → HoldsHighest r d
    → HoldsHighest (changed (cond (ltb r.decided_view v) (decided_view_at becomes v ∷ decided_block_at becomes b ∷ []) []) r) (higher d b v)
unfolding higher
words_told r b v none positive h =
    let z = h.view in
    by_cond (λ cs. HoldsHighest (changed cs r) (b in_view v)) (ltb r.decided_view v) (λ e. record { view = refl; block = refl })
    (λ e. absurd (omega tests))
words_told r b v (c in_view w) positive h =
    let z = h.view in
    by_cond (λ cs. HoldsHighest (changed cs r) (higher (c in_view w) b v)) (ltb r.decided_view v)
    (λ e. let q : ltb w v ≡ true = omega tests in rw q (record { view = refl; block = refl }))
    (λ e. let q : ltb w v ≡ false = omega tests in rw q h)

-- ---- lines and heights by the parents given

module _ (f : ℕ) (past : List Event) (m : Memory) (h : Reached f past m) where
  pub given_falls : Falls (given_parent past) (block_count m)
  given_falls b l n =
      let e = h.told.parents b l in
      let lower = falls m h.safe.formed b l n in
      omega arith

  holds_highest : (i : ℕ) → i < replica_count f → HoldsHighest (replica m i) (highest past i)
  holds_highest i own = record { view = h.told.views i own; block = h.told.blocks i own }

  -- The block of a highest decision is an added one.
  highest_known : (i : ℕ) → decision_block (highest past i) < block_count m
  unfolding replica_formed
  highest_known i =
      let z = sizes m h.safe.formed in
      let same = h.faults in
      by-test (ltb i (replica_count f))
      (λ e.
      let row = each _ (h.safe.formed.rows i (omega tests)) in
      let word = h.told.blocks i (omega tests) in
      omega tests)
      (λ e. rw (h.strangers i (omega tests)) (omega arith))

  -- The height of the decided block, by the words, is the panel of the history.
  pub panel_height : (i : ℕ) → i < replica_count f → height m (replica m i).decided_block ≡ panel past i
  unfolding panel
  panel_height i own =
      ap (height m) (h.told.blocks i own)
      ∙ height_same (parent m) (given_parent past) (block_count m) (falls m h.safe.formed) h.told.parents _ (highest_known i)

  pub one-chain : {v b w c : ℕ} → b < block_count m → c < block_count m → Chosen m v b → Chosen m w c → OneChain past b c
  one-chain {v} {b} {w} {c} known-b known-c hb hc =
      by-test (leb v w) (λ e. inl (in_chain known-c (chosen_ancestor m h.safe hb hc (omega tests))))
      (λ e. inr (in_chain known-b (chosen_ancestor m h.safe hc hb (omega tests))))
    where
      in_chain : {a b : ℕ} → b < block_count m → IsAncestor (parent m) a b → is_ancestor_by (given_parent past) a b ≡ true
      in_chain l w =
          is-ancestor (given_parent past) (block_count m) given_falls l
          (ancestor_same (parent m) (given_parent past) (block_count m) (falls m h.safe.formed) h.told.parents l w)

  -- ---- an event that the history does not see

  pub quiet : {m' : Memory} → GoesOn m m' → Follows f (other ∷ past) m m'
  unfolding given_parent highest panel
  quiet g =
      let q = g.quiet in
      let count = q.blocks in
      record {
        reached =
            record {
              safe = g.safe;
              faults = g.moves.faults ∙ h.faults;
              told =
                  record {
                    parents = λ b l. q.parents b ∙ h.told.parents b (omega arith);
                    views = λ i l. q.decided_view i ∙ h.told.views i l;
                    blocks = λ i l. q.decided_block i ∙ h.told.blocks i l;
                  };
              strangers = h.strangers;
              decisions =
                  λ i b v w.
                  chosen_after m _ g.moves (h.decisions i b v (older (λ e. let z : ◌≡◌ {A = ℕ} 0 1 = cc in omega arith) w));
              panels = (λ i. omega arith, h.panels);
            };
        extends = g.moves.extends;
      }

  -- ---- a block is added

  pub added_block : (p : ℕ) → Holds (block m p).needs → Follows f (added (block_count m) p ∷ past) m (block m p).after
  unfolding block given_parent highest panel
  added_block p needs =
      let z = sizes m h.safe.formed in
      let ws = block_record p (kept_height m p + 1) in
      let adds = block_adds m ws refl h.safe.formed in
      let mv = adds_moves m (append_block m ws) adds in
      let more = block-count m ws refl (omega arith) in
      record {
        reached =
            record {
              safe = adds_safe m (append_block m ws) adds (block_keeps m p h.safe.formed (omega tests) (omega tests)) h.safe;
              faults = adds.faults ∙ h.faults;
              told =
                  record {
                    parents =
                        λ b l.
                        by-test (eqb b (block_count m))
                        (λ e. let q : b ≡ block_count m = omega tests in rw e (rw q (block_new m ws refl parent_at (omega arith) (omega tests))))
                        (λ e. rw e (block_old m ws refl b parent_at (omega tests) (omega arith) ∙ h.told.parents b (omega tests)));
                    views = λ i l. ap (λ (r : Replica). r.decided_view) (adds.replica i) ∙ h.told.views i l;
                    blocks = λ i l. ap (λ (r : Replica). r.decided_block) (adds.replica i) ∙ h.told.blocks i l;
                  };
              strangers = h.strangers;
              decisions = λ i b v w. chosen_after m _ mv (h.decisions i b v (older (λ e. let z : ◌≡◌ {A = ℕ} 0 1 = cc in omega arith) w));
              panels = (
                λ i.
                    let same =
                    height_same (given_parent past) (λ x. cond (eqb x (block_count m)) p (given_parent past x)) (block_count m) given_falls
                    (λ x l. let e : eqb x (block_count m) ≡ false = omega tests in rw e refl) _ (highest_known i) in
                    omega arith,
                h.panels,
              );
            };
        extends = mv.extends;
      }

  -- ---- a decision

  pub chosen_known : {v b : ℕ} → Chosen m v b → b < block_count m
  unfolding certificate_formed
  chosen_known x =
      let p = (chosen_proposal m h.safe x).proposed in
      let t = each _ (h.safe.formed.log p.number p.issued) in
      let e = p.holds.block in
      omega tests

  -- The panel of a replica that decides does not fall.
  panel_rises : (i b v : ℕ) (d : Decision) → i < replica_count f → highest past i ≡ d → Chosen m v b
      → height_by (given_parent past) (decision_block d) ≤ height_by (given_parent past) (decision_block (higher d b v))
  unfolding higher steps_to_root
  panel_rises i b v none own e x = omega arith
  panel_rises i b v (c in_view w) own e x =
      let given = given_parent past in
      by_cond (λ (z : Decision). height_by given c ≤ height_by given (decision_block z)) (ltb w v)
      (λ t.
      let faults = h.faults in
      let view : (replica m i).decided_view ≡ w = h.told.views i own ∙ ap decision_view e in
      let blk : (replica m i).decided_block ≡ c = h.told.blocks i own ∙ ap decision_block e in
      ⊎_elim (λ z. let root = z.1 in let q : c ≡ 0 = omega arith in rw q (omega arith))
      (λ y.
      ancestor_height given (block_count m) given_falls (chosen_known x)
      (ancestor_same (parent m) given (block_count m) (falls m h.safe.formed) h.told.parents (chosen_known x)
      (chosen_ancestor m h.safe (rw (view, blk) at y) x (omega tests))))
      (h.safe.rows i (omega arith)).decided)
      (λ t. omega arith)

  pub decides : (i : ℕ) (list : List ℕ) → Holds (decide m i list).needs
      → Follows f (decided i (decide m i list).first (decide m i list).second ∷ past) m (decide m i list).after
  unfolding decide given_parent highest panel
  decides i list needs =
      let faults = h.faults in
      let own : i < replica_count f = omega tests in
      let u = decide_safe m i list needs h.safe in
      let count = u.acts.blocks in
      let c = first_of (certificates_of m list) in
      let x = chosen m i list needs h.safe in
      let positive = (chosen_proposal m h.safe x).positive in
      let rows :
      (j : ℕ) → j < replica_count f → HoldsHighest (replica (decide m i list).after j) (highest (decided i c.block c.view ∷ past) j) =
      λ j l.
      by-test (eqb j i)
      (λ e.
      let q : j ≡ i = omega tests in
      let mine = words_told (replica m i) c.block c.view (highest past i) positive (holds_highest i own) in
      rw e (rw q (subst (λ (r : Replica). HoldsHighest r (higher (highest past i) c.block c.view)) (sym u.acts.own) mine)))
      (λ e.
      rw e (subst (λ (r : Replica). HoldsHighest r (highest past j)) (sym (u.acts.others j (omega tests))) (holds_highest j l))) in
      record {
        reached =
            record {
              safe = u.safe;
              faults = u.moves.faults ∙ faults;
              told =
                  record {
                    parents = λ y l. same_parent m (decide m i list).after u.acts.parents y ∙ h.told.parents y (omega arith);
                    views = λ j l. (rows j l).view;
                    blocks = λ j l. (rows j l).block;
                  };
              strangers = λ j l. let e : eqb j i ≡ false = omega tests in rw e (h.strangers j l);
              decisions =
                  λ j y w at.
                  ⊎_elim
                  (λ e.
                  let q : y ≡ c.block = cc in
                  let q' : w ≡ c.view = cc in
                  rw (q, q') (chosen_after m _ u.moves x))
                  (λ past. chosen_after m _ u.moves (h.decisions j y w past))
                  (Memᴰ.cases_cons at);
              panels = (
                λ j.
                    by-test (eqb j i)
                    (λ e. let q : j ≡ i = omega tests in rw e (rw q (panel_rises i c.block c.view (highest past i) own refl x)))
                    (λ e. rw e (omega arith)),
                h.panels,
              );
            };
        extends = u.moves.extends;
      }
