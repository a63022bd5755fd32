-- What a netting answers, once its first needs hold.
use Prim.Native.Nat.{ℕ}
use mathlib.Core.Path.{◌≡◌, sym, ap, ◌∙◌}
use mathlib.Core.Bool.{Bool, true, false, or-false}
use mathlib.Core.List.{List, []}
use native.Mathlib.Omega.{arith}
use lib.Dec.{ltb}
use lib.ListN.{get_or, replicate, get_or-replicate, length-replicate, get_or-eq_default}
use lib.IntN.{ℤ, pos}
use Rattle.std.specs.Prelude.{Result, Ok, IsErr, IsErrAnd}
use Rattle.protocol.specs.declared.Refusal.{Refusal}
use Rattle.protocol.specs.declared.Refusal.TheVariants.{WrongMovement}
use mir.Syntax.{w32}
use mir.Val.{of_z, to_z}
use mir.Facts.{to_z-of_z}
use Rattle.protocol.specs.Memory.{max_fault_bound, replica_count, max_blocks}
use Rattle.protocol.specs.Outcome.{first_refusal, RuleOf, wrong_movement}
use Rattle.movements.specs.Movements.{movement, movement_count}
use Rattle.movements.proofs.Allowed.{is-allowed, list_short}
use Rattle.movements.specs.declared.Movement.{Movement}
use Rattle.protocol.proofs.logic.Booleans.{tests, by-test, at_below}
use Rattle.protocol.proofs.calls.Needs.{refuses, accepts, fails, holds}
use Rattle.checks.proofs.Passing.{handed_up}
use Rattle.blocks.specs.inner.Records.{parent_in}
use Rattle.ancestry.specs.inner.AncestryFits.{AncestorsMarked}
use Rattle.netting.specs.Netting.{counts_by, balance_after, balance_by, balance_told}
use Rattle.netting.specs.inner.Tallies.{marked, Talliable, Tallied, Nettable, balance_rule, balance_answer}
use Rattle.netting.proofs.Nettings.{balance_same, balance_small}
use Rattle.netting.proofs.Moving.{small_fits}

-- A list of one value has it everywhere.
all_same : {A : Type 0} (n i : ℕ) (x : A) → get_or (replicate n x) i x ≡ x
all_same n i x =
    by-test (ltb i n) (λ e. get_or-replicate n i x x (omega tests))
    (λ e. get_or-eq_default (replicate n x) x (rw (length-replicate n x) (omega tests)))

module _ (blocks movements : List ℕ) (b i replicas added : ℕ) (h : Nettable blocks movements b i replicas added)
    (marks : List Bool) (walked : AncestorsMarked blocks b (replicate max_blocks false) marks) where
  -- The marked blocks are those of the line.
  counts_marked : (x : Movement) → marked marks x ≡ counts_by (parent_in blocks) b x
  counts_marked x = walked.marks x.block ∙ rw (all_same max_blocks x.block false) (or-false _)

  pub talliable : Talliable movements marks replicas added (replicate (replica_count max_fault_bound) (pos 0))
  talliable =
      record {
        list = h.list;
        blocks = omega (arith, walked.size, h.blocks_few);
        firms = h.firms_few;
        zeros = λ j. all_same (replica_count max_fault_bound) j (pos 0);
      }

  module _ (allowed : Bool) (xs : List ℤ) (t : Tallied movements marks replicas added allowed xs) where
    abbrev rule : RuleOf (pos 0) (Unit {0})
    rule = balance_rule blocks movements b i replicas added

    pub breaks : allowed ≡ false → (r : Result ℤ Refusal) (e : Refusal) → e ≡ WrongMovement → IsErr r × IsErrAnd r (λ d. d ≡ e)
        → balance_told r ≡ balance_answer blocks movements b i replicas added
    unfolding balance_rule
    breaks failed r e is up =
        rw (handed_up r e up, is)
        (ap (λ o. o.answer) (refuses tt rule wrong_movement (sym (fails [] (sym t.tested ∙ failed))) (λ z. omega arith)))

    -- A balance reads back from its bits.
    reads_back : allowed ≡ true → to_z w32 (of_z w32 (get_or xs i (pos 0))) ≡ balance_by (parent_in blocks) movements b i
    reads_back e =
        let each = at_below (movement_count movements) _ (sym t.tested ∙ e) in
        let small = balance_small (marked marks) movements (movement_count movements) i
        (λ k l. (is-allowed replicas added (movement movements k) (each k l)).few) (list_short movements h.list) in
        rw (t.firms e i h.firm)
        (to_z-of_z (small_fits (balance_after (marked marks) movements (movement_count movements) i) (omega arith))
        ∙ balance_same (marked marks) (counts_by (parent_in blocks) b) counts_marked movements (movement_count movements) i)

    pub nets_all : allowed ≡ true
        → balance_told (Ok (to_z w32 (of_z w32 (get_or xs i (pos 0))))) ≡ balance_answer blocks movements b i replicas added
    unfolding balance_rule first_refusal
    nets_all e =
        rw (reads_back e) (ap (λ o. o.answer) (accepts tt rule (sym (holds wrong_movement [] (sym t.tested ∙ e)))))
