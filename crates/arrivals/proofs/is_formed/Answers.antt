use mathlib.Core.Path.{◌≡◌, refl, sym, ◌∙◌}
use mathlib.Core.Bool.{true, false}
use mathlib.Core.List.{[]}
use lib.Dec.{leb, eqb}
use lib.ListN.{length}
use Rattle.protocol.specs.Form.{all_hold}
use Rattle.protocol.proofs.logic.Booleans.{tests}
use Rattle.protocol.proofs.logic.Joined.{joined_all}
use Rattle.entries.specs.Entries.{waiting_words, waiting_count, max_waiting, waiting_formed}
use Rattle.arrivals.proofs.is_formed.Goals as goal
use Rattle.arrivals.proofs.is_formed.Goals.{then-waiting-eq-WAITING_WORDS, else-waiting-eq-WAITING_WORDS}

pub returns-then-waiting-le-MAX_WAITING : goal.returns-then-waiting-le-MAX_WAITING
unfolding waiting_formed all_hold
returns-then-waiting-le-MAX_WAITING c =
    let l = c.args.waiting.now in
    elim c.if-waiting-eq-WAITING_WORDS.branch [
      | then-waiting-eq-WAITING_WORDS w ↦
          let e : eqb (length l) waiting_words ≡ true = omega (tests, w.if-waiting-eq-WAITING_WORDS.true) in
          let f : leb (waiting_count l) max_waiting ≡ true = sym w.value-is ∙ c.if-waiting-le-MAX_WAITING.true in
          c.entries_formed.ensures ∙ rw (e, f) (joined_all _ [])
      | else-waiting-eq-WAITING_WORDS w ↦
          let e : eqb (length l) waiting_words ≡ false = omega (tests, w.if-waiting-eq-WAITING_WORDS.false) in
          let z : true ≡ false = sym c.if-waiting-le-MAX_WAITING.true ∙ w.value-is ∙ e in
          cc
    ]

pub returns-else-waiting-le-MAX_WAITING : goal.returns-else-waiting-le-MAX_WAITING
unfolding waiting_formed all_hold
returns-else-waiting-le-MAX_WAITING c =
    let l = c.args.waiting.now in
    elim c.if-waiting-eq-WAITING_WORDS.branch [
      | then-waiting-eq-WAITING_WORDS w ↦
          let e : eqb (length l) waiting_words ≡ true = omega (tests, w.if-waiting-eq-WAITING_WORDS.true) in
          let f : leb (waiting_count l) max_waiting ≡ false = sym w.value-is ∙ c.if-waiting-le-MAX_WAITING.false in
          c.if-waiting-le-MAX_WAITING.false ∙ rw (e, f) refl
      | else-waiting-eq-WAITING_WORDS w ↦
          let e : eqb (length l) waiting_words ≡ false = omega (tests, w.if-waiting-eq-WAITING_WORDS.false) in
          c.if-waiting-le-MAX_WAITING.false ∙ rw e refl
    ]
