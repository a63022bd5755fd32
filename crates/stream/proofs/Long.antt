-- A line that is too long to be read gets the same answer as its beginning that is held.
use Prim.Native.Nat.{ℕ, ◌*◌, ◌<◌}
use mathlib.Core.Path.{◌≡◌}
use mathlib.Core.Bool.{false}
use mathlib.Core.List.{List}
use lib.Dec.{leb}
use lib.ListN.{length, take, length-take}
use lib.Seq.{take_all}
use Rattle.field.specs.Field.{columns}
use Rattle.protocol.proofs.logic.Booleans.{tests, by-test, each}
use Rattle.script.specs.Lines.{max_fields, has_numbers}
use Rattle.script.specs.Session.{Session, answer_line}
use Rattle.stream.specs.Stream.{held_places}

unreadable : (line : List ℕ) → columns * max_fields < length line → has_numbers line ≡ false
unfolding has_numbers
unreadable line h = by-test (has_numbers line) (λ e. let t = each _ e in absurd (omega tests)) (λ e. e)

same_refusal : (s : Session) (l k : List ℕ) → has_numbers l ≡ false → has_numbers k ≡ false → answer_line s l ≡ answer_line s k
unfolding answer_line
same_refusal s l k p q = rw (p, q)

pub held_answer : (s : Session) (line : List ℕ) → answer_line s (take held_places line) ≡ answer_line s line
held_answer s line =
    by-test (leb (length line) held_places) (λ t. rw (take_all held_places line (omega tests)))
    (λ t.
    same_refusal s (take held_places line) line (unreadable _ (simp length-take (omega tests))) (unreadable line (omega tests)))
