-- What is fed is what came; where nothing came, the input has ended.
use Rattle.std.proofs.Common.{ℕ, zero, suc, ◌≤◌, ◌≡◌, refl, List, [], ◌∷◌, length, take, min, arith}
use Rattle.std.proofs.lemmas.List.{take_min}
use Rattle.stream.specs.Stream.{Stream, fed, finished}
use Rattle.stream.specs.Turns.{taken}
use Rattle.yard.specs.inner.Writing.{stream_in}
use Rattle.yard.proofs.Machine.take_read.Goals as goal

some : (s : Stream) (n : ℕ) (chunk : List ℕ) → (n ≡ 0 → ⊥) → n ≤ length chunk → fed s (take n chunk) ≡ taken s (take n chunk)
unfolding taken
some s zero chunk h l = absurd (h refl)
some s (suc n) [] h l = absurd (omega arith)
some s (suc n) (byte ∷ bytes) h l = refl

-- The count of bytes is n: no more than there are in the chunk.
module _ (s : Stream) (got : ℕ) (chunk : List ℕ) {o : Stream} {n : ℕ} (m : n ≡ min got (length chunk)) where
  ended : n ≡ 0 → o ≡ finished s → o ≡ taken s (take got chunk)
  unfolding taken
  ended e u = rw (← take_min got chunk, ← m, e) u

  all_fed : (n ≡ 0 → ⊥) → o ≡ fed s (take n chunk) → o ≡ taken s (take got chunk)
  all_fed h u = let t = some s n chunk h (omega arith) in rw (← take_min got chunk, ← m, ← t) u

pub returns-then-n-eq0-clause-text_after : goal.returns-then-n-eq0-clause-text_after
returns-then-n-eq0-clause-text_after c =
    ended (stream_in c.args.self.now) c.args.got c.args.self.now.chunk (omega arith) c.if-n-eq0.true c.finish.ensures.text_after

pub returns-else-n-eq0-clause-text_after : goal.returns-else-n-eq0-clause-text_after
returns-else-n-eq0-clause-text_after c =
    all_fed (stream_in c.args.self.now) c.args.got c.args.self.now.chunk (omega arith) c.if-n-eq0.false c.feed.ensures.text_after
