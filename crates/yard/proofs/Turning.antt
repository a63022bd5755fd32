-- One turn more.
use Rattle.std.proofs.Common.{ℕ, ◌≡◌, refl, ap, ◌∙◌, List, [], ◌∷◌, Option, None, Some, true}
use Rattle.std.specs.Option.{is_some}
use Rattle.stream.specs.Stream.{Stream, emptied}
use Rattle.stream.specs.Turns.{taken, after, Ran}
use Rattle.yard.specs.declared.Machine.{Machine}
use Rattle.yard.specs.inner.Writing.{stream_in, InPlace, Flushed, cleared, Written}

pub begins : (s : Stream) → Ran s s
unfolding after
begins s = record { reads = []; same = refl }

-- What is read is taken.
pub turned : {s o : Stream} (m : Machine) (bytes : List ℕ) → Flushed m.progress → Ran s (stream_in m)
    → o ≡ taken (stream_in m) bytes → Ran s o
unfolding after
turned m bytes f ran e =
    let clear : stream_in m ≡ emptied (stream_in m) = rw f.pending refl in
    record { reads = bytes ∷ ran.reads; same = ap emptied e ∙ ap (λ (x : Stream). emptied (taken x bytes)) (clear ∙ ran.same) }

-- What is pending is written, or stays.
pub goes_on : {s : Stream} (m n : Machine) → Ran s (stream_in m) → InPlace m.progress → n ≡ record m { progress = cleared m.progress }
    → Flushed n.progress × Ran s (stream_in n)
goes_on m n ran fits e = rw e (record { held = fits.held; pending = refl }, record { reads = ran.reads; same = ran.same })

pub stands : {s : Stream} (m n : Machine) (r : Option (Unit {0})) → Ran s (stream_in m) → InPlace m.progress → Written m r n
    → Ran s (stream_in n)
stands m n (Some done) ran fits w = (goes_on m n ran fits w).1
stands m n None ran fits w = rw w ran

pub flushes : {s : Stream} (m n : Machine) (r : Option (Unit {0})) → Ran s (stream_in m) → InPlace m.progress → Written m r n
    → is_some r ≡ true → Flushed n.progress × Ran s (stream_in n)
flushes m n (Some done) ran fits w some = goes_on m n ran fits w
flushes m n None ran fits w some = absurd (cc)
