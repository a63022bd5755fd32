-- What was held, and the bytes that there are places for.
use Rattle.std.proofs.Common.{◌≡◌, ◌∙◌, ◌+◌, ◌-◌, length, take, min, arith}
use Rattle.std.proofs.lemmas.Slice.{take-put_mid}
use lib.Seq.{length-take-le}
use Rattle.stream.specs.Stream.{held_places}
use Rattle.stream.proofs.Holding.{take_behind}
use Rattle.stream.proofs.hold.Goals as goal

pub returns : goal.returns
returns c =
    let a = c.args in
    let long = length-take-le a.held a.line.now (omega arith) in
    let new = c.copy_from_slice.new.self in
    let count : length new ≡ c.min-count.result = rw c.copy_from_slice.ensures.after (length-take-le c.min-count.result a.bytes.now (omega arith)) in
    let room : c.min-count.result ≡ min (held_places - length (take a.held a.line.now)) (length a.bytes.now) = rw long c.min-count.ensures in
    record {
      fits = omega arith;
      bytes =
          take-put_mid a.held (a.held + c.min-count.result - a.held) a.line.now new (a.held + c.min-count.result) (omega arith) (omega arith)
          ∙ rw c.copy_from_slice.ensures.after (take_behind held_places (take a.held a.line.now) a.bytes.now (omega arith) room);
    }
