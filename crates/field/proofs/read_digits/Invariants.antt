-- What the digits so far make, and the columns left, make what the whole makes; after i columns it is below 10 ^ i.
use Rattle.std.proofs.Common.{◌<◌, ◌^◌, ◌≡◌, drop}
use Rattle.field.specs.Field.{continued, unpadded}
use Rattle.field.proofs.read_digits.Given as goal

abbrev pub invariant-loop-byte : goal.invariant-loop-byte
invariant-loop-byte l = (l.number < 10 ^ l.byte-index) × (continued l.number (drop l.byte-index l.digits) ≡ unpadded l.digits)
