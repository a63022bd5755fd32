-- The digits left and the columns written are the number's digits, and before these there are blanks.
use Prim.Native.Nat.{◌-◌, ◌≤◌}
use mathlib.Core.Path.{◌≡◌}
use mathlib.Core.List.{◌++◌}
use lib.ListN.{length, take, drop, replicate}
use Rattle.field.specs.Digits.{digits, digit_count}
use Rattle.field.specs.Field.{columns, blank}
use Rattle.field.proofs.write_columns.Given as goal

abbrev pub invariant-loop-at : goal.invariant-loop-at
invariant-loop-at l = (l.at-start ≤ l.at) × (length l.bytes ≡ columns) × (digits (l.at - l.at-start) l.rest ++ drop l.at l.bytes ≡ digits (digit_count l.number) l.number)
    × (take l.at l.bytes ≡ replicate l.at blank)
