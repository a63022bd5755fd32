-- The proof of each claim.
use Rattle.field.specs.Claims.{Claims}
use Rattle.field.proofs.Counts.{count-is-least}
use Rattle.field.proofs.Theorems.{written-reads-back, read-writes-back, read-is-bounded}

pub claimed : Claims
claimed =
    record {
      count_is_least = count-is-least;
      written_reads_back = written-reads-back;
      read_writes_back = read-writes-back;
      read_is_bounded = read-is-bounded;
    }
