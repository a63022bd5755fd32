-- What is claimed of eight-column numbers: each field is a statement of this crate; proofs/Claims.antt holds the proof of each.
use Rattle.field.specs.Theorems.{CountIsLeast, WrittenReadsBack, ReadWritesBack, ReadIsBounded}

pub record Claims : Type 0 where
  -- a number's digit count is the least from 1 up whose power of ten is above it
  pub count_is_least : CountIsLeast
  -- what was written is what is read
  pub written_reads_back : WrittenReadsBack
  -- what was read writes the same bytes
  pub read_writes_back : ReadWritesBack
  -- a number up to 99,999,999, or 4,294,967,295
  pub read_is_bounded : ReadIsBounded
