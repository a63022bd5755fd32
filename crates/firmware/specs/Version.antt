-- The number of the C interface: YARD_VERSION of include/yard.h. It goes up when a function, a number or a word's place changes there.
use Rattle.std.specs.Prelude.{ℕ}

abbrev pub version : ℕ
version = 2
