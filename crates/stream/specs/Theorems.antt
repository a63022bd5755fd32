-- What holds of the program's output. Proved in proofs/.
use Rattle.std.specs.Prelude.{◌≡◌, List, [], ◌∷◌, ◌++◌, ℕ}
use Rattle.stream.specs.Output.{output}
use Rattle.stream.specs.Stream.{new_stream, written}
use Rattle.stream.specs.Turns.{texts, bytes_of, AllCame}

-- The bytes of chunks one after the other.
unfoldable pub joined : List (List ℕ) → List ℕ
joined [] = []
joined (chunk ∷ chunks) = chunk ++ joined chunks

-- What is written is the output for the bytes, in whatever chunks they come.
unfoldable pub ChunksDoNotMatter : Type 0
ChunksDoNotMatter = (chunks : List (List ℕ)) → written new_stream chunks ≡ output (joined chunks)

-- The texts of the program's turns, from its start to the end of the input, are the output for the bytes that came.
unfoldable pub TurnsGiveOutput : Type 0
TurnsGiveOutput = (reads : List (List ℕ)) → AllCame reads → texts new_stream ([] ∷ reads) ≡ output (bytes_of reads)
