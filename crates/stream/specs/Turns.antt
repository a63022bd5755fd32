-- What reads make of a stream, one after the other, and the texts that are written between them.
use Rattle.std.specs.Prelude.{ℕ, ◌≡◌, List, [], ◌∷◌, ◌++◌}
use Rattle.stream.specs.Stream.{Stream, fed, finished, emptied}

-- What a read makes of a stream: the bytes that came are fed; where none came, at the end of the input, a last line is answered.
unfoldable pub taken : Stream → List ℕ → Stream
taken s [] = finished s
taken s (byte ∷ bytes) = fed s (byte ∷ bytes)

-- The stream after these reads, the newest first: what each makes of it, with the text written before the next.
unfoldable pub after : Stream → List (List ℕ) → Stream
after s [] = emptied s
after s (bytes ∷ earlier) = emptied (taken (after s earlier) bytes)

-- The program goes from one stream to another by some reads. Where a write failed, the last one's text is still there.
pub record Ran (s o : Stream) : Type 0 where
  pub reads : List (List ℕ)
  pub same : emptied o ≡ after s reads

-- The texts of reads, the newest first, one after the other.
unfoldable pub texts : Stream → List (List ℕ) → List ℕ
texts s [] = []
texts s (bytes ∷ earlier) = texts s earlier ++ (taken (after s earlier) bytes).text

-- The bytes of reads, the newest first, one after the other.
unfoldable pub bytes_of : List (List ℕ) → List ℕ
bytes_of [] = []
bytes_of (bytes ∷ earlier) = bytes_of earlier ++ bytes

-- Bytes came in each.
abbrev pub AllCame : List (List ℕ) → Type 0
AllCame [] = Unit {0}
AllCame ([] ∷ earlier) = ⊥
AllCame ((byte ∷ bytes) ∷ earlier) = AllCame earlier
