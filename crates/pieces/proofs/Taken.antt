-- How many bytes of a piece are taken: no more than there are, and at least one where there is one and a text has room.
-- Assumes nothing.
use mathlib.Core.List.{List, [], ◌∷◌}
use mathlib.Core.Path.{◌≡◌, refl}
use mathlib.Core.Bool.{Bool, true, false}
use Prim.Native.Nat.{ℕ, ◌+◌, ◌≤◌, ◌<◌}
use native.Mathlib.Omega.{arith}
use lib.Dec.{leb}
use lib.ListN.{length}
use Rattle.pieces.specs.declared.feed.Run.{Run}
use Rattle.pieces.specs.declared.feed.Fed.{Fed}
use Rattle.pieces.specs.Progress.{Progress, taking, taken_of}
use Rattle.pieces.specs.Feed.{progress_of, Feeds}
use Rattle.pieces.proofs.LineFound.{takes_one}

few_by : (size : ℕ) (s : Progress) (b : ℕ) (rest : List ℕ) → taken_of size (taking s b) rest ≤ length rest → (t : Bool) → leb (length s.written + 320) size ≡ t → taken_of size s (b ∷ rest) ≤ length (b ∷ rest)
unfolding taken_of
few_by size s b rest le true e = rw e (omega arith)
few_by size s b rest le false e = rw e (omega arith)

few : (size : ℕ) (bytes : List ℕ) (s : Progress) → taken_of size s bytes ≤ length bytes
unfolding taken_of
few size [] s = omega arith
few size (b ∷ rest) s = few_by size s b rest (few size rest (taking s b)) (leb (length s.written + 320) size) refl

some : (size : ℕ) (bytes : List ℕ) (s : Progress) → length s.written + 320 ≤ size → 0 < length bytes → 0 < taken_of size s bytes
some size [] s room lt = absurd (omega arith)
some size (b ∷ rest) s room lt = rw (takes_one size s b rest room) (omega arith)

module _ (run : Run) (store piece out : List ℕ) (r : Fed) (later_store later_out : List ℕ) (f : Feeds run store piece out r later_store later_out) where
  pub taken_few : r.taken ≤ length piece
  taken_few = rw f.taken (few (length out) piece (progress_of run store))

  pub taken_some : 320 ≤ length out → 0 < length piece → 0 < r.taken
  taken_some room lt = rw f.taken (some (length out) piece (progress_of run store) (omega arith) lt)
