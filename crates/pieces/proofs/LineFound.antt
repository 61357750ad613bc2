-- A line in a piece, up to its byte 10 or to the end of the piece: what taking its bytes one after the other comes to.
-- Assumes nothing.
use mathlib.Core.List.{List, [], ◌∷◌, ◌++◌, append_assoc, append-nil}
use mathlib.Core.Path.{◌≡◌, refl, ap, ◌∙◌}
use mathlib.Core.Bool.{Bool, true, false}
use Prim.Native.Nat.{ℕ, suc, ◌+◌, ◌≤◌, ◌<◌}
use native.Mathlib.Omega.{arith}
use borrow.Author.Tests.{le-leb, eqb-true}
use lib.Dec.{eqb}
use lib.ListN.{length, take, drop, length-take}
use lib.Seq.{take_all}
use Rattle.line_end.specs.Index.{index_of}
use Rattle.pieces.specs.Progress.{Progress, lengthened, taking, taking_all, taken_of, kept_bytes}
use Rattle.pieces.proofs.Cut.{take_join}

-- nothing more
lengthened_none : (s : Progress) → length s.line ≤ kept_bytes → s ≡ lengthened s []
unfolding lengthened
lengthened_none s short = rw (append-nil s.line, take_all kept_bytes s.line short)

lengthened_twice : (s : Progress) (b : ℕ) (bytes : List ℕ) → lengthened (lengthened s (b ∷ [])) bytes ≡ lengthened s (b ∷ bytes)
unfolding lengthened
lengthened_twice s b bytes = rw (take_join kept_bytes (s.line ++ (b ∷ [])) bytes, append_assoc s.line (b ∷ []) bytes)

goes_on : (s : Progress) (b : ℕ) → eqb b 10 ≡ false → taking s b ≡ lengthened s (b ∷ [])
unfolding taking
goes_on s b e = rw e

-- the bytes before the first byte 10 make the line longer
abbrev Longer : List ℕ → Type 0
Longer rest = (s : Progress) → length s.line ≤ kept_bytes → taking_all s (take (index_of 10 rest) rest) ≡ lengthened s (take (index_of 10 rest) rest)

still_short : (s : Progress) (bytes : List ℕ) → length (lengthened s bytes).line ≤ kept_bytes
unfolding lengthened
still_short s bytes = rw (length-take kept_bytes (s.line ++ bytes)) (omega arith)

longer_by : (b : ℕ) (rest : List ℕ) → Longer rest → (t : Bool) → eqb b 10 ≡ t → Longer (b ∷ rest)
unfolding taking_all index_of
longer_by b rest more true e s short = rw e (lengthened_none s short)
longer_by b rest more false e s short =
    let bytes = take (index_of 10 rest) rest in
    rw e (ap (λ (p : Progress). taking_all p bytes) (goes_on s b e) ∙ more (lengthened s (b ∷ [])) (still_short s (b ∷ [])) ∙ lengthened_twice s b bytes)

pub line_taken : (rest : List ℕ) → Longer rest
unfolding taking_all index_of
line_taken [] s short = lengthened_none s short
line_taken (b ∷ rest) s short = longer_by b rest (line_taken rest) (eqb b 10) refl s short

-- where there is room before a line, all of it is taken
pub takes_one : (size : ℕ) (s : Progress) (b : ℕ) (rest : List ℕ) → length s.written + 320 ≤ size → taken_of size s (b ∷ rest) ≡ suc (taken_of size (taking s b) rest)
unfolding taken_of
takes_one size s b rest room = rw (le-leb (length s.written + 320) size room)

pub same_room : (size : ℕ) (s : Progress) (bytes : List ℕ) → length s.written + 320 ≤ size → length (lengthened s bytes).written + 320 ≤ size
unfolding lengthened
same_room size s bytes room = room

abbrev HasRoom : ℕ → Progress → Type 0
HasRoom size s = length s.written + 320 ≤ size

abbrev Counts : ℕ → List ℕ → Type 0
Counts size rest =
    (s : Progress) → length s.line ≤ kept_bytes → HasRoom size s
    → taken_of size s rest ≡ index_of 10 rest + taken_of size (lengthened s (take (index_of 10 rest) rest)) (drop (index_of 10 rest) rest)

counts_by : (size b : ℕ) (rest : List ℕ) → Counts size rest → (t : Bool) → eqb b 10 ≡ t → Counts size (b ∷ rest)
unfolding index_of
counts_by size b rest more true e s short room = rw (e, ← (lengthened_none s short)) (omega arith)
counts_by size b rest more false e s short room =
    let next : taking s b ≡ lengthened s (b ∷ []) = goes_on s b e in
    let here : taken_of size s (b ∷ rest) ≡ suc (taken_of size (taking s b) rest) = takes_one size s b rest room in
    let later : HasRoom size (lengthened s (b ∷ [])) = same_room size s (b ∷ []) room in
    let after = more (lengthened s (b ∷ [])) (still_short s (b ∷ [])) later in
    rw (e, here, next, after, lengthened_twice s b (take (index_of 10 rest) rest)) (omega arith)

pub line_counted : (size : ℕ) (rest : List ℕ) → Counts size rest
unfolding index_of taken_of
line_counted size [] s short room = refl
line_counted size (b ∷ rest) s short room = counts_by size b rest (line_counted size rest) (eqb b 10) refl s short room

-- the byte 10 that was found
found_by : (b : ℕ) (rest : List ℕ) → (index_of 10 rest < length rest → drop (index_of 10 rest) rest ≡ 10 ∷ drop (suc (index_of 10 rest)) rest) → (t : Bool) → eqb b 10 ≡ t
    → index_of 10 (b ∷ rest) < length (b ∷ rest) → drop (index_of 10 (b ∷ rest)) (b ∷ rest) ≡ 10 ∷ drop (suc (index_of 10 (b ∷ rest))) (b ∷ rest)
unfolding index_of
found_by b rest more true e lt = rw (e, eqb-true b 10 e)
found_by b rest more false e lt =
    let index : index_of 10 (b ∷ rest) ≡ suc (index_of 10 rest) = rw e in
    rw e (more (omega (arith, index)))

pub found : (rest : List ℕ) → index_of 10 rest < length rest → drop (index_of 10 rest) rest ≡ 10 ∷ drop (suc (index_of 10 rest)) rest
unfolding index_of
found [] lt = absurd (omega arith)
found (b ∷ rest) lt = found_by b rest (found rest) (eqb b 10) refl lt
