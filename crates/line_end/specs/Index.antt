-- Where a byte stands.
-- Assumes nothing: these are definitions.
use Rattle.std.specs.Prelude.{ℕ, suc, List, [], ◌∷◌, eqb, if◌then◌else◌}

-- the place of the first byte that is `byte`, or the number of bytes where none is
unfoldable pub index_of : ℕ → List ℕ → ℕ
index_of byte [] = 0
index_of byte (b ∷ bytes) = if eqb b byte then 0 else suc (index_of byte bytes)
