-- A text put into a lent buffer.
-- Assumes nothing: these are definitions.
use Rattle.std.specs.Prelude.{List, [], ◌∷◌, ◌++◌, ◌≡◌, ℕ, ◌+◌, length, take, drop}
use Rattle.model.specs.Number.{decimal}

-- the buffer with a text from place `at` on
unfoldable pub placed : List ℕ → ℕ → List ℕ → List ℕ
placed buffer at text = take at buffer ++ (text ++ drop (at + length text) buffer)

-- the text was put, and the next one comes after it
pub record Puts (buffer : List ℕ) (at : ℕ) (text : List ℕ) (later : List ℕ) (next : ℕ) : Type 0 where
  pub whole : later ≡ placed buffer at text
  pub after_it : next ≡ at + length text

-- a tab and a number, for each of a list
unfoldable pub tabbed : List ℕ → List ℕ
tabbed [] = []
tabbed (n ∷ list) = 9 ∷ (decimal n ++ tabbed list)
