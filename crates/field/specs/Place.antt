-- Where a field stands in its line.
-- Assumes nothing: these are definitions.
use Rattle.std.specs.Prelude.{◌≡◌, List, ℕ, ◌≤◌, ◌<◌, length, drop, Option, None, Some}
use Rattle.model.specs.Field.{fields}

-- the fields of the line from byte `at` on are fs
pub record At (line : List ℕ) (fs : List (List ℕ)) (at : ℕ) : Type 0 where
  pub inside : at ≤ length line
  pub there : fields (drop at line) ≡ fs

-- "Each field is a part of the line, read from where the last one ended": where the field at place k begins, if there is one
abbrev pub Starts : List ℕ → ℕ → Option ℕ → Type 0
Starts line k (Some at) = (k < length (fields line)) × At line (drop k (fields line)) at
Starts line k None = length (fields line) ≤ k
