-- A column, by what is answered of its places.
-- Assumes nothing: these are definitions.
use Rattle.std.specs.Prelude.{List, ◌≡◌, ℕ, ◌+◌, ◌*◌, ◌<◌, length, slice_index_or}

-- n values, each answered of a place, the first of the given one and each later of one a step after
pub record ColumnOf {A : Type 0} (answers : ℕ → A → Type 0) (place step n : ℕ) (items : List A) : Type 0 where
  pub count : length items ≡ n
  pub each : (i : ℕ) (default : A) → i < n → answers (place + i * step) (slice_index_or items i default)
