-- A text put into a buffer where the longest text has room.
-- Assumes nothing: these are definitions.
use Rattle.std.specs.Prelude.{Bool, List, ◌≡◌, ℕ, ◌+◌, leb, length, if◌then◌else◌}
use Rattle.answer.specs.Put.{placed}

abbrev pub has_room : List ℕ → ℕ → Bool
has_room buffer at = leb (at + 320) (length buffer)

-- the text was put, and the next one comes after it; or the buffer is as it was
pub record PutsWithRoom (buffer : List ℕ) (at : ℕ) (text : List ℕ) (later : List ℕ) (next : ℕ) : Type 0 where
  pub whole : later ≡ (if has_room buffer at then placed buffer at text else buffer)
  pub after_it : next ≡ (if has_room buffer at then at + length text else at)
