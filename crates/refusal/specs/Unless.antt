-- What questions come to.
-- Assumes nothing: these are definitions.
use Rattle.std.specs.Prelude.{Option, Some, None, Result, ℕ}
use Rattle.std.specs.Prelude.{Ok, Err}
use Rattle.refusal.specs.Number.{refusal_of}
use Rattle.refusal.specs.declared.Refusal.{Refusal}

-- a value, unless a question is answered no; then the refusal of the first that is
abbrev pub unless : {A : Type 0} → Option ℕ → A → Result A Refusal
unless None value = Ok value
unless (Some question) value = Err (refusal_of question)
