-- A whole run over a reader and a writer whose bytes are known.
-- Assumes nothing: these are definitions.
use Rattle.std.specs.Prelude.{List, ℕ, Option}
use Rattle.std.specs.Io.KnownBytes.{Consumes, Appends}
use Rattle.model.specs.Run.{run}

-- some input was taken from the reader, and what was written is the model's run of it, with DONE
pub record Through (had left held holds : Option (List ℕ)) : Type 0 where
  pub input : List ℕ
  pub taken : Consumes had left input
  pub answered : Appends held holds (run input)
