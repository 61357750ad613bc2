-- The code's words as the model's.
-- Assumes nothing: these are definitions.
use Rattle.std.specs.Prelude.{Option, None, Some}
use Rattle.model.specs.Record as model
use Rattle.form.specs.declared.word.Word.{Word}
use Rattle.form.specs.declared.word.Word.TheVariants.{Line, Rate, Patt, Year, Sum, Midt}

-- one of the six words, or another
abbrev pub named : Option Word → model.Word
named (Some Line) = model.LINE
named (Some Rate) = model.RATE
named (Some Patt) = model.PATT
named (Some Year) = model.YEAR
named (Some Sum) = model.SUM
named (Some Midt) = model.MIDT
named None = model.OTHER
