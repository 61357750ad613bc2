-- What a line declares and keeps.
-- Assumes nothing: these are definitions.
use Rattle.std.specs.Prelude.{ℕ, ltb, if◌then◌else◌, Option, None, Some}
use Rattle.line_limits.specs.declared.line.Line.{Line}
use Rattle.line_limits.specs.declared.line.Patterns.{Patterns}

-- its opening, where it is declared
abbrev pub declared_opening : Line → Option ℕ
declared_opening line = if line.declared then Some line.opening else None

-- its patterns, where it keeps any
abbrev pub kept_patterns : Line → Option Patterns
kept_patterns line = if ltb 0 line.patterns.count then Some line.patterns else None
