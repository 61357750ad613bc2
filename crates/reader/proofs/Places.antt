-- A number that is well written stands within its line.
-- Assumes nothing.
use Rattle.std.specs.Prelude.{Some}
use mathlib.Core.Bool.{Bool, false≢true}
use mathlib.Core.Path.{◌≡◌, sym, ap, ◌∙◌}
use mathlib.Core.List.{List}
use Prim.Native.Nat.{ℕ, ◌+◌, ◌≤◌, ◌<◌}
use native.Mathlib.Omega.{by_contra}
use lib.ListN.{length, drop}
use Rattle.model.specs.Field.{fields, field}
use Rattle.field.proofs.Fields.{rest_whole, ends as field_ends}
use Rattle.numbers.specs.Number.{number_in}
use Rattle.numbers.specs.declared.number.Number.{Number}
use Rattle.numbers.proofs.Signs.{given, past_written}

module _ (s : List ℕ) (at : ℕ) (minus_allowed : Bool) (n : Number) (e : Some n ≡ number_in minus_allowed (field 0 (fields (drop at s)))) where
  pub begins : at ≤ length s
  begins =
      by_contra at (length s) (λ (past : length s < at). absurd (false≢true (sym (past_written s at minus_allowed past) ∙ (given minus_allowed (field 0 (fields (drop at s))) n e).0)))

  pub ends : at + n.length ≤ length s
  ends =
      let long = ap (λ (m : Number). m.length) (given minus_allowed (field 0 (fields (drop at s))) n e).1 in
      rw long (field_ends s at (field 0 (fields (drop at s))) begins (rw (rest_whole s at)))
