-- `register::sixty::rates_in`: what its loop keeps. Assumes nothing.
use Rattle.std.proofs.Common.{◌≡◌, ℕ, ◌<◌, length, get_or}
use Rattle.register.specs.Sixty.{cell_rate}
use Rattle.register.proofs.sixty.rates_in.Given as goal

-- the rates before place i are taken
abbrev pub invariant-loop-i : goal.invariant-loop-i
invariant-loop-i l = (length l.rates ≡ 60) × ((k : ℕ) → k < l.i → get_or l.rates k 0 ≡ cell_rate (get_or l.cells k 0))
