-- Question 10 of the code's line is that of the line that the view shows.
-- Assumes nothing.
use Rattle.std.specs.Prelude.{Option, None, Some}
use mathlib.Core.Bool.{true, ◌&&◌}
use mathlib.Core.List.{List}
use mathlib.Core.Path.{◌≡◌, refl, subst}
use Prim.Native.Nat.{ℕ, zero, suc, ◌+◌, ◌<◌}
use native.Mathlib.Omega.{arith}
use native.Mathlib.Numerals.{add-one}
use borrow.Author.Tests.{eqb-true, lt-ltb}
use lib.Dec.{eqb}
use Rattle.model.specs.Book.{latest}
use Rattle.model.specs.Question as model
use Rattle.model.proofs.Lists.{and_left}
use Rattle.line_limits.specs.declared.line.Line.{Line}
use Rattle.line_limits.specs.declared.line.Patterns.{Patterns}
use Rattle.line_limits.specs.Line.{kept_patterns}
use Rattle.state.specs.Patterns.{kept_back}
use Rattle.state.specs.View.{closed_of, kept_of, line_of}
use Rattle.state.proofs.Limited.{keeps}
use Rattle.patterns.specs.AddPattern.{last_is_closed, follows, follows_last}

-- what the model finds
closed_same : (closed : Option ℕ) (closing last : ℕ) → model.last_is_closed (closed_of closed closing) last ≡ last_is_closed closed last
closed_same None closing last = refl
closed_same (Some c) closing last = refl

kept_same : (store : List ℕ) (letter n last year : ℕ) (closed : Option ℕ) (closing : ℕ) → 0 < n → model.follows (latest (kept_back store letter n last)) (closed_of closed closing) year ≡ (eqb year (last + 1) && last_is_closed closed last)
unfolding kept_back
kept_same store letter zero last year closed closing some = absurd (omega arith)
kept_same store letter (suc n) last year closed closing some = rw (add-one, closed_same closed closing last)

module _ (store : List ℕ) (letter : ℕ) (line : Line) (year : ℕ) where
  follows_by : (patterns : Option Patterns) → kept_patterns line ≡ patterns → model.follows (latest (kept_of store letter patterns)) (closed_of line.closed line.closing) year ≡ follows patterns line.closed year
  follows_by None e = refl
  follows_by (Some p) e =
      let k = keeps line p e in
      kept_same store letter p.count p.last year line.closed line.closing (subst (λ (q : Patterns). 0 < q.count) k.1 k.0)

  pub follows_is : model.follows (latest (line_of store letter line).kept) (line_of store letter line).closed year ≡ follows_last line year
  unfolding line_of follows_last
  follows_is = follows_by (kept_patterns line) refl

-- a line that keeps patterns is followed by the year after its last one
pub next_year : (line : Line) (year : ℕ) → follows_last line year ≡ true → 0 < line.patterns.count → year ≡ line.patterns.last + 1
unfolding follows_last
next_year line year f some =
    let last : ℕ = line.patterns.last in
    eqb-true year (last + 1) (and_left (eqb year (last + 1)) (last_is_closed line.closed last) (rw (lt-ltb 0 line.patterns.count some) at f))
