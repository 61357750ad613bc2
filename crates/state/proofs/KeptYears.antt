-- The accident years whose patterns a line keeps: how many, and which are found.
-- Assumes nothing.
use Rattle.std.specs.Prelude.{None, Some}
use mathlib.Core.List.{List}
use mathlib.Core.Path.{◌≡◌, refl, subst}
use Prim.Native.Nat.{ℕ, zero, suc, ◌-◌, ◌≤◌, ◌<◌}
use native.Mathlib.Omega.{arith}
use borrow.Author.Tests.{eq-eqb, ne_eqb}
use Rattle.model.specs.Book.{find}
use Rattle.model.proofs.Ages.{ages_small}
use Rattle.line_limits.specs.declared.line.Line.{Line}
use Rattle.line_limits.specs.declared.line.Patterns.{Patterns}
use Rattle.line_limits.specs.Line.{kept_patterns}
use Rattle.state.specs.Lines.{Limited}
use Rattle.state.specs.Patterns.{pattern_at, kept_back}
use Rattle.state.proofs.Limited.{kept}
use Rattle.state.proofs.RatePlaces.{first_year}

-- the years of kept patterns go no further back than to year 0
module _ (letter : ℕ) (line : Line) (l : Limited letter line) (p : Patterns) (e : kept_patterns line ≡ Some p) where
  pub kept_year : 1987 ≤ p.last
  kept_year = first_year p.last (kept letter line l p e).0

  pub kept_past : p.count ≤ p.last
  kept_past = omega (arith, (kept letter line l p e).2, ages_small letter, kept_year)

-- the pattern of a year that is kept, and none of a year before those
pub find_kept : (store : List ℕ) (letter n year k : ℕ) → k < n → n ≤ year → find (year - k) (kept_back store letter n year) ≡ Some (pattern_at store letter (year - k))
unfolding kept_back
find_kept store letter zero year k lt le = absurd (omega arith)
find_kept store letter (suc n) year zero lt le = let same : year - 0 ≡ year = omega arith in rw (same, eq-eqb year year refl)
find_kept store letter (suc n) year (suc k) lt le =
    let before : (year - 1) - k ≡ year - suc k = omega arith in
    subst (λ (y : ℕ). find y (kept_back store letter (suc n) year) ≡ Some (pattern_at store letter y)) before
    (rw (ne_eqb ((year - 1) - k) year (λ e. omega arith)) (find_kept store letter n (year - 1) k (omega arith) (omega arith)))

pub find_none : (store : List ℕ) (letter n year k : ℕ) → n ≤ k → k ≤ year → find (year - k) (kept_back store letter n year) ≡ None
unfolding kept_back
find_none store letter zero year k le lk = refl
find_none store letter (suc n) year zero le lk = absurd (omega arith)
find_none store letter (suc n) year (suc k) le lk =
    let before : (year - 1) - k ≡ year - suc k = omega arith in
    subst (λ (y : ℕ). find y (kept_back store letter (suc n) year) ≡ None) before
    (rw (ne_eqb ((year - 1) - k) year (λ e. omega arith)) (find_none store letter n (year - 1) k (omega arith) (omega arith)))
