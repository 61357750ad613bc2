-- The kept patterns that the rows of a year take: what the code finds by the line's count is what the book finds by the years.
-- Assumes nothing.
use Rattle.std.specs.Prelude.{if◌then◌else◌, Some}
use mathlib.Core.Bool.{Bool, true, false, or-true, or-false}
use mathlib.Core.List.{List, [], ◌∷◌}
use mathlib.Core.Path.{◌≡◌, refl, ◌∙◌}
use Prim.Native.Nat.{ℕ, zero, suc, ◌+◌, ◌-◌, ◌≤◌, ◌<◌}
use native.Mathlib.Omega.{arith}
use borrow.Author.Tests.{ltb-true, ltb-false}
use lib.Dec.{eqb, ltb}
use lib.ListN.{length, take, get_or, get_or-map}
use lib.Seq.{drop-nil, get_or-take}
use lib.IntN.{ℤ}
use Rattle.model.specs.Letter.{ages}
use Rattle.model.specs.Question.{have_kept}
use Rattle.model.specs.Row.{rows_of}
use Rattle.model.specs.YearEnd.{row_factor}
use Rattle.model.proofs.Ages.{ages_small}
use Rattle.reserve.proofs.Closings.{RowFactors}
use Rattle.line_limits.specs.declared.line.Line.{Line}
use Rattle.line_limits.specs.declared.line.Patterns.{Patterns}
use Rattle.line_limits.specs.Line.{kept_patterns}
use Rattle.state.specs.Lines.{Limited}
use Rattle.state.specs.Patterns.{slot_at, factor_in, kept_back}
use Rattle.closings.specs.Rows.{have_patterns, row_factor_of, FactorsOf}
use Rattle.state.specs.View.{line_of}
use Rattle.state.proofs.Limited.{kept}
use Rattle.state.proofs.KeptYears.{kept_year, kept_past, find_kept, find_none}

-- the factor of each row
module _ (store : List ℕ) (letter : ℕ) (line : Line) (l : Limited letter line) (p : Patterns) (e : kept_patterns line ≡ Some p) where
  some_kept : 0 < p.count
  some_kept = (kept letter line l p e).1

  factor_by : (k : ℕ) (t u : Bool) → ltb k (ages letter) ≡ t → ltb k p.count ≡ u → row_factor_of store letter p k ≡ row_factor letter (line_of store letter line) p.last k
  unfolding row_factor line_of
  factor_by k true true age in_kept =
      let slot : List ℕ = slot_at store letter (p.last - k) in
      rw (
        e,
        age,
        in_kept,
        find_kept store letter p.count p.last k (ltb-true k p.count in_kept) (kept_past letter line l p e),
        get_or-map factor_in (take (ages letter) slot) k 0,
        get_or-take (ages letter) slot k 0 (ltb-true k (ages letter) age),
      )
  factor_by k true false age in_kept =
      let before : k ≤ p.last = omega (arith, ltb-true k (ages letter) age, ages_small letter, kept_year letter line l p e) in
      rw (e, age, in_kept, find_none store letter p.count p.last k (ltb-false k p.count in_kept) before)
  factor_by k false u age in_kept =
      let same : p.last - 0 ≡ p.last = omega arith in
      let found = rw same at (find_kept store letter p.count p.last 0 some_kept (kept_past letter line l p e)) in
      rw (e, age, found)

  factor_is : (k : ℕ) → row_factor_of store letter p k ≡ row_factor letter (line_of store letter line) p.last k
  factor_is k = factor_by k (ltb k (ages letter)) (ltb k p.count) refl refl

  pub row_factors_are : (factors : List ℕ) → FactorsOf store letter p factors → RowFactors letter (line_of store letter line) p.last factors (suc (ages letter))
  row_factors_are factors f =
      record {
        same = λ k lt. f.each k lt ∙ factor_is k;
        limit = λ k lt. rw (factor_is k) at (small_by (ltb k (ages letter)) (ltb k p.count) (get_or (slot_at store letter (p.last - k)) k 0) (get_or (slot_at store letter p.last) 10 0));
      }
    where
      small_by : (t u : Bool) (a b : ℕ) → (if t then (if u then factor_in a else 0) else factor_in b) ≤ 10000000000
      small_by true true a b = omega arith
      small_by true false a b = omega arith
      small_by false u a b = omega arith

-- question 13, of the rows from place k on
module _ (store : List ℕ) (letter kept last : ℕ) (past : kept ≤ last) where
  have_by : (k n : ℕ) (p : ℤ) (u t : ℕ) (paid : List ℤ) (unpaid tabular : List ℕ) (b : Bool) → ltb k kept ≡ b → k ≤ last
      → have_patterns (kept - suc k) n unpaid tabular ≡ have_kept (kept_back store letter kept last) last (suc k) (take n (rows_of paid unpaid tabular))
      → have_patterns (kept - k) (suc n) (u ∷ unpaid) (t ∷ tabular) ≡ have_kept (kept_back store letter kept last) last k (take (suc n) (rows_of (p ∷ paid) (u ∷ unpaid) (t ∷ tabular)))
  unfolding have_patterns
  have_by k n p u t paid unpaid tabular true e le rest =
      let lt : k < kept = ltb-true k kept e in
      let one_more_lem : kept - k ≡ suc (kept - suc k) = omega arith in
      rw (find_kept store letter kept last k lt past, or-true (eqb (u + t) 0), one_more_lem) rest
  have_by k n p u t paid unpaid tabular false e le rest =
      let ge : kept ≤ k = ltb-false k kept e in
      let none_left : kept - k ≡ 0 = omega arith in
      let none_after : kept - suc k ≡ 0 = omega arith in
      rw (find_none store letter kept last k ge le, or-false (eqb (u + t) 0), none_left, ← rest, none_after)

  have_from : (k n : ℕ) (paid : List ℤ) (unpaid tabular : List ℕ) → length paid ≡ length unpaid → k + n ≤ suc last
      → have_patterns (kept - k) n unpaid tabular ≡ have_kept (kept_back store letter kept last) last k (take n (rows_of paid unpaid tabular))
  unfolding have_patterns
  have_from k zero paid unpaid tabular e le = rw (drop-nil (kept - k))
  have_from k (suc n) [] [] tabular e le = rw (drop-nil (kept - k))
  have_from k (suc n) [] (u ∷ unpaid) tabular e le = absurd (omega arith)
  have_from k (suc n) (p ∷ paid) [] tabular e le = absurd (omega arith)
  have_from k (suc n) (p ∷ paid) (u ∷ unpaid) [] e le = rw (drop-nil (kept - k))
  have_from k (suc n) (p ∷ paid) (u ∷ unpaid) (t ∷ tabular) e le =
      have_by k n p u t paid unpaid tabular (ltb k kept) refl (omega arith) (have_from (suc k) n paid unpaid tabular (omega arith) (omega arith))

pub have_patterns_is : (store : List ℕ) (letter : ℕ) (line : Line) → Limited letter line → (p : Patterns) → kept_patterns line ≡ Some p → (paid : List ℤ) (unpaid tabular : List ℕ) → length paid ≡ suc (ages letter) → length unpaid ≡ suc (ages letter) → length tabular ≡ suc (ages letter)
    → have_patterns p.count (ages letter) unpaid tabular ≡ have_kept (line_of store letter line).kept p.last 0 (take (ages letter) (rows_of paid unpaid tabular))
unfolding line_of
have_patterns_is store letter line l p e paid unpaid tabular ep eu et =
    let inside : 0 + ages letter ≤ suc p.last = omega (arith, ages_small letter, kept_year letter line l p e) in
    let all_kept : p.count - 0 ≡ p.count = omega arith in
    rw e (rw all_kept at (have_from store letter p.count p.last (kept_past letter line l p e) 0 (ages letter) paid unpaid tabular (omega arith) inside))
