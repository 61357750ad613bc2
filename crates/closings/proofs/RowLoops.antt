-- The rows of a year, as the code goes through them: what question 13 asks of them, and how far the loop over their factors is.
-- Assumes nothing.
use mathlib.Core.Bool.{not}
use mathlib.Core.List.{List, [], ◌∷◌, map}
use mathlib.Core.Logic.{⊎_elim}
use mathlib.Core.Path.{◌≡◌, refl, ap, ◌∙◌}
use Prim.Native.Nat.{ℕ, zero, suc, ◌+◌, ◌-◌, ◌≤◌, ◌<◌}
use native.Mathlib.Nat.{eq-or-lt_of_le}
use native.Mathlib.Omega.{arith}
use borrow.Author.Tests.{ne_eqb, lt-ltb, le-ltb}
use lib.Dec.{eqb, ltb}
use lib.ListN.{length, take, drop, get_or, set, replicate, length-set}
use lib.Seq.{get_or-set_same, get_or-set_other}
use Rattle.std.specs.List.{list_all, zip}
use Rattle.std.proofs.lemmas.List.{take-map, drop-map}
use Rattle.std.proofs.lemmas.List.Folds.{list_all-map}
use Rattle.model.specs.Letter.{ages}
use Rattle.model.specs.Row.{Row, stated, gross}
use Rattle.model.proofs.Ages.{ages_small}
use Rattle.reserve.specs.Lists.{stated_rows}
use Rattle.line_limits.specs.declared.line.Patterns.{Patterns}
use Rattle.state.specs.Patterns.{factor_at}
use Rattle.closings.specs.Rows.{have_patterns, row_factor_of, FactorsOf}

-- the rows of two lists as their pairs
pairs : (unpaid tabular : List ℕ) → stated_rows unpaid tabular ≡ map (λ (p : ℕ × ℕ). stated p.0 p.1) (zip unpaid tabular)
pairs [] tabular = refl
pairs (u ∷ unpaid) [] = refl
pairs (u ∷ unpaid) (t ∷ tabular) = ap (λ (rows : List Row). stated u t ∷ rows) (pairs unpaid tabular)

none_is : (n : ℕ) → eqb n 0 ≡ not (ltb 0 n)
none_is zero = refl
none_is (suc n) = rw (lt-ltb 0 (suc n) (omega arith), ne_eqb (suc n) 0 (λ e. omega (arith, e)))

without_gross : (ps : List (ℕ × ℕ)) → list_all (λ (p : ℕ × ℕ). eqb (gross (stated p.0 p.1)) 0) ps ≡ list_all (λ (p : ℕ × ℕ). not (ltb 0 (gross (stated p.0 p.1)))) ps
without_gross [] = refl
without_gross (p ∷ ps) = rw (none_is (p.0 + p.1), without_gross ps)

-- question 13, asked of the pairs
pub have_patterns_of : (kept n : ℕ) (unpaid tabular : List ℕ) → have_patterns kept n unpaid tabular ≡ list_all (λ (p : ℕ × ℕ). not (ltb 0 (gross (stated p.0 p.1)))) (drop kept (take n (zip unpaid tabular)))
unfolding have_patterns
have_patterns_of kept n unpaid tabular =
    rw (pairs unpaid tabular, take-map (λ (p : ℕ × ℕ). stated p.0 p.1) n (zip unpaid tabular), drop-map (λ (p : ℕ × ℕ). stated p.0 p.1) kept (take n (zip unpaid tabular)), list_all-map _ (λ (p : ℕ × ℕ). stated p.0 p.1) (drop kept (take n (zip unpaid tabular))))
    (without_gross (drop kept (take n (zip unpaid tabular))))

-- a row's factor, by the code's counts of ages and of kept patterns
module _ (store : List ℕ) (letter : ℕ) (patterns : Patterns) (k n : ℕ) (en : n ≡ ages letter) where
  pub factor_kept : (year : ℕ) → year ≡ patterns.last - k → (r : ℕ) → k < n → k < patterns.count → r ≡ factor_at store letter year k → r ≡ row_factor_of store letter patterns k
  factor_kept year ey r lt lk e = rw (← en, lt-ltb k n lt, lt-ltb k patterns.count lk, ← ey) e

  pub factor_missing : k < n → patterns.count ≤ k → 0 ≡ row_factor_of store letter patterns k
  factor_missing lt le = rw (← en, lt-ltb k n lt, le-ltb k patterns.count le)

  pub factor_prior : (r : ℕ) → n ≤ k → r ≡ factor_at store letter patterns.last 10 → r ≡ row_factor_of store letter patterns k
  factor_prior r le e = rw (← en, le-ltb k n le) e

-- the factors before place k are written
pub record Filled (store : List ℕ) (letter : ℕ) (patterns : Patterns) (factors : List ℕ) (k : ℕ) : Type 0 where
  pub places : length factors ≡ 11
  pub few : ages letter ≤ 10
  pub inside : k ≤ suc (ages letter)
  pub each : (j : ℕ) → j < k → get_or factors j 0 ≡ row_factor_of store letter patterns j

pub fill_start : (store : List ℕ) (letter : ℕ) (patterns : Patterns) → Filled store letter patterns (replicate 11 0) 0
fill_start store letter patterns = record { places = refl; few = ages_small letter; inside = omega arith; each = λ j lt. absurd (omega arith) }

module _ (store : List ℕ) (letter : ℕ) (patterns : Patterns) (factors : List ℕ) (k n : ℕ) (en : n ≡ ages letter) (f : Filled store letter patterns factors k) where
  pub fill_on : (r : ℕ) → k ≤ n → r ≡ row_factor_of store letter patterns k → Filled store letter patterns (set factors k r) (k + 1)
  fill_on r le e =
      let free : k < length factors = omega (arith, f.places, f.few) in
      record {
        places = length-set factors k r ∙ f.places;
        few = f.few;
        inside = omega arith;
        each = λ j lt.
            ⊎_elim
            (λ (same : j ≡ k). rw same (get_or-set_same factors k r 0 free ∙ e))
            (λ (before : j < k). get_or-set_other factors k j r 0 (λ z. omega arith) ∙ f.each j before)
            (eq-or-lt_of_le {n = j} {m = k} (omega arith));
      }

  pub fill_end : n < k → FactorsOf store letter patterns factors
  fill_end lt = record { each = λ j le. f.each j (omega arith) }
