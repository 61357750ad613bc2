-- The rows of a YEAR that is accepted: each is near, by the entries before it.
-- Assumes nothing.
use Rattle.std.specs.Prelude.{if◌then◌else◌, Option, Some, is_some}
use mathlib.Core.Path.{◌≡◌, refl, sym, ap, ◌∙◌, subst}
use mathlib.Core.Bool.{Bool, true, false, ◌||◌}
use mathlib.Core.List.{List, [], ◌∷◌}
use mathlib.Core.Logic.{⊎_elim}
use Prim.Native.Nat.{ℕ, zero, suc, ◌+◌, ◌-◌, ◌≤◌, ◌<◌}
use native.Mathlib.Omega.{arith}
use native.Mathlib.Nat.{eq-zero-or-pos}
use borrow.Author.Tests.{ne_eqb, eqb-true, lt-ltb, le-ltb}
use lib.Dec.{eqb, ltb}
use lib.ListN.{take, get_or}
use Rattle.model.specs.Basics.{Every, EveryAt}
use Rattle.model.specs.Letter.{ages}
use Rattle.model.specs.Published.{published}
use Rattle.model.specs.Exact.{Fraction, exact_composite, composite_unpaid}
use Rattle.model.specs.Row.{Row, gross, discounted}
use Rattle.model.specs.Book.{Line, Kept, latest, find}
use Rattle.model.specs.YearEnd.{factor_at, composite_of, row_factor, discounted_row}
use Rattle.model.specs.Question.{have_kept, is_year_of}
use Rattle.model.specs.Near.{FactorNear, RowNear}
use Rattle.model.specs.History.{Entry}
use Rattle.model.specs.Demand.{Given, unpaid_at, exact_at, KeptNear, RowHolds}
use Rattle.model.proofs.Lists.{Some≢None, only, is_given, and_left, and_right}
use Rattle.model.proofs.RowBound.{row_near, nothing_left, nothing_near}

-- a pattern that is found has the year, and what holds of all
find_at : (P : Kept → Type 0) (year : ℕ) (q : Kept) (kept : List Kept) (p : Kept) (t : Bool) → eqb year q.year ≡ t → (if t then Some q else find year kept) ≡ Some p → P q → (find year kept ≡ Some p → P p × (p.year ≡ year))
    → P p × (p.year ≡ year)
find_at P year q kept p true e s h rest = let i : q ≡ p = cc in (subst P i h, sym (ap (λ (x : Kept). x.year) i) ∙ sym (eqb-true year q.year e))
find_at P year q kept p false e s h rest = rest s

find_in : (P : Kept → Type 0) (year : ℕ) (kept : List Kept) (p : Kept) → find year kept ≡ Some p → Every P kept → P p × (p.year ≡ year)
find_in P year [] p e h = absurd (Some≢None p (sym e))
find_in P year (q ∷ kept) p e h = find_at P year q kept p (eqb year q.year) refl e h.0 (λ s. find_in P year kept p s h.1)

-- a pattern that is found is near, by the rate and the payments of its year
record Found (h : List Entry) (letter year : ℕ) (o : Option Kept) : Type 0 where
  pattern : Kept
  is : o ≡ Some pattern
  near : KeptNear h letter pattern
  source : Given h letter year near.rate near.pay

found : (h : List Entry) (letter year : ℕ) (kept : List Kept) → Every (KeptNear h letter) kept → is_some (find year kept) ≡ true → Found h letter year (find year kept)
found h letter year kept all g =
    let s = is_given (find year kept) g in
    let f = find_in (KeptNear h letter) year kept s.0 s.1 all in
    record { pattern = s.0; is = s.1; near = f.0; source = rw f.1 at f.0.source }

-- a row is near where its factor is, whichever of the entries' rates and patterns is meant: there is one of each
from_source : (h : List Entry) (letter year : ℕ) (row : Row) (f : ℕ) (exact : ℕ → List ℕ → Fraction) (left : List ℕ → ℕ) (rate : ℕ) (pay : List ℕ) → Given h letter year rate pay → (0 < left pay → FactorNear rate (exact rate pay) f)
    → (r : ℕ) (ps : List ℕ) → Given h letter year r ps → 0 < left ps → RowNear r (exact r ps) row (discounted row (published f))
from_source h letter year row f exact left rate pay s near r ps g u =
    let er : r ≡ rate = only r rate g.from_rate s.from_rate in
    let ep : ps ≡ pay = only ps pay g.from_pattern s.from_pattern in
    rw (er, ep) (row_near rate (exact rate pay) row f (near (rw ep at u)))

either : (a b : Bool) → a || b ≡ true → a ≡ false → b ≡ true
either true b e q = cc
either false b e q = e

module _ (h : List Entry) (letter year : ℕ) (line : Line) (all : Every (KeptNear h letter) line.kept) where
  -- which factor a row takes
  age_factor : (k : ℕ) → ltb k (ages letter) ≡ true → row_factor letter line year k ≡ factor_at k (find (year - k) line.kept)
  unfolding row_factor
  age_factor k e = rw e

  prior_factor : (k : ℕ) → ltb k (ages letter) ≡ false → row_factor letter line year k ≡ composite_of (find year line.kept)
  unfolding row_factor
  prior_factor k e = rw e

  age_near : (k : ℕ) (row : Row) → k < ages letter → (o : Option Kept) → Found h letter (year - k) o → (r : ℕ) (ps : List ℕ) → Given h letter (year - k) r ps → 0 < unpaid_at k ps → RowNear r (exact_at r k ps) row (discounted row (published (factor_at k o)))
  age_near k row lt o f =
      let n = f.near in
      rw f.is (from_source h letter (year - k) row (get_or f.pattern.factors k 0) (λ r ps. exact_at r k ps) (unpaid_at k) n.rate n.pay f.source (n.kept_near k lt))

  prior_near : (row : Row) (o : Option Kept) → Found h letter year o → (r : ℕ) (ps : List ℕ) → Given h letter year r ps → 0 < composite_unpaid letter ps → RowNear r (exact_composite letter r ps) row (discounted row (published (composite_of o)))
  prior_near row o f =
      let n = f.near in
      rw f.is (from_source h letter year row f.pattern.composite (exact_composite letter) (composite_unpaid letter) n.rate n.pay f.source n.composite_near)

  -- a row of an age: with gross it has a pattern
  age_row : (k : ℕ) (row : Row) → k < ages letter → eqb (gross row) 0 || is_some (find (year - k) line.kept) ≡ true → RowHolds h letter year k row (discounted_row letter line year k row)
  age_row k row lt q =
      let e : ltb k (ages letter) ≡ true = lt-ltb k (ages letter) lt in
      let with_gross : 0 < gross row → Found h letter (year - k) (find (year - k) line.kept)
      = λ g. found h letter (year - k) line.kept all (either (eqb (gross row) 0) _ q (ne_eqb (gross row) 0 (omega arith))) in
      record {
        has = λ g. let f = with_gross g in rw e (f.near.rate, f.near.pay, f.source);
        nothing = λ z. nothing_left row _ z;
        near = λ r ps g u. rw (age_factor k e, e)
            (⊎_elim
            (λ (z : gross row ≡ 0). nothing_near r (exact_at r k ps) row _ z (nothing_left row _ z))
            (λ (l : 0 < gross row). age_near k row lt _ (with_gross l) r ps (rw e at g) (rw e at u))
            (eq-zero-or-pos (gross row)));
      }

  own_found : (kept : List Kept) → is_year_of (latest kept) year ≡ true → is_some (find year kept) ≡ true
  own_found [] q = q
  own_found (p ∷ kept) q = rw q refl

  -- the prior row: the year's own pattern is kept
  prior_row : (k : ℕ) (row : Row) → ages letter ≤ k → is_year_of (latest line.kept) year ≡ true → RowHolds h letter year k row (discounted_row letter line year k row)
  prior_row k row le q =
      let e : ltb k (ages letter) ≡ false = le-ltb k (ages letter) le in
      let f = found h letter year line.kept all (own_found line.kept q) in
      record {
        has = λ g. rw e (f.near.rate, f.near.pay, f.source);
        nothing = λ z. nothing_left row _ z;
        near = λ r ps g u. rw (prior_factor k e, e) (prior_near row _ f r ps (rw e at g) (rw e at u));
      }

  -- the rows from place k on, n of them of ages
  pub rows_hold : (n k : ℕ) (rows : List Row) → n + k ≡ ages letter → have_kept line.kept year k (take n rows) ≡ true → is_year_of (latest line.kept) year ≡ true
      → EveryAt (λ j row. RowHolds h letter year j row (discounted_row letter line year j row)) k rows
  rows_hold n k [] e q own = tt
  rows_hold zero k (row ∷ rows) e q own = (prior_row k row (omega arith) own, past (suc k) rows (omega arith))
    where
      past : (j : ℕ) (rest : List Row) → ages letter ≤ j → EveryAt (λ i row. RowHolds h letter year i row (discounted_row letter line year i row)) j rest
      past j [] le = tt
      past j (r ∷ rest) le = (prior_row j r le own, past (suc j) rest (omega arith))
  rows_hold (suc n) k (row ∷ rows) e q own =
      let first : Bool = eqb (gross row) 0 || is_some (find (year - k) line.kept) in
      let rest : Bool = have_kept line.kept year (suc k) (take n rows) in
      (age_row k row (omega arith) (and_left first rest q), rows_hold n (suc k) rows (omega arith) (and_right first rest q) own)
