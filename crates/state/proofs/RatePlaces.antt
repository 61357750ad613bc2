-- The rate places: where a year stands, and that a store into a place is the model's `put`.
-- Assumes nothing.
use Rattle.std.specs.Prelude.{if◌then◌else◌, None, Some}
use mathlib.Core.Path.{◌≡◌, refl, sym, ◌∙◌, fun_ext}
use mathlib.Core.Bool.{Bool, true, false, false≢true}
use mathlib.Core.List.{List}
use Prim.Native.Nat.{ℕ, ◌-◌, ◌≤◌, ◌<◌}
use native.Mathlib.Omega.{arith}
use borrow.Author.Tests.{eqb-true, eqb-false, leb-true, le-leb}
use lib.Dec.{eqb, leb}
use lib.ListN.{length, get_or, set}
use lib.Seq.{get_or-set_same, get_or-set_other}
use Rattle.model.specs.Basics.{put}
use Rattle.model.specs.Kind.{is_year}
use Rattle.model.proofs.Lists.{and_left, and_right}
use Rattle.state.specs.Rates.{rate_in, rates_of}

-- a year and its place
module _ (year : ℕ) (e : is_year year ≡ true) where
  pub first_year : 1987 ≤ year
  first_year = leb-true 1987 year (and_left (leb 1987 year) (leb year 2099) e)

  pub year_place : year - 1987 < 113
  year_place = omega (arith, leb-true year 2099 (and_right (leb 1987 year) (leb year 2099) e))

-- a store, seen at any year
module _ (places : List ℕ) (year rate : ℕ) (l : length places ≡ 113) (e : is_year year ≡ true) (le : rate ≤ 2500) where
  put_at : (y : ℕ) (t s : Bool) → is_year y ≡ t → eqb y year ≡ s
      → (if t then rate_in (get_or (set places (year - 1987) rate) (y - 1987) 0) else None) ≡ (if s then Some rate else (if t then rate_in (get_or places (y - 1987) 0) else None))
  put_at y true true et es = rw (eqb-true y year es, get_or-set_same places (year - 1987) rate 0 (omega (arith, year_place year e)), le-leb rate 2500 le)
  put_at y true false et es =
      let n : y - 1987 ≡ year - 1987 → ⊥ = λ q. eqb-false y year es (omega (arith, first_year y et, first_year year e)) in
      rw (get_or-set_other places (year - 1987) (y - 1987) rate 0 n)
  put_at y false true et es = absurd (false≢true (sym et ∙ rw (eqb-true y year es) e))
  put_at y false false et es = refl

  pub rates_put : rates_of (if is_year year then set places (year - 1987) rate else places) ≡ put (rates_of places) year (Some rate)
  unfolding rates_of
  rates_put = rw e (fun_ext (λ y. put_at y (is_year y) (eqb y year) refl refl))
