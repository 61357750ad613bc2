-- The mean of sixty rates. It is a rate itself.
-- Assumes nothing.
use Rattle.std.specs.Prelude.{◌≡◌, true, false, List, [], ◌∷◌, Some, Ok, Err, ℕ, ◌+◌, ◌*◌, ◌/◌, ◌≤◌, length, sum}
use Rattle.std.specs.List.{list_all}
use Rattle.std.proofs.lemmas.Bool.{leb-true, le-leb, eq-eqb, ne_eqb}
use mathlib.Core.Path.{sym, ◌∙◌}
use native.Mathlib.Omega.{arith}
use Rattle.model.specs.Basics as own
use Rattle.model.specs.Kind.{is_rate}
use Rattle.model.proofs.Lists.{and_left, and_right}
use Rattle.model.proofs.Sums.{sum_is}
use Rattle.refusal.specs.Number.{refusal_of}
use Rattle.refusal.specs.declared.Refusal.TheVariants.{WrongCount, OutsideLimits}
use Rattle.kinds.specs.Within.{within}
use Rattle.rates.specs.Rate.{mean_of}

-- rates are at most 2500 each
pub sum_small : (months : List ℕ) → list_all is_rate months ≡ true → own.sum months ≤ length months * 2500
sum_small [] a = omega arith
sum_small (m ∷ months) a =
    let l : m ≤ 2500 = leb-true _ _ (and_left (is_rate m) (list_all is_rate months) a) in
    omega (arith, sum_small months (and_right (is_rate m) (list_all is_rate months) a))

module _ (months : List ℕ) where
  pub counted : (length months ≡ 60 → ⊥) → Err WrongCount ≡ mean_of months
  unfolding refusal_of
  counted n = rw (ne_eqb (length months) 60 n)

  module _ (n : length months ≡ 60) where
    pub limited : list_all is_rate months ≡ false → Err OutsideLimits ≡ mean_of months
    unfolding refusal_of
    limited e = rw (eq-eqb (length months) 60 n, e)

    module _ (e : list_all is_rate months ≡ true) where
      pub small : sum months ≤ 150000
      small = omega (arith, sum_is months, sum_small months e)

      module _ (t : ℕ) (et : t ≡ sum months) where
        -- the mean is a rate
        pub is_mean : within is_rate ((t + 30) / 60) ≡ Some ((t + 30) / 60)
        is_mean = rw (le-leb ((t + 30) / 60) 2500 (omega (arith, et, small)))

        pub mean : (r : ℕ) → within is_rate ((t + 30) / 60) ≡ Some r → Ok r ≡ mean_of months
        mean r er =
            let same : r ≡ (t + 30) / 60 = cc (sym er ∙ is_mean) in
            rw (eq-eqb (length months) 60 n, e, same, et, sum_is months)
