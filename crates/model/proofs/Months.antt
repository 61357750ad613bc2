-- F-4: the sixty months of a year: what holds of each of a list of months holds of them.
-- Assumes nothing.
use Rattle.std.specs.Prelude.{Option, None, Some, is_some, unwrap_or}
use mathlib.Core.Path.{◌≡◌, refl, sym, ap}
use mathlib.Core.Bool.{Bool, true}
use mathlib.Core.List.{List, [], ◌∷◌, map}
use Prim.Native.Nat.{ℕ}
use Rattle.model.specs.Basics.{joined}
use Rattle.std.specs.List.{list_all}
use Rattle.model.specs.Rate.{sixty_months}
use Rattle.model.specs.History.{listed}
use Rattle.model.proofs.Lists.{true≢false, cons≢nil, and_left}

-- a list of one rate
abbrev pub one : ℕ → List ℕ
one rate = rate ∷ []

-- the sixty months, each by its year and month
abbrev pub dates : ℕ → List (ℕ × ℕ)
dates year = sixty_months (λ y m. (y, m)) year

-- one rate for each: joined, they are the rates
pub joined_ones : (rates : List ℕ) → joined (map one rates) ≡ rates
joined_ones [] = refl
joined_ones (rate ∷ rates) = ap (λ (l : List ℕ). rate ∷ l) (joined_ones rates)

-- where all are given, each gives one rate
pub given_ones : (months : List (Option ℕ)) → list_all is_some months ≡ true → map listed months ≡ map one (map (λ o. unwrap_or o 0) months)
given_ones [] e = refl
given_ones (None ∷ months) e = absurd (true≢false (sym e))
given_ones (Some rate ∷ months) e = ap (λ (l : List (List ℕ)). one rate ∷ l) (given_ones months e)

-- what holds of every rate that is listed, and of 0, holds of those taken
module _ (test : ℕ → Bool) (zero_passes : test 0 ≡ true) where
  taken_passes : (month : Option ℕ) → list_all test (listed month) ≡ true → test (unwrap_or month 0) ≡ true
  taken_passes None e = zero_passes
  taken_passes (Some rate) e = and_left (test rate) true e

  pub all_pass : {A : Type 0} (f : A → Option ℕ) → ((a : A) → list_all test (listed (f a)) ≡ true) → (list : List A) → list_all test (map (λ month. unwrap_or month 0) (map f list)) ≡ true
  all_pass f each [] = refl
  all_pass f each (a ∷ list) = rw (taken_passes (f a) (each a), all_pass f each list)

-- two ways to list rates that agree where the first lists one
module _ {A : Type 0} (f g : A → List ℕ) (same : (a : A) (rate : ℕ) → f a ≡ one rate → g a ≡ f a) where
  pub ones_same : (list : List A) (rates : List ℕ) → map f list ≡ map one rates → map g list ≡ map f list
  ones_same [] rates e = refl
  ones_same (a ∷ list) [] e = absurd (cons≢nil (f a) (map f list) e)
  ones_same (a ∷ list) (rate ∷ rates) e =
      let first : f a ≡ one rate = cc in
      let rest : map f list ≡ map one rates = cc in
      rw (same a rate first, ones_same list rates rest)
