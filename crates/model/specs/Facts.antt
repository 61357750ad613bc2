-- Document 01, "Marked facts": P1 to P13; P10 as document 02, F-1, has it.
-- Assumes nothing: these are definitions.
use Rattle.std.specs.Prelude.{◌≡◌, [], ◌∷◌, ◌++◌, ℕ, replicate}
use Prim.Native.Char.{code}
use Rattle.model.specs.Rate.{rate_of}
use Rattle.model.specs.HalfYear.{half_year}
use Rattle.model.specs.Pattern.{age, ages_of, cumulative_ratio}
use Rattle.model.specs.Tail.{ten_year_tail, schedule}
use Rattle.model.specs.Factor.{kept_factors}
use Rattle.model.specs.Row.{stated, discounted}

pub record Facts : Type 0 where
  pub p1 : half_year 0 ≡ 10000000000
  pub p2 : half_year 2100 ≡ 9090909090
  pub p3 : half_year 2500 ≡ 8944271909
  -- sixty months that sum to 8,850, and to 8,849
  pub p4 : rate_of (replicate 59 150 ++ (0 ∷ [])) ≡ 148
  pub p5 : rate_of (replicate 58 150 ++ (149 ∷ 0 ∷ [])) ≡ 147
  pub p6 : cumulative_ratio (age 1 3) ≡ 33333333
  pub p7 : cumulative_ratio (age 2 3) ≡ 66666667
  -- whatever was paid at ages 8 and 9
  pub p8 : (eighth ninth : ℕ) → ten_year_tail eighth ninth 4000000 14000000 ≡ 4000000 ∷ 4000000 ∷ 4000000 ∷ 2000000 ∷ 0 ∷ 0 ∷ []
  pub p9 : (eighth ninth : ℕ) → ten_year_tail eighth ninth 4000000 40000000 ≡ 4000000 ∷ 4000000 ∷ 4000000 ∷ 4000000 ∷ 4000000 ∷ 20000000 ∷ []
  -- "Fact P10 gains the two earlier payments, both 0."
  pub p10 : ten_year_tail 0 0 0 10000000 ≡ 0 ∷ 0 ∷ 0 ∷ 0 ∷ 0 ∷ 10000000 ∷ []
  pub p11 : discounted (stated 30 10) 900000 ≡ 30
  pub p12 : discounted (stated 10000 1000) 850000 ≡ 9350
  -- "kept factors of the run"
  pub p13 : kept_factors (code "J") 2100 (schedule (code "J") (ages_of (50 ∷ 90 ∷ []) (100 ∷ 100 ∷ []))) ≡ 8644963395 ∷ 8302028549 ∷ []
