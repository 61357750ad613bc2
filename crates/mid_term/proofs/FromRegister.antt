-- RATE with a year alone.
-- Assumes nothing.
use Rattle.std.specs.Prelude.{if◌then◌else◌, Option, None, Some, is_some, Result, Ok}
use mathlib.Core.Bool.{Bool, true, false, ◌&&◌, false≢true}
use mathlib.Core.List.{List}
use mathlib.Core.Path.{◌≡◌, refl, sym, ap, ◌∙◌}
use Prim.Native.Nat.{ℕ}
use native.Mathlib.Omega.{arith}
use lib.ListN.{length, replicate}
use Rattle.std.specs.List.{list_all}
use Rattle.model.specs.Kind.{is_rate, is_year}
use Rattle.model.specs.Rate.{rate_of, sixty_months}
use Rattle.model.specs.Call.{set_rate_from_register}
use Rattle.model.specs.Question.{book_questions, first_no}
use Rattle.model.specs.Step.{as_numbers, months_taken, accept}
use Rattle.model.proofs.Months.{dates, all_pass}
use Rattle.kinds.specs.Within.{within}
use Rattle.kinds.proofs.Taken.{taken, outside}
use Rattle.rates.specs.Rate.{mean_of}
use Rattle.refusal.specs.declared.Refusal.{Refusal}
use Rattle.refusal.specs.declared.Refusal.TheVariants as refusal
use Rattle.register.specs.Sixty.{has_sixty, rates_taken, given_sixty}
use Rattle.state.specs.declared.book.Book.{Book}
use Rattle.state.specs.Rates.{rates_of}
use Rattle.state.specs.Months.{register_of}
use Rattle.state.specs.View.{view}
use Rattle.state.proofs.MonthPieces.{register_within}
use Rattle.ledger.specs.declared.answer.Outcome.{Outcome}
use Rattle.ledger.specs.Answer.{refused_of}
use Rattle.ledger.specs.Does.{book_settled, store_settled, Settled, Does}
use Rattle.ledger.specs.SetRate.{GivesRate}
use Rattle.ledger.proofs.RateSet.{mean_is, mean_small, rate_shown}
use Rattle.ledger.proofs.Settling.{refused, limits_refused, goes_on}

-- question 6
module _ (year : ℕ) (o : Option ℕ) (eo : o ≡ within is_year year) (book : Book) (store : List ℕ) (r : Outcome) where
  pub year_on : (v : ℕ) → o ≡ Some v → (later : List ℕ) → Settled book (set_rate_from_register v) store r later → Does book (as_numbers (set_rate_from_register year)) store r later
  year_on v ev later h =
      let t = taken is_year year v (sym eo ∙ ev) in
      goes_on book (set_rate_from_register year) store r (record { letter = refl; lengths = refl; limits = t.0 }) later (rw t.1 at h)

  pub year_refused : o ≡ None → r ≡ refused_of book refusal.OutsideLimits → Does book (as_numbers (set_rate_from_register year)) store r store
  year_refused e er = limits_refused book (set_rate_from_register year) store r true refl refl true refl refl (is_year year) refl (outside is_year year (sym eo ∙ e)) er

and_true : (a b : Bool) → a ≡ true → (a && b) ≡ b
and_true true b e = refl
and_true false b e = absurd (false≢true e)

-- questions 7 and 14
module _ (book : Book) (year : ℕ) (store : List ℕ) where
  first_is : (o : Option ℕ) (t : Bool) → rates_of book.rates year ≡ o → list_all is_some (sixty_months (register_of store) year) ≡ t
      → first_no (book_questions (view book store) (set_rate_from_register year)) ≡ (if is_some o then Some 7 else (if t then None else Some 14))
  unfolding book_questions
  first_is None t e s = rw e (ap (λ (b : Bool). if b then None else Some 14) s)
  first_is (Some n) t e s = rw e

  -- k is the number of the year
  module _ (k : ℕ) (ek : k ≡ year) where
    pub rate_given : (r : Outcome) (before : Option ℕ) → before ≡ rates_of book.rates k → (old : ℕ) → before ≡ Some old → r ≡ refused_of book refusal.AlreadyGiven → Settled book (set_rate_from_register year) store r store
    rate_given r before eb old e er =
        refused book refusal.AlreadyGiven (first_no (book_questions (view book store) (set_rate_from_register year))) (set_rate_from_register year) store r
        (first_is (Some old) (list_all is_some (sixty_months (register_of store) year)) (rw (← ek) (sym eb ∙ e)) refl) er

    -- o is what the code finds of the sixty months
    module _ (ik : is_year k ≡ true) (free : rates_of book.rates year ≡ None) (o : Option (List ℕ)) (ok : o ≡ given_sixty store k) where
      y : is_year year ≡ true
      y = rw (← ek) ik

      eo : o ≡ given_sixty store year
      eo = rw (← ek) ok

      all_given : (t : Bool) → has_sixty store year ≡ t → list_all is_some (sixty_months (register_of store) year) ≡ t
      all_given t e = sym (sym e ∙ and_true (is_year year) (list_all is_some (sixty_months (register_of store) year)) y)

      found : (t : Bool) → has_sixty store year ≡ t → (months : List ℕ) → o ≡ Some months → (t ≡ true) × (months ≡ rates_taken store year)
      found true e months f = let same : ◌≡◌ {A = Option (List ℕ)} (Some (rates_taken store year)) (Some months) = sym (eo ∙ rw e) ∙ f in (refl, sym (cc same))
      found false e months f = let none : ◌≡◌ {A = Option (List ℕ)} None (Some months) = sym (eo ∙ rw e) ∙ f in (let z : ◌≡◌ {A = ℕ} 0 1 = cc in absurd (omega arith))

      missing : (t : Bool) → has_sixty store year ≡ t → o ≡ None → t ≡ false
      missing true e f = let some : ◌≡◌ {A = Option (List ℕ)} (Some (rates_taken store year)) None = sym (eo ∙ rw e) ∙ f in (let z : ◌≡◌ {A = ℕ} 0 1 = cc in absurd (omega arith))
      missing false e f = refl

      pub month_missing : o ≡ None → (r : Outcome) → r ≡ refused_of book refusal.NoMonth → Settled book (set_rate_from_register year) store r store
      month_missing m r er =
          refused book refusal.NoMonth (first_no (book_questions (view book store) (set_rate_from_register year))) (set_rate_from_register year) store r
          (first_is None false free (all_given false (missing (has_sixty store year) refl m))) er

      -- the rate of the sixty months
      module _ (months : List ℕ) (em : o ≡ Some months) where
        months_are : months ≡ months_taken (view book store) year
        months_are = (found (has_sixty store year) refl months em).1 ∙ ap (λ (b : Bool). if b then months_taken (view book store) year else replicate 60 0) y

        rates : list_all is_rate months ≡ true
        rates = rw months_are (all_pass is_rate refl (λ date. register_of store date.0 date.1) (λ date. register_within store date.0 date.1) (dates year))

        -- `mean_rate` does not refuse them
        pub is_mean : mean_of months ≡ Ok (rate_of months)
        is_mean = mean_is months (rw months_are) rates

        pub rate_given_on : (m : Result ℕ Refusal) → m ≡ mean_of months → (v : ℕ) → m ≡ Ok v → length book.rates ≡ 113 → (later : List ℕ) (r : Outcome) → GivesRate book k v store r later → Settled book (set_rate_from_register year) store r later
        unfolding accept book_settled store_settled
        rate_given_on m eq v ev len later r given =
            let g : GivesRate book year v store r later = rw (← ek) given in
            let mean : v ≡ rate_of months = sym (cc (sym is_mean ∙ sym eq ∙ ev)) in
            let same : v ≡ rate_of (months_taken (view book store) year) = mean ∙ ap rate_of months_are in
            rw (first_is None true free (all_given true (found (has_sixty store year) refl months em).0))
            record {
              outcome = rate_shown book year v y (omega (arith, mean, mean_small months (rw months_are) rates)) len store r later g ∙ rw same;
              own = ap (λ (o : Outcome). o.book) g.outcome ∙ rw same;
              lent = g.lent ∙ rw same;
            }
