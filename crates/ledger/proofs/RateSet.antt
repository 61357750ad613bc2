-- RATE: what the mean of its months says of questions 4 and 6, and question 7.
-- Assumes nothing.
use Rattle.std.specs.Prelude.{if◌then◌else◌, Option, None, Some, is_some, Result, Ok, Err}
use mathlib.Core.Bool.{Bool, true, false, ◌&&◌}
use mathlib.Core.List.{List, [], ◌∷◌}
use mathlib.Core.Path.{◌≡◌, refl, sym, ap, ◌∙◌}
use Prim.Native.Nat.{ℕ, ◌≤◌}
use native.Mathlib.Omega.{arith}
use borrow.Author.Tests.{eqb-true}
use lib.Dec.{eqb}
use lib.ListN.{length}
use Rattle.std.specs.List.{list_all}
use Rattle.model.specs.Kind.{is_rate, is_year}
use Rattle.model.specs.HalfYear.{half_year}
use Rattle.model.specs.Rate.{rate_of}
use Rattle.model.specs.Call.{set_rate}
use Rattle.model.specs.Question.{is_within_limits, book_questions, first_no}
use Rattle.model.specs.Answer.{rated}
use Rattle.model.specs.Step.{as_numbers, with_rate, accept}
use Rattle.model.proofs.Lists.{and_left, and_right}
use Rattle.rates.specs.Rate.{mean_of}
use Rattle.rates.proofs.Means.{sum_small}
use Rattle.state.specs.declared.book.Book.{Book}
use Rattle.refusal.specs.Number.{refusal_of}
use Rattle.refusal.specs.Unless.{unless}
use Rattle.refusal.specs.declared.Refusal.{Refusal}
use Rattle.refusal.specs.declared.Refusal.TheVariants as refusal
use Rattle.ledger.specs.declared.answer.Outcome.{Outcome}
use Rattle.state.specs.Rates.{rates_of}
use Rattle.state.specs.View.{view}
use Rattle.ledger.specs.Answer.{outcome_of, refused_of}
use Rattle.ledger.specs.Does.{book_settled, store_settled, Settled, Does}
use Rattle.ledger.specs.SetRate.{Averaged, GivesRate}
use Rattle.ledger.proofs.Settling.{refused, count_refused, limits_refused, goes_on}
use Rattle.state.proofs.HintPieces.{register_same}
use Rattle.state.proofs.RatePlaces.{rates_put}
use Rattle.state.proofs.Views.{hint_unseen}

-- the mean by its two tests
abbrev by_tests : Bool → Bool → ℕ → Result ℕ Refusal
by_tests a b rate = unless (first_no ((4, a) ∷ (6, b) ∷ [])) rate

is_mean : (a b : Bool) (n rate : ℕ) → by_tests a b n ≡ Ok rate → (a ≡ true) × (b ≡ true) × (rate ≡ n)
is_mean true true n rate e = (refl, refl, sym (cc e))
is_mean true false n rate e = let z : ◌≡◌ {A = ℕ} 0 1 = cc in absurd (omega arith)
is_mean false b n rate e = let z : ◌≡◌ {A = ℕ} 0 1 = cc in absurd (omega arith)

-- sixty rates have a mean, which is their rate, and at most 2500
pub mean_is : (months : List ℕ) → eqb (length months) 60 ≡ true → list_all is_rate months ≡ true → mean_of months ≡ Ok (rate_of months)
mean_is months sixty rates = rw (sixty, rates)

pub mean_small : (months : List ℕ) → eqb (length months) 60 ≡ true → list_all is_rate months ≡ true → rate_of months ≤ 2500
mean_small months sixty rates = omega (arith, sum_small months rates, eqb-true (length months) 60 sixty)

and_false : (a b : Bool) → b ≡ false → (a && b) ≡ false
and_false true b e = e
and_false false b e = refl

-- questions 4 and 6
module _ (year : ℕ) (months : List ℕ) (m : Result ℕ Refusal) (em : m ≡ mean_of months) where
  abbrev sixty : Bool
  sixty = eqb (length months) 60

  abbrev rates : Bool
  rates = list_all is_rate months

  module _ (rate : ℕ) (e : m ≡ Ok rate) (limited : Bool) (ey : limited ≡ is_year year) where
    tests : (sixty ≡ true) × (rates ≡ true) × (rate ≡ rate_of months)
    tests = is_mean sixty rates (rate_of months) rate (sym em ∙ e)

    pub averaged : limited ≡ true → Averaged year rate months
    averaged y = record { sound = record { letter = refl; lengths = tests.0; limits = rw (← ey, y) tests.1 }; mean = tests.2 }

    pub rate_on : limited ≡ true → (book : Book) (store : List ℕ) (r : Outcome) (later : List ℕ) → Settled book (set_rate year months) store r later → Does book (as_numbers (set_rate year months)) store r later
    rate_on y book store r later h = goes_on book (set_rate year months) store r (averaged y).sound later h

    pub year_refused : limited ≡ false → (book : Book) (store : List ℕ) (r : Outcome) → r ≡ refused_of book refusal.OutsideLimits → Does book (as_numbers (set_rate year months)) store r store
    year_refused y book store r er = limits_refused book (set_rate year months) store r true refl refl sixty refl tests.0 (is_within_limits (set_rate year months)) refl (rw (← ey, y)) er

  -- where there is no rate
  by_first : (a b : Bool) → sixty ≡ a → rates ≡ b → (question : Refusal) → by_tests a b (rate_of months) ≡ Err question → (book : Book) (store : List ℕ) (r : Outcome) → r ≡ refused_of book question → Does book (as_numbers (set_rate year months)) store r store
  unfolding refusal_of
  by_first true true ea eb question e book store r er = let z : ◌≡◌ {A = ℕ} 0 1 = cc in absurd (omega arith)
  by_first true false ea eb question e book store r er =
      limits_refused book (set_rate year months) store r true refl refl sixty refl ea (is_within_limits (set_rate year months)) refl (and_false (is_year year) rates eb) (er ∙ ap (refused_of book) (cc))
  by_first false b ea eb question e book store r er = count_refused book (set_rate year months) store r true refl refl sixty refl ea (er ∙ ap (refused_of book) (cc))

  pub months_refused : (question : Refusal) → m ≡ Err question → (book : Book) (store : List ℕ) (r : Outcome) → r ≡ refused_of book question → Does book (as_numbers (set_rate year months)) store r store
  months_refused question e = by_first sixty rates refl refl question (sym em ∙ e)

-- a RATE that is accepted, in either form, as the view shows it
pub rate_shown : (book : Book) (year rate : ℕ) → is_year year ≡ true → rate ≤ 2500 → length book.rates ≡ 113 → (store : List ℕ) (r : Outcome) (later : List ℕ) → GivesRate book year rate store r later
    → outcome_of r later ≡ record { book = with_rate (view book store) year rate; answer = rated year rate }
rate_shown book year rate y few len store r later g =
    rw (g.outcome, g.lent, register_same store year (half_year rate) y g.long, hint_unseen store year (half_year rate) y g.long, rates_put book.rates year rate len y few)

-- question 7
module _ (book : Book) (year rate : ℕ) (months : List ℕ) (pre : Averaged year rate months) (before : Option ℕ) (eb : before ≡ rates_of book.rates year) (store : List ℕ) (r : Outcome) where
  first_is : (o : Option ℕ) → rates_of book.rates year ≡ o → first_no (book_questions (view book store) (set_rate year months)) ≡ (if is_some o then Some 7 else None)
  unfolding book_questions
  first_is None e = rw e
  first_is (Some n) e = rw e

  pub rate_given : (old : ℕ) → before ≡ Some old → r ≡ refused_of book refusal.AlreadyGiven → Settled book (set_rate year months) store r store
  rate_given old e er =
      refused book refusal.AlreadyGiven (first_no (book_questions (view book store) (set_rate year months))) (set_rate year months) store r (first_is (Some old) (sym eb ∙ e)) er

  pub rate_set : before ≡ None → length book.rates ≡ 113 → (later : List ℕ) → GivesRate book year rate store r later → Settled book (set_rate year months) store r later
  unfolding accept book_settled store_settled
  rate_set e len later g =
      let y : is_year year ≡ true = and_left (is_year year) (list_all is_rate months) pre.sound.limits in
      let rates : list_all is_rate months ≡ true = and_right (is_year year) (list_all is_rate months) pre.sound.limits in
      rw (first_is None (sym eb ∙ e))
      record {
        outcome = rate_shown book year rate y (omega (arith, pre.mean, mean_small months pre.sound.lengths rates)) len store r later g ∙ rw pre.mean;
        own = ap (λ (o : Outcome). o.book) g.outcome ∙ rw pre.mean;
        lent = g.lent ∙ rw pre.mean;
      }
