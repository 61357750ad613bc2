-- An accepted RATE, in either form, leaves the invariant standing, with its entry added.
-- Assumes nothing.
use Rattle.std.specs.Prelude.{if◌then◌else◌, None, Some, is_some}
use mathlib.Core.Path.{◌≡◌, refl, sym, ap, ◌∙◌}
use mathlib.Core.Bool.{Bool, true, false, not}
use mathlib.Core.List.{List, [], ◌∷◌, map, append-nil}
use Prim.Native.Nat.{ℕ}
use borrow.Author.Tests.{eq-eqb, eqb-true}
use lib.Dec.{eqb}
use Rattle.model.specs.Basics.{joined}
use Rattle.std.specs.List.{list_all}
use Rattle.model.specs.Rate.{rate_of, sixty_months}
use Rattle.model.specs.Book.{Book}
use Rattle.model.specs.Call.{set_rate, set_rate_from_register}
use Rattle.model.specs.Answer.{rated}
use Rattle.model.specs.Step.{with_rate, months_taken}
use Rattle.model.specs.History.{Entry, listed, rate_from, month_from, months_in, taken_in, rates_in}
use Rattle.model.proofs.Lists.{cons≢nil, not_given, put_all}
use Rattle.model.proofs.Months.{one, dates, joined_ones, given_ones}
use Rattle.model.proofs.Entries.{with, rates_with, Holding, Fresh}
use Rattle.model.proofs.Invariant.{Aside, Invariant, aside, entries_with, months_as}

module _ (h : List Entry) (b : Book) (year rate : ℕ) (i : Invariant h b) (q7 : not (is_some (b.rates year)) ≡ true) where
  fresh_at : (y r : ℕ) (t : Bool) → eqb y year ≡ t → rates_in h y ≡ r ∷ [] → (if t then Some rate else None) ≡ None
  fresh_at y r true e s =
      let q : b.rates y ≡ None = rw (eqb-true y year e) (not_given (b.rates year) q7) in
      absurd (cons≢nil r [] (sym s ∙ i.rates y ∙ ap listed q))
  fresh_at y r false e s = refl

  -- an entry that gives the year this rate and says nothing else
  module _ (e : Entry) (gives : (y : ℕ) → rate_from (taken_in (with h e)) y e.call ≡ (if eqb y year then Some rate else None)) (no_month : (y m : ℕ) → month_from y m e.call ≡ None) (nothing : (letter : ℕ) → Aside e letter) where
    fresh : Fresh h e
    fresh =
        record {
          rates = λ y r s. gives y ∙ fresh_at y r (eqb y year) refl s;
          months = λ y m r s. no_month y m;
          standing = i.entries;
          patterns = λ l y pay s. (nothing l).no_payments y;
        }

    rate_put : Holding (with h e) e → Invariant (with h e) (with_rate b year rate)
    rate_put holds =
        record {
          rates = put_all (λ y o. rates_in (with h e) y ≡ listed o) b.rates year (Some rate)
              (rw (rates_with h e fresh year, gives year, i.rates year, not_given (b.rates year) q7, eq-eqb year year refl))
              (λ j ne. rw (rates_with h e fresh j, gives j, ne, append-nil (rates_in h j)) (i.rates j));
          months = months_as h b e i no_month;
          months_within = i.months_within;
          lines = λ j. aside h e fresh j (b.lines j) (nothing j) (i.lines j);
          entries = entries_with h e fresh holds;
        }

-- "RATE, year, sixty rates"
pub accept_rate : (h : List Entry) (b : Book) (year : ℕ) (months : List ℕ) → Invariant h b → not (is_some (b.rates year)) ≡ true
    → Invariant (with h (record { before = b; call = set_rate year months; answer = rated year (rate_of months); later = with_rate b year (rate_of months) })) (with_rate b year (rate_of months))
accept_rate h b year months i q7 =
    let e : Entry = record { before = b; call = set_rate year months; answer = rated year (rate_of months); later = with_rate b year (rate_of months) } in
    rate_put h b year (rate_of months) i q7 e (λ y. refl) (λ y m. refl)
    (λ j. record { no_opening = refl; no_closing = refl; no_payments = λ y. refl; no_kept = refl; no_year = refl; no_loss = refl; no_paid = refl; no_paid_answered = refl })
    tt

-- "RATE with a year alone"
module _ (h : List Entry) (b : Book) (year : ℕ) (held : (y m : ℕ) → months_in h y m ≡ listed (b.register y m)) (q14 : list_all is_some (sixty_months b.register year) ≡ true) where
  -- the accepted MIDTs give the months that the register holds, one for each
  pub sixty_given : sixty_months (months_in h) year ≡ map one (months_taken b year)
  sixty_given = months_same (dates year) ∙ given_ones (sixty_months b.register year) q14
    where
      months_same : (list : List (ℕ × ℕ)) → map (λ date. months_in h date.0 date.1) list ≡ map listed (map (λ date. b.register date.0 date.1) list)
      months_same [] = refl
      months_same (date ∷ list) = rw (held date.0 date.1, months_same list)

  pub all_taken : taken_in h year ≡ months_taken b year
  unfolding taken_in
  all_taken = ap joined sixty_given ∙ joined_ones (months_taken b year)

pub accept_rate_from_register : (h : List Entry) (b : Book) (year : ℕ) → Invariant h b → not (is_some (b.rates year)) ≡ true → list_all is_some (sixty_months b.register year) ≡ true
    → let rate = rate_of (months_taken b year) in Invariant (with h (record { before = b; call = set_rate_from_register year; answer = rated year rate; later = with_rate b year rate })) (with_rate b year rate)
accept_rate_from_register h b year i q7 q14 =
    let months : List ℕ = months_taken b year in
    let rate : ℕ = rate_of months in
    let e : Entry = record { before = b; call = set_rate_from_register year; answer = rated year rate; later = with_rate b year rate } in
    let held = months_as h b e i (λ y m. refl) in
    rate_put h b year rate i q7 e (λ y. rw (all_taken (with h e) b year held q14)) (λ y m. refl)
    (λ j. record { no_opening = refl; no_closing = refl; no_payments = λ y. refl; no_kept = refl; no_year = refl; no_loss = refl; no_paid = refl; no_paid_answered = refl })
    (record { months = months; from_months = sixty_given (with h e) b year held q14; answered = refl })
