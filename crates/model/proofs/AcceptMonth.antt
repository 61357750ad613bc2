-- An accepted MIDT leaves the invariant standing, with its entry added.
-- Assumes nothing.
use Rattle.std.specs.Prelude.{if◌then◌else◌, None, Some, is_some}
use mathlib.Core.Path.{◌≡◌, refl, sym, ap, ◌∙◌}
use mathlib.Core.Bool.{Bool, true, false, not, ◌&&◌}
use mathlib.Core.List.{List, [], ◌∷◌, append-nil}
use Prim.Native.Nat.{ℕ}
use borrow.Author.Tests.{eq-eqb, eqb-true}
use lib.Dec.{eqb}
use Rattle.model.specs.Basics.{put}
use Rattle.std.specs.List.{list_all}
use Rattle.model.specs.Kind.{is_rate}
use Rattle.model.specs.Book.{Book}
use Rattle.model.specs.Call.{register_month}
use Rattle.model.specs.Answer.{registered}
use Rattle.model.specs.Step.{with_month}
use Rattle.model.specs.History.{Entry, listed, months_in}
use Rattle.model.proofs.Lists.{cons≢nil, not_given, put_all}
use Rattle.model.proofs.Entries.{with, months_with, Fresh}
use Rattle.model.proofs.Invariant.{Invariant, aside, entries_with, rates_as}

module _ (h : List Entry) (b : Book) (year month rate : ℕ) (i : Invariant h b) (q6 : is_rate rate ≡ true) (q7 : not (is_some (b.register year month)) ≡ true) where
  abbrev e : Entry
  e = record { before = b; call = register_month year month rate; answer = registered year month rate; later = with_month b year month rate }

  fresh_at : (y m r : ℕ) (s t : Bool) → eqb y year ≡ s → eqb m month ≡ t → months_in h y m ≡ r ∷ [] → (if s && t then Some rate else None) ≡ None
  fresh_at y m r true true ey em g =
      let q : b.register y m ≡ None = rw (eqb-true y year ey, eqb-true m month em) (not_given (b.register year month) q7) in
      absurd (cons≢nil r [] (sym g ∙ i.months y m ∙ ap listed q))
  fresh_at y m r true false ey em g = refl
  fresh_at y m r false t ey em g = refl

  fresh : Fresh h e
  fresh = record { rates = λ y r s. refl; months = λ y m r g. fresh_at y m r (eqb y year) (eqb m month) refl refl g; standing = i.entries; patterns = λ l y pay s. refl }

  -- the months of its year, and of another
  this_year : (m : ℕ) → months_in (with h e) year m ≡ listed (put (b.register year) month (Some rate) m)
  this_year =
      put_all (λ m o. months_in (with h e) year m ≡ listed o) (b.register year) month (Some rate)
      (rw (months_with h e year month, i.months year month, not_given (b.register year month) q7, eq-eqb year year refl, eq-eqb month month refl))
      (λ m ne. rw (months_with h e year m, eq-eqb year year refl, ne, append-nil (months_in h year m)) (i.months year m))

  other_year : (y : ℕ) → eqb y year ≡ false → (m : ℕ) → months_in (with h e) y m ≡ listed (b.register y m)
  other_year y ne m = rw (months_with h e y m, ne, append-nil (months_in h y m)) (i.months y m)

  pub accept_month : Invariant (with h e) (with_month b year month rate)
  accept_month =
      record {
        rates = rates_as h b e i fresh (λ y. refl);
        months = put_all (λ y months. (m : ℕ) → months_in (with h e) y m ≡ listed (months m)) b.register year (put (b.register year) month (Some rate)) this_year other_year;
        months_within = put_all (λ y months. (m : ℕ) → list_all is_rate (listed (months m)) ≡ true) b.register year (put (b.register year) month (Some rate))
            (put_all (λ m o. list_all is_rate (listed o) ≡ true) (b.register year) month (Some rate) (rw q6) (λ m ne. i.months_within year m))
            (λ y ne. i.months_within y);
        lines = λ j. aside h e fresh j (b.lines j) (record { no_opening = refl; no_closing = refl; no_payments = λ y. refl; no_kept = refl; no_year = refl; no_loss = refl; no_paid = refl; no_paid_answered = refl }) (i.lines j);
        entries = entries_with h e fresh tt;
      }
