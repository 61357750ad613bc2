-- An accepted SUM leaves the invariant standing, with its entry added, whatever it answers.
-- Assumes nothing.
use mathlib.Core.Path.{refl}
use mathlib.Core.List.{List}
use Prim.Native.Nat.{ℕ}
use lib.IntN.{ℤ}
use Rattle.model.specs.Book.{Book}
use Rattle.model.specs.Call.{totals}
use Rattle.model.specs.Answer.{summed}
use Rattle.model.specs.Step.{counted}
use Rattle.model.specs.History.{Entry}
use Rattle.model.proofs.Entries.{with, Fresh}
use Rattle.model.proofs.Invariant.{Invariant, aside, entries_with, rates_as, months_as}

module _ (h : List Entry) (b : Book) (letter years : ℕ) (paid losses : ℤ) (i : Invariant h b) where
  abbrev e : Entry
  e = record { before = b; call = totals letter; answer = summed letter years paid losses; later = counted b }

  fresh : Fresh h e
  fresh = record { rates = λ y r s. refl; months = λ y m r s. refl; standing = i.entries; patterns = λ l y pay s. refl }

  pub accept_totals : Invariant (with h e) (counted b)
  accept_totals =
      record {
        rates = rates_as h b e i fresh (λ y. refl);
        months = months_as h b e i (λ y m. refl);
        months_within = i.months_within;
        lines = λ j. aside h e fresh j (b.lines j) (record { no_opening = refl; no_closing = refl; no_payments = λ y. refl; no_kept = refl; no_year = refl; no_loss = refl; no_paid = refl; no_paid_answered = refl }) (i.lines j);
        entries = entries_with h e fresh tt;
      }
