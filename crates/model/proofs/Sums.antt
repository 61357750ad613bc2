-- F-2: the sums over the accepted YEARs of a line, with one accepted record more; and the sum of a list.
-- Assumes nothing.
use Rattle.std.specs.Prelude.{None, Some, sum}
use Rattle.std.proofs.lemmas.List.Sums.{sum_by-cons}
use mathlib.Core.Path.{◌≡◌, refl, ap, ◌∙◌}
use mathlib.Core.List.{List, [], ◌∷◌, append-nil}
use Prim.Native.Nat.{ℕ, ◌+◌}
use lib.ListN.{length-append}
use lib.IntN.{ℤ, pos, +ℤ_idr}
use Rattle.model.specs.Basics as own
use Rattle.model.specs.Book.{Totals}
use Rattle.model.specs.Step.{with_year}
use Rattle.model.specs.History.{Entry, year_from, paid_from, paid_answered, loss_from, years_in, paid_in, paid_answered_in, losses_in}
use Rattle.model.specs.Demand.{Sums}
use Rattle.model.proofs.Entries.{with, years_with, paid_with, paid_answered_with, losses_with}

module _ (h : List Entry) (e : Entry) (letter : ℕ) (figures : Totals) (s : Sums h letter figures) where
  -- no YEAR of the line
  pub sums_same : year_from letter e.call ≡ None → paid_from letter e.call ≡ pos 0 → paid_answered letter e.answer ≡ pos 0 → loss_from letter e.answer ≡ pos 0 → Sums (with h e) letter figures
  sums_same y p a l =
      record {
        years = rw (years_with h e letter, y, append-nil (years_in h letter)) s.years;
        paid = rw (paid_with h e letter, p, +ℤ_idr (paid_in h letter)) s.paid;
        paid_answered = rw (paid_answered_with h e letter, a, +ℤ_idr (paid_answered_in h letter)) s.paid_answered;
        losses = rw (losses_with h e letter, l, +ℤ_idr (losses_in h letter)) s.losses;
      }

  -- a YEAR of the line
  pub sums_more : (year : ℕ) (paid tax_loss : ℤ) → year_from letter e.call ≡ Some year → paid_from letter e.call ≡ paid → paid_answered letter e.answer ≡ paid → loss_from letter e.answer ≡ tax_loss
      → Sums (with h e) letter (with_year figures paid tax_loss)
  sums_more year paid tax_loss y p a l =
      record {
        years = rw (years_with h e letter, y, length-append, s.years);
        paid = rw (paid_with h e letter, p, s.paid);
        paid_answered = rw (paid_answered_with h e letter, a, s.paid_answered);
        losses = rw (losses_with h e letter, l, s.losses);
      }

-- the library's sum is the model's
pub sum_is : (xs : List ℕ) → sum xs ≡ own.sum xs
sum_is [] = refl
sum_is (x ∷ xs) = sum_by-cons (λ n. n) x xs ∙ ap (λ s. x + s) (sum_is xs)
