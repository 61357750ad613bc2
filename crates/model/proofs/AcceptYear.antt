-- An accepted YEAR leaves the invariant standing, with its entry added.
-- Assumes nothing.
use Rattle.std.specs.Prelude.{is_some, unwrap_or}
use mathlib.Core.Path.{◌≡◌, refl, sym, ap, ◌∙◌, ◌≡⟨◌⟩◌, ◌∎}
use mathlib.Core.Bool.{true}
use mathlib.Core.List.{List, append-nil}
use Prim.Native.Nat.{ℕ}
use native.Mathlib.Omega.{arith}
use borrow.Author.Tests.{eq-eqb}
use lib.ListN.{take}
use lib.IntN.{ℤ, pos, ◌+ℤ◌, ◌-ℤ◌, +ℤ_assoc, +ℤ_comm, -ℤ-+ℤ_cancel}
use Rattle.model.specs.Letter.{ages}
use Rattle.model.specs.Row.{Row, rows_of}
use Rattle.model.specs.Book.{Book, Line, latest}
use Rattle.model.specs.YearEnd.{closing, opening, paid_total, loss}
use Rattle.model.specs.Call.{close_year}
use Rattle.model.specs.Question.{has_lengths, is_year_of, have_kept}
use Rattle.model.specs.Answer.{tax}
use Rattle.model.specs.Step.{with_line, with_year, with_closing}
use Rattle.model.specs.History.{Entry, payments_in, kept_in, openings_in, paid_in, losses_in}
use Rattle.model.specs.Demand.{YearHolds}
use Rattle.model.proofs.Lists.{Some≢None, is_given, put_all}
use Rattle.model.proofs.Entries.{with, payments_with, kept_with, openings_with, closed_with, losses_with, paid_with, Fresh, entry_with}
use Rattle.model.proofs.Sums.{sums_more}
use Rattle.model.proofs.Invariant.{LineHolds, Invariant, aside, all_near_with, entries_with, rates_as, months_as}
use Rattle.model.proofs.Rows.{rows_hold}
use Rattle.model.proofs.YearRows.{rows_count, paid_total_is}

-- losses x, paid q, declared opening s, last closing t, and one more loss p + c - t
add_up : (x q p c s t : ℤ) → x +ℤ s ≡ q +ℤ t → x +ℤ (p +ℤ c -ℤ t) +ℤ s ≡ q +ℤ p +ℤ c
add_up x q p c s t e =
    x +ℤ (p +ℤ c -ℤ t) +ℤ s
    ≡⟨ +ℤ_assoc x (p +ℤ c -ℤ t) s ⟩ x +ℤ (p +ℤ c -ℤ t +ℤ s)
    ≡⟨ ap (λ (w : ℤ). x +ℤ w) (+ℤ_comm (p +ℤ c -ℤ t) s) ⟩ x +ℤ (s +ℤ (p +ℤ c -ℤ t))
    ≡⟨ sym (+ℤ_assoc x s (p +ℤ c -ℤ t)) ⟩ x +ℤ s +ℤ (p +ℤ c -ℤ t)
    ≡⟨ ap (λ (w : ℤ). w +ℤ (p +ℤ c -ℤ t)) e ⟩ q +ℤ t +ℤ (p +ℤ c -ℤ t)
    ≡⟨ +ℤ_assoc q t (p +ℤ c -ℤ t) ⟩ q +ℤ (t +ℤ (p +ℤ c -ℤ t))
    ≡⟨ ap (λ (w : ℤ). q +ℤ w) (+ℤ_comm t (p +ℤ c -ℤ t) ∙ -ℤ-+ℤ_cancel (p +ℤ c) t) ⟩ q +ℤ (p +ℤ c)
    ≡⟨ sym (+ℤ_assoc q p c) ⟩ q +ℤ p +ℤ c ∎

module _ (h : List Entry) (b : Book) (letter year : ℕ) (paid : List ℤ) (unpaid tabular : List ℕ) (i : Invariant h b)
    (q4 : has_lengths (close_year letter year paid unpaid tabular) ≡ true)
    (q8 : is_some (b.lines letter).opening ≡ true)
    (q10 : is_year_of (latest (b.lines letter).kept) year ≡ true)
    (q13 : have_kept (b.lines letter).kept year 0 (take (ages letter) (rows_of paid unpaid tabular)) ≡ true) where
  abbrev rows : List Row
  rows = rows_of paid unpaid tabular

  abbrev amount : ℕ
  amount = closing letter (b.lines letter) year rows

  abbrev tax_loss : ℤ
  tax_loss = loss (paid_total rows) amount (opening (b.lines letter))

  abbrev line : Line
  line = with_closing (b.lines letter) year amount (with_year (b.lines letter).totals (paid_total rows) tax_loss)

  abbrev e : Entry
  e =
      record {
        before = b;
        call = close_year letter year paid unpaid tabular;
        answer = tax letter year (paid_total rows) (opening (b.lines letter)) amount tax_loss;
        later = with_line b letter line;
      }

  fresh : Fresh h e
  fresh = record { rates = λ y r s. refl; months = λ y m r s. refl; standing = i.entries; patterns = λ l y pay s. refl }

  year_holds : YearHolds h (b.lines letter) e.answer letter year rows
  year_holds =
      record {
        whole = rows_count letter year paid unpaid tabular q4;
        answered = unfold closing in rw (eq-eqb letter letter refl);
        each = rows_hold h letter year (b.lines letter) (i.lines letter).patterns (ages letter) 0 rows (omega arith) q13 q10;
      }

  line_holds : LineHolds (with h e) letter line
  line_holds =
      let l = i.lines letter in
      let d = is_given (b.lines letter).opening q8 in
      record {
        declared = rw (openings_with h e letter, append-nil (openings_in h letter)) l.declared;
        closed = rw (closed_with h e letter, eq-eqb letter letter refl);
        kept = rw (kept_with h e letter, append-nil (kept_in h letter)) l.kept;
        unclosed = λ u. absurd (Some≢None d.0 (sym d.1 ∙ u));
        unkept = l.unkept;
        patterns = all_near_with h e fresh letter (b.lines letter).kept l.patterns;
        newest = λ y pay more s. l.newest y pay more (rw (payments_with h e letter y, append-nil (payments_in h letter y)) at s);
        balance = rw (losses_with h e letter, paid_with h e letter, eq-eqb letter letter refl, ← paid_total_is letter year paid unpaid tabular q4)
            (add_up (losses_in h letter) (paid_in h letter) (paid_total rows) (pos amount) (pos (unwrap_or (b.lines letter).opening 0)) (pos (opening (b.lines letter))) l.balance);
        sums = sums_more h e letter (b.lines letter).totals l.sums year (paid_total rows) tax_loss (rw (eq-eqb letter letter refl)) (rw (eq-eqb letter letter refl, ← paid_total_is letter year paid unpaid tabular q4)) (rw (eq-eqb letter letter refl)) (rw (eq-eqb letter letter refl));
        zeros = λ u. absurd (Some≢None (record { year = year; closing = amount }) u);
      }

  pub accept_year : Invariant (with h e) (with_line b letter line)
  accept_year =
      record {
        rates = rates_as h b e i fresh (λ y. refl);
        months = months_as h b e i (λ y m. refl);
        months_within = i.months_within;
        lines = put_all (LineHolds (with h e)) b.lines letter line line_holds
            (λ j ne. aside h e fresh j (b.lines j) (record { no_opening = refl; no_closing = rw ne; no_payments = λ y. refl; no_kept = refl; no_year = rw ne; no_loss = rw ne; no_paid = rw ne; no_paid_answered = rw ne }) (i.lines j));
        entries = entries_with h e fresh (entry_with h e fresh b e.answer e.later e.call year_holds);
      }
