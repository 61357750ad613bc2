-- An accepted LINE leaves the invariant standing, with its entry added.
-- Assumes nothing.
use Rattle.std.specs.Prelude.{None, is_some}
use mathlib.Core.Path.{◌≡◌, refl, sym}
use mathlib.Core.Bool.{true, not}
use mathlib.Core.List.{List, [], append-nil}
use Prim.Native.Nat.{ℕ}
use borrow.Author.Tests.{eq-eqb}
use lib.IntN.{pos, ◌+ℤ◌, +ℤ_idr}
use Rattle.model.specs.Book.{Book, no_totals}
use Rattle.model.specs.Call.{declare}
use Rattle.model.specs.Answer.{declared}
use Rattle.model.specs.Step.{with_line, declared_line}
use Rattle.model.specs.History.{Entry, payments_in, kept_in, paid_in, losses_in}
use Rattle.model.proofs.Lists.{Some≢None, not_given, put_all}
use Rattle.model.proofs.Entries.{with, payments_with, kept_with, openings_with, closed_with, losses_with, paid_with, Fresh}
use Rattle.model.proofs.Sums.{sums_same}
use Rattle.model.proofs.Invariant.{LineHolds, Invariant, aside, entries_with, rates_as, months_as}

module _ (h : List Entry) (b : Book) (letter amount : ℕ) (i : Invariant h b) (q7 : not (is_some (b.lines letter).opening) ≡ true) where
  abbrev e : Entry
  e = record { before = b; call = declare letter amount; answer = declared letter amount; later = with_line b letter (declared_line amount) }

  fresh : Fresh h e
  fresh = record { rates = λ y r s. refl; months = λ y m r s. refl; standing = i.entries; patterns = λ l y pay s. refl }

  holds : LineHolds (with h e) letter (declared_line amount)
  holds =
      let l = i.lines letter in
      let u : (b.lines letter).opening ≡ None = not_given (b.lines letter).opening q7 in
      let c : (b.lines letter).closed ≡ None = l.unclosed u in
      let k : (b.lines letter).kept ≡ [] = l.unkept u in
      let z : losses_in h letter +ℤ pos 0 ≡ paid_in h letter +ℤ pos 0 = rw (u, c) at l.balance in
      let z2 : losses_in h letter ≡ paid_in h letter = rw (+ℤ_idr (losses_in h letter), +ℤ_idr (paid_in h letter)) at z in
      record {
        declared = rw (openings_with h e letter, l.declared, u, eq-eqb letter letter refl);
        closed = rw (closed_with h e letter, ← l.closed, c);
        kept = rw (kept_with h e letter, append-nil (kept_in h letter), ← l.kept, k);
        unclosed = λ s. refl;
        unkept = λ s. refl;
        patterns = tt;
        newest = λ year pay more s.
            let r = l.newest year pay more (rw (payments_with h e letter year, append-nil (payments_in h letter year)) at s) in
            absurd (Some≢None r.pattern (sym (rw k at r.is)));
        balance = rw (losses_with h e letter, paid_with h e letter, +ℤ_idr (losses_in h letter), +ℤ_idr (paid_in h letter), z2);
        sums = sums_same h e letter no_totals (rw (← l.zeros c) l.sums) refl refl refl refl;
        zeros = λ s. refl;
      }

  pub accept_line : Invariant (with h e) (with_line b letter (declared_line amount))
  accept_line =
      record {
        rates = rates_as h b e i fresh (λ y. refl);
        months = months_as h b e i (λ y m. refl);
        months_within = i.months_within;
        lines = put_all (LineHolds (with h e)) b.lines letter (declared_line amount) holds
            (λ j ne. aside h e fresh j (b.lines j) (record { no_opening = rw ne; no_closing = refl; no_payments = λ y. refl; no_kept = refl; no_year = refl; no_loss = refl; no_paid = refl; no_paid_answered = refl }) (i.lines j));
        entries = entries_with h e fresh tt;
      }
