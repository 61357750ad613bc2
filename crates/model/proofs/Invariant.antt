-- What ties the book to the accepted records so far, and that a record of another line leaves a line's part of it standing.
-- Assumes nothing.
use Rattle.std.specs.Prelude.{Option, None, Some, unwrap_or}
use mathlib.Core.Bool.{true}
use mathlib.Core.Path.{◌≡◌}
use mathlib.Core.List.{List, [], ◌∷◌, reverse, append-nil}
use Prim.Native.Nat.{ℕ, ◌≤◌}
use lib.ListN.{take}
use lib.IntN.{pos, ◌+ℤ◌, +ℤ_idr}
use Rattle.model.specs.Basics.{Every}
use Rattle.std.specs.List.{list_all}
use Rattle.model.specs.Kind.{is_rate}
use Rattle.model.specs.Letter.{ages}
use Rattle.model.specs.Book.{Book, no_totals, Line, Kept, latest}
use Rattle.model.specs.YearEnd.{opening}
use Rattle.model.specs.History.{Entry, listed, rate_from, month_from, payments_from, kept_from, declared_from, year_from, paid_from, paid_answered, loss_from, closed_from, months_in, taken_in, rates_in, payments_in, kept_in, openings_in, paid_in, losses_in, closed_in}
use Rattle.model.specs.Demand.{Sums, KeptNear}
use Rattle.model.proofs.Lists.{every_map, every_snoc}
use Rattle.model.proofs.Sums.{sums_same}
use Rattle.model.proofs.Entries.{with, months_with, rates_with, payments_with, kept_with, openings_with, closed_with, losses_with, paid_with, Holding, Fresh, kept_near_with, entry_with}

-- the last kept pattern is of that year or of a later one
pub record Reached (last : Option Kept) (year : ℕ) : Type 0 where
  pub pattern : Kept
  pub is : last ≡ Some pattern
  pub by : year ≤ pattern.year

pub record LineHolds (h : List Entry) (letter : ℕ) (line : Line) : Type 0 where
  pub declared : openings_in h letter ≡ listed line.opening
  pub closed : line.closed ≡ closed_in h letter
  pub kept : line.kept ≡ take (ages letter) (reverse (kept_in h letter))
  pub unclosed : line.opening ≡ None → line.closed ≡ None
  pub unkept : line.opening ≡ None → line.kept ≡ []
  pub patterns : Every (KeptNear h letter) line.kept
  pub newest : (year : ℕ) (pay : List ℕ) (more : List (List ℕ)) → payments_in h letter year ≡ pay ∷ more → Reached (latest line.kept) year
  pub balance : losses_in h letter +ℤ pos (unwrap_or line.opening 0) ≡ paid_in h letter +ℤ pos (opening line)
  pub sums : Sums h letter line.totals
  pub zeros : line.closed ≡ None → line.totals ≡ no_totals

pub record Invariant (h : List Entry) (b : Book) : Type 0 where
  pub rates : (year : ℕ) → rates_in h year ≡ listed (b.rates year)
  pub months : (year month : ℕ) → months_in h year month ≡ listed (b.register year month)
  pub months_within : (year month : ℕ) → list_all is_rate (listed (b.register year month)) ≡ true
  pub lines : (letter : ℕ) → LineHolds h letter (b.lines letter)
  pub entries : Every (Holding h) h

-- an entry that says nothing of the line
pub record Aside (e : Entry) (letter : ℕ) : Type 0 where
  pub no_opening : declared_from letter e.call ≡ None
  pub no_closing : closed_from letter e.answer ≡ None
  pub no_payments : (year : ℕ) → payments_from letter year e.call ≡ None
  pub no_kept : kept_from letter e.call e.later ≡ None
  pub no_year : year_from letter e.call ≡ None
  pub no_loss : loss_from letter e.answer ≡ pos 0
  pub no_paid : paid_from letter e.call ≡ pos 0
  pub no_paid_answered : paid_answered letter e.answer ≡ pos 0

module _ (h : List Entry) (e : Entry) (fresh : Fresh h e) where
  pub all_near_with : (letter : ℕ) (kept : List Kept) → Every (KeptNear h letter) kept → Every (KeptNear (with h e) letter) kept
  all_near_with letter kept near = every_map (KeptNear h letter) (KeptNear (with h e) letter) (kept_near_with h e fresh letter) kept near

  pub aside : (letter : ℕ) (line : Line) → Aside e letter → LineHolds h letter line → LineHolds (with h e) letter line
  aside letter line a l =
      record {
        declared = rw (openings_with h e letter, a.no_opening, append-nil (openings_in h letter)) l.declared;
        closed = rw (closed_with h e letter, a.no_closing) l.closed;
        kept = rw (kept_with h e letter, a.no_kept, append-nil (kept_in h letter)) l.kept;
        unclosed = l.unclosed;
        unkept = l.unkept;
        patterns = all_near_with letter line.kept l.patterns;
        newest = λ year pay more s. l.newest year pay more (rw (payments_with h e letter year, a.no_payments year, append-nil (payments_in h letter year)) at s);
        balance = rw (losses_with h e letter, paid_with h e letter, a.no_loss, a.no_paid, +ℤ_idr (losses_in h letter), +ℤ_idr (paid_in h letter)) l.balance;
        sums = sums_same h e letter line.totals l.sums a.no_year a.no_paid a.no_paid_answered a.no_loss;
        zeros = l.zeros;
      }

  -- the earlier entries, and the new one
  pub entries_with : Holding (with h e) e → Every (Holding (with h e)) (with h e)
  entries_with n =
      every_snoc (Holding (with h e)) h e
      (every_map (Holding h) (Holding (with h e)) (λ x. entry_with h e fresh x.before x.answer x.later x.call) h fresh.standing)
      n

-- an entry that gives no rate, or no month
pub rates_as : (h : List Entry) (b : Book) (e : Entry) → Invariant h b → Fresh h e → ((year : ℕ) → rate_from (taken_in (with h e)) year e.call ≡ None) → (year : ℕ) → rates_in (with h e) year ≡ listed (b.rates year)
rates_as h b e i fresh n year = rw (rates_with h e fresh year, n year, append-nil (rates_in h year)) (i.rates year)

pub months_as : (h : List Entry) (b : Book) (e : Entry) → Invariant h b → ((year month : ℕ) → month_from year month e.call ≡ None) → (year month : ℕ) → months_in (with h e) year month ≡ listed (b.register year month)
months_as h b e i n year month = rw (months_with h e year month, n year month, append-nil (months_in h year month)) (i.months year month)
