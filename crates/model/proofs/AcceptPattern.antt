-- An accepted PATT leaves the invariant standing, with its entry added.
-- Assumes nothing.
use Rattle.std.specs.Prelude.{if◌then◌else◌, Option, None, Some, is_some, unwrap_or}
use mathlib.Core.Path.{◌≡◌, refl, sym, ap, ◌∙◌}
use mathlib.Core.Bool.{Bool, true, false, ◌&&◌}
use mathlib.Core.List.{List, [], ◌∷◌, ◌++◌, map, reverse, reverse-append, append-nil}
use Prim.Native.Nat.{ℕ, zero, suc, ◌<◌}
use native.Mathlib.Omega.{arith}
use borrow.Author.Tests.{eq-eqb, eqb-true}
use lib.Dec.{eqb}
use lib.ListN.{length, take}
use lib.IntN.{+ℤ_idr}
use Rattle.model.specs.Basics.{Every}
use Rattle.model.specs.Letter.{ages}
use Rattle.model.specs.Published.{published}
use Rattle.model.specs.Pattern.{ages_of}
use Rattle.model.specs.Tail.{schedule}
use Rattle.model.specs.Book.{Book, Line, Kept, Closed, latest}
use Rattle.model.specs.Call.{add_pattern}
use Rattle.model.specs.Question.{follows, last_is_closed}
use Rattle.model.specs.Answer.{fact}
use Rattle.model.specs.Step.{with_line, kept_pattern, with_pattern}
use Rattle.model.specs.History.{Entry, listed, payments_in, kept_in, openings_in, paid_in, losses_in}
use Rattle.model.specs.Demand.{Given, KeptNear, PatternHolds}
use Rattle.model.proofs.Lists.{Some≢None, cons≢nil, is_given, and_left, every_take, put_all, take_again}
use Rattle.model.proofs.Near.{composite_near}
use Rattle.model.proofs.Ages.{Sized, schedule_sized, ages_positive, kept_count, kept_near, worked_near}
use Rattle.model.proofs.Entries.{with, rates_with, payments_with, kept_with, openings_with, closed_with, losses_with, paid_with, Fresh}
use Rattle.model.proofs.Sums.{sums_same}
use Rattle.model.proofs.Invariant.{Reached, LineHolds, Invariant, aside, all_near_with, entries_with, rates_as, months_as}

-- a pattern that is in turn is of a later year than any before it
after_last : (last : Option Kept) (closed : Option Closed) (year : ℕ) → follows last closed year ≡ true → (y : ℕ) → Reached last y → y < year
after_last None closed year q y r = absurd (Some≢None r.pattern (sym r.is))
after_last (Some p) closed year q y r =
    let e : year ≡ suc p.year = eqb-true year (suc p.year) (and_left (eqb year (suc p.year)) (last_is_closed closed p.year) q) in
    let s : p ≡ r.pattern = cc r.is in
    let t : p.year ≡ r.pattern.year = ap (λ (x : Kept). x.year) s in
    omega arith

kept_first : (n : ℕ) (p : Kept) (kept : List Kept) → 0 < n → latest (take n (p ∷ kept)) ≡ Some p
kept_first zero p kept lt = absurd (omega arith)
kept_first (suc n) p kept lt = refl

module _ (h : List Entry) (b : Book) (letter year : ℕ) (paid incurred : List ℕ) (i : Invariant h b)
    (q4 : length (ages_of paid incurred) ≡ ages letter)
    (q8 : is_some (b.lines letter).opening ≡ true)
    (q9 : is_some (b.rates year) ≡ true)
    (q10 : follows (latest (b.lines letter).kept) (b.lines letter).closed year ≡ true) where
  abbrev rate : ℕ
  rate = unwrap_or (b.rates year) 0

  abbrev pay : List ℕ
  pay = schedule letter (ages_of paid incurred)

  abbrev pattern : Kept
  pattern = kept_pattern letter year rate pay

  abbrev line : Line
  line = with_pattern letter (b.lines letter) pattern

  abbrev e : Entry
  e =
      record {
        before = b;
        call = add_pattern letter year paid incurred;
        answer = fact letter year (map published pattern.factors) (published pattern.composite);
        later = with_line b letter line;
      }

  sized : Sized letter pay
  sized = schedule_sized letter (ages_of paid incurred) q4

  keeps : latest line.kept ≡ Some pattern
  keeps = kept_first (ages letter) pattern _ (ages_positive letter)

  first_time : (found : List (List ℕ)) → payments_in h letter year ≡ found → found ≡ []
  first_time [] e = refl
  first_time (old ∷ more) e = absurd (omega (arith, after_last _ _ year q10 year ((i.lines letter).newest year old more e)))

  fresh_at : (l y : ℕ) (ps : List ℕ) (s t : Bool) → eqb l letter ≡ s → eqb y year ≡ t → payments_in h l y ≡ ps ∷ [] → (if s && t then Some pay else None) ≡ None
  fresh_at l y ps true true el ey p =
      let q : payments_in h letter year ≡ ps ∷ [] = rw (← eqb-true l letter el, ← eqb-true y year ey) p in
      absurd (cons≢nil ps [] (sym q ∙ first_time (payments_in h letter year) refl))
  fresh_at l y ps true false el ey p = refl
  fresh_at l y ps false t el ey p = refl

  fresh : Fresh h e
  fresh = record { rates = λ y r s. refl; months = λ y m r s. refl; standing = i.entries; patterns = λ l y ps s. fresh_at l y ps (eqb l letter) (eqb y year) refl refl s }

  source : Given (with h e) letter year rate pay
  source =
      let s = is_given (b.rates year) q9 in
      record {
        from_rate = rw (rates_with h e fresh year, i.rates year, s.1);
        from_pattern = rw (payments_with h e letter year, first_time (payments_in h letter year) refl, eq-eqb letter letter refl, eq-eqb year year refl);
      }

  near : KeptNear (with h e) letter pattern
  near =
      record {
        rate = rate;
        pay = pay;
        source = source;
        count = kept_count letter rate pay sized;
        kept_near = kept_near letter rate pay sized;
        worked_near = worked_near rate pay sized.short;
        composite_near = composite_near letter rate pay sized.short;
      }

  all_near : Every (KeptNear (with h e) letter) line.kept
  all_near =
      every_take (KeptNear (with h e) letter) (ages letter) (pattern ∷ (b.lines letter).kept) (near, all_near_with h e fresh letter (b.lines letter).kept (i.lines letter).patterns)

  kept_is : line.kept ≡ take (ages letter) (reverse (kept_in (with h e) letter))
  kept_is =
      rw (kept_with h e letter, eq-eqb letter letter refl, keeps, reverse-append (kept_in h letter) (pattern ∷ []), (i.lines letter).kept)
      (take_again (ages letter) pattern (reverse (kept_in h letter)))

  newest_at : (y : ℕ) (ps : List ℕ) (more found : List (List ℕ)) (t : Bool) → payments_in h letter y ≡ found → eqb y year ≡ t → found ++ listed (if t then Some pay else None) ≡ ps ∷ more → Reached (latest line.kept) y
  newest_at y ps more [] true e et s = record { pattern = pattern; is = keeps; by = omega (arith, eqb-true y year et) }
  newest_at y ps more [] false e et s = absurd (cons≢nil ps more (sym s))
  newest_at y ps more (old ∷ older) t e et s = record { pattern = pattern; is = keeps; by = omega (arith, after_last _ _ year q10 y ((i.lines letter).newest y old older e)) }

  line_holds : LineHolds (with h e) letter line
  line_holds =
      let l = i.lines letter in
      let d = is_given (b.lines letter).opening q8 in
      record {
        declared = rw (openings_with h e letter, append-nil (openings_in h letter)) l.declared;
        closed = rw (closed_with h e letter) l.closed;
        kept = kept_is;
        unclosed = l.unclosed;
        unkept = λ u. absurd (Some≢None d.0 (sym d.1 ∙ u));
        patterns = all_near;
        newest = λ y ps more s. newest_at y ps more (payments_in h letter y) (eqb y year) refl refl (rw (payments_with h e letter y, eq-eqb letter letter refl) at s);
        balance = rw (losses_with h e letter, paid_with h e letter, +ℤ_idr (losses_in h letter), +ℤ_idr (paid_in h letter)) l.balance;
        sums = sums_same h e letter (b.lines letter).totals l.sums refl refl refl refl;
        zeros = l.zeros;
      }

  pattern_holds : PatternHolds (with h e) line letter year
  pattern_holds = record { pattern = pattern; keeps = keeps; of_year = refl; near = near }

  pub accept_pattern : Invariant (with h e) (with_line b letter line)
  accept_pattern =
      record {
        rates = rates_as h b e i fresh (λ y. refl);
        months = months_as h b e i (λ y m. refl);
        months_within = i.months_within;
        lines = put_all (LineHolds (with h e)) b.lines letter line line_holds
            (λ j ne. aside h e fresh j (b.lines j) (record { no_opening = refl; no_closing = refl; no_payments = λ y. rw ne; no_kept = rw ne; no_year = refl; no_loss = refl; no_paid = refl; no_paid_answered = refl }) (i.lines j));
        entries = entries_with h e fresh (rw (eq-eqb letter letter refl) pattern_holds);
      }
