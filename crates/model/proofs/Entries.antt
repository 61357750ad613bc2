-- The terms of demand 3 with one accepted record more.
-- Assumes nothing.
use Rattle.std.specs.Prelude.{if◌then◌else◌, Option, None, Some}
use mathlib.Core.Path.{◌≡◌, refl, sym, ap}
use mathlib.Core.List.{List, [], ◌∷◌, ◌++◌, map, append_assoc, append-nil}
use mathlib.Core.Logic.{⊎_elim}
use Prim.Native.Nat.{ℕ, ◌<◌}
use native.Mathlib.Nat.{eq-zero-or-pos}
use lib.Dec.{eqb}
use lib.IntN.{ℤ, ◌+ℤ◌, +ℤ_assoc, +ℤ_idl, +ℤ_idr}
use mathlib.Core.Path.{◌∙◌}
use Rattle.model.specs.Basics.{total, joined, Every}
use Rattle.model.specs.Rate.{rate_of, sixty_months}
use Rattle.model.specs.Row.{Row, rows_of, gross}
use Rattle.model.specs.Book.{Book, Line, Kept}
use Rattle.model.specs.YearEnd.{discounted_row}
use Rattle.model.specs.Call.{Call, declare, set_rate, add_pattern, close_year, totals, register_month, set_rate_from_register}
use Rattle.model.specs.Answer.{Answer}
use Rattle.model.specs.History.{Entry, listed, gather, or_else, last_of, rate_from, month_from, payments_from, kept_from, declared_from, year_from, paid_from, paid_answered, loss_from, closed_from, months_in, taken_in, rates_in, payments_in, kept_in, openings_in, years_in, paid_in, paid_answered_in, losses_in, closed_in}
use Rattle.model.specs.Demand.{Given, KeptNear, PatternHolds, RowHolds, RateHolds, EntryHolds, row_year, row_exact}
use Rattle.model.proofs.Lists.{only, every_map, every_at_map}
use Rattle.model.proofs.Months.{one, dates, ones_same}
use Rattle.model.proofs.RowBound.{nothing_near}

or_assoc : {A : Type 0} (a b c : Option A) → or_else a (or_else b c) ≡ or_else (or_else a b) c
or_assoc None b c = refl
or_assoc (Some a) b c = refl

or_none : {A : Type 0} (a : Option A) → or_else a None ≡ a
or_none None = refl
or_none (Some a) = refl

gather_snoc : {A : Type 0} (f : Entry → Option A) (h : List Entry) (e : Entry) → gather f (h ++ (e ∷ [])) ≡ gather f h ++ listed (f e)
gather_snoc f [] e = append-nil (listed (f e))
gather_snoc f (x ∷ h) e = rw (gather_snoc f h e) (sym (append_assoc (listed (f x)) (gather f h) (listed (f e))))

gather_same : {A : Type 0} (f g : Entry → Option A) (h : List Entry) → Every (λ e. f e ≡ g e) h → gather f h ≡ gather g h
gather_same f g [] all = refl
gather_same f g (x ∷ h) all = rw (all.0, gather_same f g h all.1)

last_snoc : {A : Type 0} (f : Entry → Option A) (h : List Entry) (e : Entry) → last_of f (h ++ (e ∷ [])) ≡ or_else (f e) (last_of f h)
last_snoc f [] e = sym (or_none (f e))
last_snoc f (x ∷ h) e = rw (last_snoc f h e) (sym (or_assoc (f e) (last_of f h) (f x)))

total_snoc : (f : Entry → ℤ) (h : List Entry) (e : Entry) → total f (h ++ (e ∷ [])) ≡ total f h +ℤ f e
total_snoc f [] e = +ℤ_idr (f e) ∙ sym (+ℤ_idl (f e))
total_snoc f (x ∷ h) e = rw (total_snoc f h e) (sym (+ℤ_assoc (f x) (total f h) (f e)))

-- one entry more
abbrev pub with : List Entry → Entry → List Entry
with h e = h ++ (e ∷ [])

module _ (h : List Entry) (e : Entry) where
  pub months_with : (year month : ℕ) → months_in (with h e) year month ≡ months_in h year month ++ listed (month_from year month e.call)
  unfolding months_in
  months_with year month = gather_snoc (λ x. month_from year month x.call) h e

  pub payments_with : (letter year : ℕ) → payments_in (with h e) letter year ≡ payments_in h letter year ++ listed (payments_from letter year e.call)
  unfolding payments_in
  payments_with letter year = gather_snoc (λ x. payments_from letter year x.call) h e

  pub kept_with : (letter : ℕ) → kept_in (with h e) letter ≡ kept_in h letter ++ listed (kept_from letter e.call e.later)
  unfolding kept_in
  kept_with letter = gather_snoc (λ x. kept_from letter x.call x.later) h e

  pub openings_with : (letter : ℕ) → openings_in (with h e) letter ≡ openings_in h letter ++ listed (declared_from letter e.call)
  unfolding openings_in
  openings_with letter = gather_snoc (λ x. declared_from letter x.call) h e

  pub years_with : (letter : ℕ) → years_in (with h e) letter ≡ years_in h letter ++ listed (year_from letter e.call)
  unfolding years_in
  years_with letter = gather_snoc (λ x. year_from letter x.call) h e

  pub closed_with : (letter : ℕ) → closed_in (with h e) letter ≡ or_else (closed_from letter e.answer) (closed_in h letter)
  unfolding closed_in
  closed_with letter = last_snoc (λ x. closed_from letter x.answer) h e

  pub losses_with : (letter : ℕ) → losses_in (with h e) letter ≡ losses_in h letter +ℤ loss_from letter e.answer
  unfolding losses_in
  losses_with letter = total_snoc (λ x. loss_from letter x.answer) h e

  pub paid_with : (letter : ℕ) → paid_in (with h e) letter ≡ paid_in h letter +ℤ paid_from letter e.call
  unfolding paid_in
  paid_with letter = total_snoc (λ x. paid_from letter x.call) h e

  pub paid_answered_with : (letter : ℕ) → paid_answered_in (with h e) letter ≡ paid_answered_in h letter +ℤ paid_answered letter e.answer
  unfolding paid_answered_in
  paid_answered_with letter = total_snoc (λ x. paid_answered letter x.answer) h e

-- an entry, by what it is asked to hold
abbrev pub Holding : List Entry → Entry → Type 0
Holding h e = EntryHolds h e.before e.answer e.later e.call

-- the entry gives no rate, month or pattern that the entries have already
pub record Fresh (h : List Entry) (e : Entry) : Type 0 where
  pub rates : (year rate : ℕ) → rates_in h year ≡ rate ∷ [] → rate_from (taken_in (with h e)) year e.call ≡ None
  pub months : (year month rate : ℕ) → months_in h year month ≡ rate ∷ [] → month_from year month e.call ≡ None
  pub patterns : (letter year : ℕ) (pay : List ℕ) → payments_in h letter year ≡ pay ∷ [] → payments_from letter year e.call ≡ None
  pub standing : Every (Holding h) h

-- what holds of an accepted record still holds with a fresh one more
module _ (h : List Entry) (e : Entry) (fresh : Fresh h e) where
  month_same : (date : ℕ × ℕ) (rate : ℕ) → months_in h date.0 date.1 ≡ one rate → months_in (with h e) date.0 date.1 ≡ months_in h date.0 date.1
  month_same date rate s = rw (months_with h e date.0 date.1, fresh.months date.0 date.1 rate s, append-nil (months_in h date.0 date.1))

  sixty_same : (year : ℕ) (months : List ℕ) → sixty_months (months_in h) year ≡ map one months → sixty_months (months_in (with h e)) year ≡ sixty_months (months_in h) year
  sixty_same year months s = ones_same (λ date. months_in h date.0 date.1) (λ date. months_in (with h e) date.0 date.1) month_same (dates year) months s

  rate_with : (answer : Answer) (year : ℕ) → RateHolds h answer year → RateHolds (with h e) answer year
  rate_with answer year r = record { months = r.months; from_months = sixty_same year r.months r.from_months ∙ r.from_months; answered = r.answered }

  same_taken : (answer : Answer) (year : ℕ) → RateHolds h answer year → taken_in (with h e) year ≡ taken_in h year
  unfolding taken_in
  same_taken answer year r = ap joined (sixty_same year r.months r.from_months)

  -- an accepted RATE gives the same rate as before: a fresh record changes none of its months
  same_rate : (y : ℕ) (before : Book) (answer : Answer) (later : Book) (call : Call) → EntryHolds h before answer later call → rate_from (taken_in (with h e)) y call ≡ rate_from (taken_in h) y call
  same_rate y before answer later (declare letter opening) n = refl
  same_rate y before answer later (set_rate year months) n = refl
  same_rate y before answer later (add_pattern letter year paid incurred) n = refl
  same_rate y before answer later (close_year letter year paid unpaid tabular) n = refl
  same_rate y before answer later (totals letter) n = refl
  same_rate y before answer later (register_month year month rate) n = refl
  same_rate y before answer later (set_rate_from_register year) n = ap (λ (months : List ℕ). if eqb y year then Some (rate_of months) else None) (same_taken answer year n)

  pub rates_with : (year : ℕ) → rates_in (with h e) year ≡ rates_in h year ++ listed (rate_from (taken_in (with h e)) year e.call)
  unfolding rates_in
  rates_with year =
      let later : Entry → Option ℕ = λ x. rate_from (taken_in (with h e)) year x.call in
      let earlier : Entry → Option ℕ = λ x. rate_from (taken_in h) year x.call in
      let same = every_map (Holding h) (λ x. later x ≡ earlier x) (λ x. same_rate year x.before x.answer x.later x.call) h fresh.standing in
      gather_snoc later h e ∙ ap (λ (rates : List ℕ). rates ++ listed (later e)) (gather_same later earlier h same)

  pub given_with : (letter year rate : ℕ) (pay : List ℕ) → Given h letter year rate pay → Given (with h e) letter year rate pay
  given_with letter year rate pay g =
      record {
        from_rate = rw (rates_with year, fresh.rates year rate g.from_rate, g.from_rate);
        from_pattern = rw (payments_with h e letter year, fresh.patterns letter year pay g.from_pattern, g.from_pattern);
      }

  pub kept_near_with : (letter : ℕ) (p : Kept) → KeptNear h letter p → KeptNear (with h e) letter p
  kept_near_with letter p n =
      record {
        rate = n.rate;
        pay = n.pay;
        source = given_with letter p.year n.rate n.pay n.source;
        count = n.count;
        kept_near = n.kept_near;
        worked_near = n.worked_near;
        composite_near = n.composite_near;
      }

  pattern_with : (line : Line) (letter year : ℕ) → PatternHolds h line letter year → PatternHolds (with h e) line letter year
  pattern_with line letter year p = record { pattern = p.pattern; keeps = p.keeps; of_year = p.of_year; near = kept_near_with letter p.pattern p.near }

  row_with : (letter year k : ℕ) (row : Row) (d : ℕ) → RowHolds h letter year k row d → RowHolds (with h e) letter year k row d
  row_with letter year k row d r =
      record {
        has = λ g. let s = r.has g in (s.0, s.1, given_with letter (row_year letter year k) s.0 s.1 s.2);
        nothing = r.nothing;
        near = λ rate pay g u. ⊎_elim
            (λ (z : gross row ≡ 0). nothing_near rate (row_exact letter rate k pay) row d z (r.nothing z))
            (λ (l : 0 < gross row).
            let s = r.has l in
            let m = given_with letter (row_year letter year k) s.0 s.1 s.2 in
            let er : rate ≡ s.0 = only rate s.0 g.from_rate m.from_rate in
            let ep : pay ≡ s.1 = only pay s.1 g.from_pattern m.from_pattern in
            rw (er, ep) (r.near s.0 s.1 s.2 (rw ep at u)))
            (eq-zero-or-pos (gross row));
      }

  pub entry_with : (before : Book) (answer : Answer) (later : Book) (call : Call) → EntryHolds h before answer later call → EntryHolds (with h e) before answer later call
  entry_with before answer later (declare letter opening) n = tt
  entry_with before answer later (set_rate year months) n = tt
  entry_with before answer later (add_pattern letter year paid incurred) n = pattern_with (later.lines letter) letter year n
  entry_with before answer later (close_year letter year paid unpaid tabular) n =
      let line : Line = before.lines letter in
      record {
        whole = n.whole;
        answered = n.answered;
        each = every_at_map
            (λ k row. RowHolds h letter year k row (discounted_row letter line year k row))
            (λ k row. RowHolds (with h e) letter year k row (discounted_row letter line year k row))
            (λ k row. row_with letter year k row (discounted_row letter line year k row))
            0 (rows_of paid unpaid tabular) n.each;
      }
  entry_with before answer later (totals letter) n = tt
  entry_with before answer later (register_month year month rate) n = tt
  entry_with before answer later (set_rate_from_register year) n = rate_with answer year n
