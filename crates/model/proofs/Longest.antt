-- "No accepted record can have more than 418 bytes": what questions 2 to 6 ask of a line's fields says how long it is at most.
-- Assumes nothing.
use Rattle.std.specs.Prelude.{if◌then◌else◌, None}
use mathlib.Core.Path.{◌≡◌, refl, sym, ◌∙◌}
use mathlib.Core.Bool.{Bool, true, false, ◌&&◌}
use mathlib.Core.List.{List, [], ◌∷◌, map}
use Prim.Native.Nat.{ℕ, zero, suc, ◌+◌, ◌-◌, ◌*◌, ◌%◌, ◌≤◌, ◌<◌}
use native.Mathlib.Omega.{arith}
use native.Mathlib.Nat.{mul-le-mul_right}
use borrow.Author.Tests.{eqb-true, eq-eqb, ne_eqb}
use lib.ListN.{length, drop, length-drop}
use lib.Seq.{get_or-drop}
use Rattle.std.specs.List.{list_all}
use Rattle.model.specs.Letter.{ten_year, ages}
use Rattle.model.specs.Field.{fields, field, column, letter_in}
use Rattle.model.specs.Number.{natural, is_written, integer}
use Rattle.model.specs.Kind.{is_rate, is_year, is_register_year, is_month, is_amount, is_paid}
use Rattle.model.specs.Record.{Word, LINE, RATE, RATE_ALONE, PATT, YEAR, SUM, MIDT, OTHER, word_of, is_alone, form_of, record_of, field_count, first_number, allows_minus, all_written, call_from}
use Rattle.model.specs.Question.{longest, has_word, has_letter, is_well_written, is_within_limits, line_questions, first_no}
use Rattle.model.proofs.Lists.{true≢false, and_left, and_right, all_yes}
use Rattle.model.proofs.Ages.{ages_small}
use Rattle.model.proofs.Widths.{word, fits}
use Rattle.model.proofs.Layouts.{line_length, room, layout, Laid, laid_short}

-- the number at place k is well written
written_from : (w : Word) (k : ℕ) (fs : List (List ℕ)) (j : ℕ) → all_written w k fs ≡ true → j < length fs → is_written (allows_minus w (k + j)) (field j fs) ≡ true
unfolding all_written
written_from w k [] j h lt = absurd (omega arith)
written_from w k (f ∷ fs) zero h lt =
    let e : k + 0 ≡ k = omega arith in
    rw e (and_left (is_written (allows_minus w k) f) (all_written w (suc k) fs) h)
written_from w k (f ∷ fs) (suc j) h lt =
    let e : suc k + j ≡ k + suc j = omega arith in
    rw e at (written_from w (suc k) fs j (and_right (is_written (allows_minus w k) f) (all_written w (suc k) fs) h) (omega arith))

-- each number of a column is within its limits
module _ {A : Type 0} (test : A → Bool) (f : List ℕ → A) (step : ℕ) (fs : List (List ℕ)) where
  in_column : (n k i : ℕ) → list_all test (map f (column n step k fs)) ≡ true → i < n → test (f (field (k + i * step) fs)) ≡ true
  in_column zero k i h lt = absurd (omega arith)
  in_column (suc n) k zero h lt =
      let e : k + 0 * step ≡ k = omega arith in
      rw e (and_left (test (f (field k fs))) (list_all test (map f (column n step (k + step) fs))) h)
  in_column (suc n) k (suc i) h lt =
      let e : k + step + i * step ≡ k + suc i * step = omega arith in
      rw e at (in_column n (k + step) i (and_right (test (f (field k fs))) (list_all test (map f (column n step (k + step) fs))) h) (omega arith))

-- a record that questions 2 to 6 let through, by its word and its fields
pub record Passes (w : Word) (fs : List (List ℕ)) : Type 0 where
  pub word_is : fits word (field 0 fs) ≡ true
  pub letter_is : has_letter (call_from w fs) ≡ true
  pub count : length fs ≡ field_count w (letter_in fs)
  pub written : is_well_written w fs ≡ true
  pub limits : is_within_limits (call_from w fs) ≡ true

-- a number that is well written and within its limits
module _ (w : Word) (fs : List (List ℕ)) (p : Passes w fs) where
  number : (minus_allowed : Bool) (test : Bool) (k : ℕ) → allows_minus w k ≡ minus_allowed → first_number w ≤ k → k < length fs → test ≡ true → is_written minus_allowed (field k fs) && test ≡ true
  number minus_allowed test k a le lt t =
      let n : ℕ = first_number w in
      let e : n + (k - n) ≡ k = omega arith in
      let there : k - n < length (drop n fs) = rw (length-drop n fs) (omega arith) in
      let written : is_written (allows_minus w k) (field k fs) ≡ true = rw (get_or-drop n fs (k - n) [], e) at (written_from w n (drop n fs) (k - n) p.written there) in
      rw (rw a at written, t)

  -- a column of them
  numbers : {A : Type 0} (test : A → Bool) (g : List ℕ → A) (minus_allowed : Bool) (n step k : ℕ) → ((i : ℕ) → i < n → allows_minus w (k + i * step) ≡ minus_allowed) → first_number w ≤ k → k + n * step < length fs + step
      → list_all test (map g (column n step k fs)) ≡ true → (i : ℕ) → i < n → is_written minus_allowed (field (k + i * step) fs) && test (g (field (k + i * step) fs)) ≡ true
  numbers test g minus_allowed n step k a le count h i lt =
      let within : i * step + step ≤ n * step = omega (arith, mul-le-mul_right {m = suc i} {n = n} step (omega arith)) in
      number minus_allowed _ (k + i * step) (a i lt) (omega arith) (omega (arith, within)) (in_column test g step fs n k i h lt)

pattern_fields : (byte : ℕ) → field_count PATT byte ≡ 3 + ages byte * 2
unfolding ages
pattern_fields byte = by_kind (ten_year byte)
  where
    by_kind : (t : Bool) → (if t then 23 else 7) ≡ 3 + (if t then 10 else 2) * 2
    by_kind true = refl
    by_kind false = refl

year_fields : (byte : ℕ) → field_count YEAR byte ≡ 3 + suc (ages byte) * 3
unfolding ages
year_fields byte = by_kind (ten_year byte)
  where
    by_kind : (t : Bool) → (if t then 36 else 12) ≡ 3 + suc (if t then 10 else 2) * 3
    by_kind true = refl
    by_kind false = refl

module _ (fs : List (List ℕ)) where
  line_laid : Passes LINE fs → Laid (layout LINE (letter_in fs)) fs
  unfolding call_from
  line_laid p =
      let the_opening = number LINE fs p false _ 2 refl (omega arith) (omega (arith, p.count)) p.limits in
      record { count = p.count; front = (p.word_is, (p.letter_is, (the_opening, tt))); columns = tt }

  sum_laid : Passes SUM fs → Laid (layout SUM (letter_in fs)) fs
  unfolding call_from
  sum_laid p = record { count = p.count; front = (p.word_is, (p.letter_is, tt)); columns = tt }

  rate_laid : Passes RATE fs → Laid (layout RATE (letter_in fs)) fs
  unfolding call_from
  rate_laid p =
      let year_within : Bool = is_year (natural (field 1 fs)) in
      let the_year = number RATE fs p false year_within 1 refl (omega arith) (omega (arith, p.count)) (and_left year_within _ p.limits) in
      let the_months = numbers RATE fs p is_rate natural false 60 1 2 (λ i lt. refl) (omega arith) (omega (arith, p.count)) (and_right year_within _ p.limits) in
      record { count = p.count; front = (p.word_is, (the_year, tt)); columns = (the_months, tt) }

  rate_alone_laid : Passes RATE_ALONE fs → Laid (layout RATE_ALONE (letter_in fs)) fs
  unfolding call_from
  rate_alone_laid p =
      let the_year = number RATE_ALONE fs p false _ 1 refl (omega arith) (omega (arith, p.count)) p.limits in
      record { count = p.count; front = (p.word_is, (the_year, tt)); columns = tt }

  month_laid : Passes MIDT fs → Laid (layout MIDT (letter_in fs)) fs
  unfolding call_from
  month_laid p =
      let year_within : Bool = is_register_year (natural (field 1 fs)) in
      let date_within : Bool = year_within && is_month (natural (field 2 fs)) in
      let first_two : date_within ≡ true = and_left date_within _ p.limits in
      let the_year = number MIDT fs p false year_within 1 refl (omega arith) (omega (arith, p.count)) (and_left year_within _ first_two) in
      let the_month = number MIDT fs p false _ 2 refl (omega arith) (omega (arith, p.count)) (and_right year_within _ first_two) in
      let the_rate = number MIDT fs p false _ 3 refl (omega arith) (omega (arith, p.count)) (and_right date_within _ p.limits) in
      record { count = p.count; front = (p.word_is, (the_year, (the_month, (the_rate, tt)))); columns = tt }

  pattern_laid : Passes PATT fs → Laid (layout PATT (letter_in fs)) fs
  unfolding call_from
  pattern_laid p =
      let n : ℕ = ages (letter_in fs) in
      let count : length fs ≡ 3 + n * 2 = p.count ∙ pattern_fields (letter_in fs) in
      let year_within : Bool = is_year (natural (field 2 fs)) in
      let paid_within : Bool = year_within && list_all is_amount (map natural (column n 2 3 fs)) in
      let first_two : paid_within ≡ true = and_left paid_within _ p.limits in
      let the_year = number PATT fs p false year_within 2 refl (omega arith) (omega (arith, count)) (and_left year_within _ first_two) in
      let the_paid = numbers PATT fs p is_amount natural false n 2 3 (λ i lt. refl) (omega arith) (omega (arith, count)) (and_right year_within _ first_two) in
      let the_incurred = numbers PATT fs p is_amount natural false n 2 4 (λ i lt. refl) (omega arith) (omega (arith, count)) (and_right paid_within _ p.limits) in
      record { count = count; front = (p.word_is, (p.letter_is, (the_year, tt))); columns = (the_paid, (the_incurred, tt)) }

  year_laid : Passes YEAR fs → Laid (layout YEAR (letter_in fs)) fs
  unfolding call_from
  year_laid p =
      let n : ℕ = suc (ages (letter_in fs)) in
      let count : length fs ≡ 3 + n * 3 = p.count ∙ year_fields (letter_in fs) in
      let year_within : Bool = is_year (natural (field 2 fs)) in
      let paid_within : Bool = year_within && list_all is_paid (map integer (column n 3 3 fs)) in
      let unpaid_within : Bool = paid_within && list_all is_amount (map natural (column n 3 4 fs)) in
      let first_three : unpaid_within ≡ true = and_left unpaid_within _ p.limits in
      let first_two : paid_within ≡ true = and_left paid_within _ first_three in
      let the_year = number YEAR fs p false year_within 2 refl (omega arith) (omega (arith, count)) (and_left year_within _ first_two) in
      let the_paid = numbers YEAR fs p is_paid integer true n 3 3 (λ i lt. eq-eqb ((3 + i * 3) % 3) 0 (omega arith)) (omega arith) (omega (arith, count)) (and_right year_within _ first_two) in
      let the_unpaid = numbers YEAR fs p is_amount natural false n 3 4 (λ i lt. ne_eqb ((4 + i * 3) % 3) 0 (omega arith)) (omega arith) (omega (arith, count)) (and_right paid_within _ first_three) in
      let the_tabular = numbers YEAR fs p is_amount natural false n 3 5 (λ i lt. ne_eqb ((5 + i * 3) % 3) 0 (omega arith)) (omega arith) (omega (arith, count)) (and_right unpaid_within _ p.limits) in
      record { count = count; front = (p.word_is, (p.letter_is, (the_year, tt))); columns = (the_paid, (the_unpaid, (the_tabular, tt))) }

  laid : (w : Word) → has_word w ≡ true → Passes w fs → Laid (layout w (letter_in fs)) fs
  laid LINE h = line_laid
  laid RATE h = rate_laid
  laid RATE_ALONE h = rate_alone_laid
  laid PATT h = pattern_laid
  laid YEAR h = year_laid
  laid SUM h = sum_laid
  laid MIDT h = month_laid
  laid OTHER h = absurd (true≢false (sym h))

-- no layout has room for more than 418 bytes (and the one byte more that `spread` counts)
layout_short : (w : Word) (byte : ℕ) → let plan = layout w byte in room plan.front + plan.times * room plan.group ≤ suc longest
layout_short LINE byte = omega arith
layout_short RATE byte = omega arith
layout_short RATE_ALONE byte = omega arith
layout_short PATT byte = omega (arith, ages_small byte)
layout_short YEAR byte = omega (arith, ages_small byte)
layout_short SUM byte = omega arith
layout_short MIDT byte = omega arith
layout_short OTHER byte = omega arith

-- a record has a word in whatever form it is
has_word_lem : (w : Word) (n : ℕ) → has_word (form_of w n) ≡ has_word w
has_word_lem LINE n = refl
has_word_lem RATE n = by_count (is_alone n)
  where
    by_count : (t : Bool) → has_word (if t then RATE_ALONE else RATE) ≡ true
    by_count true = refl
    by_count false = refl
has_word_lem RATE_ALONE n = refl
has_word_lem PATT n = refl
has_word_lem YEAR n = refl
has_word_lem SUM n = refl
has_word_lem MIDT n = refl
has_word_lem OTHER n = refl

-- whatever question 1 asks, a line that passes questions 2 to 6 has at most 418 bytes
pub at_most_longest : (line : List ℕ) → first_no (drop 1 (line_questions line)) ≡ None → length line ≤ longest
unfolding line_questions
at_most_longest line e =
    let fs : List (List ℕ) = fields line in
    let w : Word = record_of fs in
    let y = all_yes (drop 1 (line_questions line)) e in
    let count = eqb-true (length fs) (field_count w (letter_in fs)) y.1.1.0 in
    let p : Passes w fs = record { word_is = sym (has_word_lem (word_of (field 0 fs)) (length fs)) ∙ y.0; letter_is = y.1.0; count = count; written = y.1.1.1.0; limits = y.1.1.1.1.0 } in
    omega (arith, line_length line, laid_short fs (layout w (letter_in fs)) (laid fs w y.0 p), layout_short w (letter_in fs))
