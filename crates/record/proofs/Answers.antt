-- For callers: what a request and the lists say of the line that they were read from.
-- Assumes nothing.
use Rattle.std.specs.Prelude.{if◌then◌else◌, Option, None, Some, is_some, Result}
use mathlib.Core.Bool.{Bool, true, false, false≢true}
use mathlib.Core.Path.{◌≡◌, refl, sym, ◌∙◌}
use mathlib.Core.List.{List, [], ◌∷◌, map}
use Prim.Native.Nat.{ℕ, suc, ◌+◌, ◌*◌, ◌≤◌, ◌<◌}
use native.Mathlib.Omega.{arith}
use borrow.Author.Tests.{eqb-true}
use lib.ListN.{length, take, drop, get_or}
use Rattle.model.specs.Letter.{ten_year, ages}
use Rattle.model.specs.Call.{Call, declare, set_rate, totals, register_month, set_rate_from_register}
use Rattle.model.specs.Field.{fields, field, letter_in, column}
use Rattle.model.specs.Record.{Word, LINE, RATE, RATE_ALONE, PATT, YEAR, SUM, MIDT, OTHER, record_of, field_count, first_number, call_from}
use Rattle.model.specs.Step as model
use Rattle.model.specs.Question.{is_short, has_word, has_letter, has_fields, is_well_written, is_within_limits, line_questions, call_questions, first_no}
use Rattle.model.proofs.Lists.{Some≢None, all_yes}
use Rattle.model.proofs.Lengths.{lengths_right}
use Rattle.refusal.specs.Number.{number_of, refusal_of}
use Rattle.numbers.specs.Number.{capped, has_minus}
use Rattle.record.specs.Column.{each, size_at, paid_at}
use Rattle.record.specs.Request.{asking, answered, with_numbers, left_in, read_of, Gives}
use Rattle.record.specs.Asks.{pattern_of, year_of, Low, Asks, Says}
use Rattle.form.specs.declared.request.Request.{Request}
use Rattle.refusal.specs.declared.Refusal.{Refusal}
use Rattle.record.proofs.Caps.{capped_paid, Alike, line_same, rate_same, pattern_same, year_same, month_same, rate_alone_same}
use Rattle.record.proofs.Columns.{each_column, part_column}
use Rattle.record.proofs.Gathers.{gathered_at, gathered_length}
use Rattle.record.proofs.Questions.{room}

-- how many fields a record has, by its line's ages
patt_by : (t : Bool) → (if t then 23 else 7) ≡ 3 + 2 * (if t then 10 else 2)
patt_by true = refl
patt_by false = refl

patt_count : (letter : ℕ) → field_count PATT letter ≡ 3 + 2 * ages letter
unfolding ages
patt_count letter = patt_by (ten_year letter)

year_by : (t : Bool) → (if t then 36 else 12) ≡ 6 + 3 * (if t then 10 else 2)
year_by true = refl
year_by false = refl

year_count : (letter : ℕ) → field_count YEAR letter ≡ 6 + 3 * ages letter
unfolding ages
year_count letter = year_by (ten_year letter)

-- each number of a record stands at its field's place
record Placed (word : Word) (fs : List (List ℕ)) (minus : List Bool) (sizes : List ℕ) : Type 0 where
  total : length fs ≡ field_count word (letter_in fs)
  long : length sizes ≡ 62
  signs : (k : ℕ) → first_number word ≤ k → k < length fs → get_or minus k false ≡ has_minus (field k fs)
  values : (k : ℕ) → first_number word ≤ k → k < length fs → get_or sizes k 0 ≡ capped (field k fs)

-- SUM has no numbers
totals_alike : (fs : List (List ℕ)) → Alike (totals (letter_in fs)) (call_from SUM fs)
unfolding call_from
totals_alike fs = record { letter = refl; lengths = refl; limits = refl; same = λ e. refl }

-- the calls of the lists, beside the line's
module _ (fs : List (List ℕ)) (minus : List Bool) (sizes : List ℕ) where
  line_alike : Placed LINE fs minus sizes → Alike (declare (letter_in fs) (get_or sizes 2 0)) (call_from LINE fs)
  unfolding call_from
  line_alike p =
      let n = p.total in
      rw (p.values 2 (omega arith) (omega arith)) (line_same (letter_in fs) (field 2 fs))

  rate_alike : Placed RATE fs minus sizes → Alike (set_rate (get_or sizes 1 0) (take 60 (drop 2 sizes))) (call_from RATE fs)
  unfolding call_from
  rate_alike p =
      let n = p.total in
      let months : take 60 (drop 2 sizes) ≡ map capped (column 60 1 2 fs) = part_column sizes 0 capped fs 60 2 (omega (arith, p.long)) (λ i ge lt. p.values i (omega arith) (omega arith)) in
      rw (p.values 1 (omega arith) (omega arith), months) (rate_same (field 1 fs) (column 60 1 2 fs))

  rate_alone_alike : Placed RATE_ALONE fs minus sizes → Alike (set_rate_from_register (get_or sizes 1 0)) (call_from RATE_ALONE fs)
  unfolding call_from
  rate_alone_alike p =
      let n = p.total in
      rw (p.values 1 (omega arith) (omega arith)) (rate_alone_same (field 1 fs))

  month_alike : Placed MIDT fs minus sizes → Alike (register_month (get_or sizes 1 0) (get_or sizes 2 0) (get_or sizes 3 0)) (call_from MIDT fs)
  unfolding call_from
  month_alike p =
      let n = p.total in
      rw (p.values 1 (omega arith) (omega arith), p.values 2 (omega arith) (omega arith), p.values 3 (omega arith) (omega arith)) (month_same (field 1 fs) (field 2 fs) (field 3 fs))

  pattern_alike : Placed PATT fs minus sizes → Alike (pattern_of (letter_in fs) sizes) (call_from PATT fs)
  unfolding call_from
  pattern_alike p =
      let k = ages (letter_in fs) in
      let n : length fs ≡ 3 + 2 * ages (letter_in fs) = p.total ∙ patt_count (letter_in fs) in
      let year : get_or sizes 2 0 ≡ capped (field 2 fs) = p.values 2 (omega arith) (omega arith) in
      let paid : each (size_at sizes) (ages (letter_in fs)) 2 3 ≡ map capped (column (ages (letter_in fs)) 2 3 fs) = each_column (size_at sizes) capped fs k 2 3 (λ i lt. p.values (3 + i * 2) (omega arith) (omega arith)) in
      let incurred : each (size_at sizes) (ages (letter_in fs)) 2 4 ≡ map capped (column (ages (letter_in fs)) 2 4 fs) = each_column (size_at sizes) capped fs k 2 4 (λ i lt. p.values (4 + i * 2) (omega arith) (omega arith)) in
      rw (year, paid, incurred) (pattern_same (letter_in fs) (field 2 fs) (column k 2 3 fs) (column k 2 4 fs))

  year_alike : Placed YEAR fs minus sizes → Alike (year_of (letter_in fs) minus sizes) (call_from YEAR fs)
  unfolding call_from
  year_alike p =
      let k = suc (ages (letter_in fs)) in
      let n : length fs ≡ 6 + 3 * ages (letter_in fs) = p.total ∙ year_count (letter_in fs) in
      let year : get_or sizes 2 0 ≡ capped (field 2 fs) = p.values 2 (omega arith) (omega arith) in
      let paid : each (paid_at minus sizes) (suc (ages (letter_in fs))) 3 3 ≡ map capped_paid (column (suc (ages (letter_in fs))) 3 3 fs) =
      each_column (paid_at minus sizes) capped_paid fs k 3 3 (λ i lt. rw (p.signs (3 + i * 3) (omega arith) (omega arith), p.values (3 + i * 3) (omega arith) (omega arith))) in
      let unpaid : each (size_at sizes) (suc (ages (letter_in fs))) 3 4 ≡ map capped (column (suc (ages (letter_in fs))) 3 4 fs) = each_column (size_at sizes) capped fs k 3 4 (λ i lt. p.values (4 + i * 3) (omega arith) (omega arith)) in
      let tabular : each (size_at sizes) (suc (ages (letter_in fs))) 3 5 ≡ map capped (column (suc (ages (letter_in fs))) 3 5 fs) = each_column (size_at sizes) capped fs k 3 5 (λ i lt. p.values (5 + i * 3) (omega arith) (omega arith)) in
      rw (year, paid, unpaid, tabular) (year_same (letter_in fs) (field 2 fs) (column k 3 3 fs) (column k 3 4 fs) (column k 3 5 fs))

  low : Placed YEAR fs minus sizes → Low (suc (ages (letter_in fs))) sizes
  low p i lt =
      let n : length fs ≡ 6 + 3 * ages (letter_in fs) = p.total ∙ year_count (letter_in fs) in
      omega (arith, p.values (3 + i * 3) (omega arith) (omega arith))

-- a list is as long as it was
long_by : (t : Bool) (list left : List ℕ) → length left ≡ length list → length (if t then list else left) ≡ length list
long_by true list left e = refl
long_by false list left e = e

pub sizes_long : (line : List ℕ) (minus : List Bool) (sizes : List ℕ) (r : Result Request Refusal) (ms : List Bool) (ns : List ℕ) → Gives (read_of line minus sizes) r ms ns → length ns ≡ length sizes
unfolding read_of
sizes_long line minus sizes r ms ns g =
    let word = record_of (fields line) in
    rw g.values (long_by (is_some (first_no (take 3 (line_questions line)))) sizes (with_numbers capped word (fields line) sizes) (gathered_length capped word (first_number word) (field_count word (letter_in (fields line))) (fields line) sizes))

-- the number of the question that is answered no
numbered : (n q : ℕ) → ◌≡◌ {A = Option ℕ} (Some n) (Some q) → number_of (refusal_of n) ≡ n → ◌≡◌ {A = Option ℕ} (Some n) (Some (number_of (refusal_of q)))
numbered n q e back = let same : q ≡ n = cc in rw (same, back)

no_table : (a b c d e f : Bool) (q : ℕ)
    → let questions : List (ℕ × Bool) = (1, a) ∷ (2, b) ∷ (3, c) ∷ (4, d) ∷ (5, e) ∷ (6, f) ∷ [] in
    first_no (take 5 questions) ≡ Some q → first_no questions ≡ Some (number_of (refusal_of q))
unfolding refusal_of
no_table false b c d e f q h = numbered 1 q h refl
no_table true false c d e f q h = numbered 2 q h refl
no_table true true false d e f q h = numbered 3 q h refl
no_table true true true false e f q h = numbered 4 q h refl
no_table true true true true false f q h = numbered 5 q h refl
no_table true true true true true f q h = absurd (Some≢None q (sym h))

-- one of questions 1 to 5 answered no, or none
module _ (line : List ℕ) where
  refused : (q : ℕ) → first_no (take 5 (line_questions line)) ≡ Some q → first_no (line_questions line) ≡ Some (number_of (refusal_of q))
  unfolding line_questions
  refused q h =
      let word = record_of (fields line) in
      let call = call_from word (fields line) in
      no_table (is_short line) (has_word word) (has_letter call) (has_fields word (fields line)) (is_well_written word (fields line)) (is_within_limits call) q h

  module _ (passed : first_no (take 5 (line_questions line)) ≡ None) where
    asks : (call : Call) → Alike call (model.call_of line) → Asks line call
    unfolding line_questions call_questions
    asks call a =
        let y = all_yes (take 5 (line_questions line)) passed in
        let lettered = a.letter ∙ y.1.1.0 in
        let counted = a.lengths ∙ lengths_right (record_of (fields line)) (fields line) in
        record {
          first = rw (y.0, y.1.0, y.1.1.0, y.1.1.1.0, y.1.1.1.1.0, lettered, counted, a.limits);
          same = λ e. a.same (all_yes (line_questions line) e).1.1.1.1.1.0;
        }

    says_word : (word : Word) → word ≡ record_of (fields line) → has_word word ≡ true → (minus : List Bool) (sizes : List ℕ) → Placed word (fields line) minus sizes → Says (asking word (fields line)) minus sizes line
    says_word LINE e h minus sizes p = asks (declare (letter_in (fields line)) (get_or sizes 2 0)) (rw (← e) (line_alike (fields line) minus sizes p))
    says_word RATE e h minus sizes p = asks (set_rate (get_or sizes 1 0) (take 60 (drop 2 sizes))) (rw (← e) (rate_alike (fields line) minus sizes p))
    says_word RATE_ALONE e h minus sizes p = asks (set_rate_from_register (get_or sizes 1 0)) (rw (← e) (rate_alone_alike (fields line) minus sizes p))
    says_word PATT e h minus sizes p = asks (pattern_of (letter_in (fields line)) sizes) (rw (← e) (pattern_alike (fields line) minus sizes p))
    says_word YEAR e h minus sizes p = (asks (year_of (letter_in (fields line)) minus sizes) (rw (← e) (year_alike (fields line) minus sizes p)), low (fields line) minus sizes p)
    says_word SUM e h minus sizes p = asks (totals (letter_in (fields line))) (rw (← e) (totals_alike (fields line)))
    says_word MIDT e h minus sizes p = asks (register_month (get_or sizes 1 0) (get_or sizes 2 0) (get_or sizes 3 0)) (rw (← e) (month_alike (fields line) minus sizes p))
    says_word OTHER e h minus sizes p = absurd (false≢true h)

    module _ (minus : List Bool) (sizes : List ℕ) (lm : length minus ≡ 62) (ls : length sizes ≡ 62) where
      passed_says : let word = record_of (fields line) in Says (asking word (fields line)) (left_in has_minus line minus) (left_in capped line sizes) line
      unfolding line_questions
      passed_says =
          let fs = fields line in
          let word = record_of fs in
          let y = all_yes (take 5 (line_questions line)) passed in
          let total : length (fields line) ≡ field_count (record_of (fields line)) (letter_in (fields line)) = eqb-true _ _ y.1.1.1.0 in
          let few = (room word (letter_in fs) y.1.0).1 in
          let p : Placed word fs (with_numbers has_minus word fs minus) (with_numbers capped word fs sizes) =
          record {
            total = total;
            long = gathered_length capped word (first_number word) (field_count word (letter_in fs)) fs sizes ∙ ls;
            signs = λ k ge lt. rw (← total) (gathered_at has_minus word (first_number word) fs minus false y.1.1.1.1.0 (omega arith) k ge lt);
            values = λ k ge lt. rw (← total) (gathered_at capped word (first_number word) fs sizes 0 y.1.1.1.1.0 (omega arith) k ge lt);
          } in
          rw (y.0, y.1.0, y.1.1.0) (says_word word refl y.1.0 (with_numbers has_minus word fs minus) (with_numbers capped word fs sizes) p)

-- of any line: what the request and the lists say
module _ (line : List ℕ) (minus : List Bool) (sizes : List ℕ) (lm : length minus ≡ 62) (ls : length sizes ≡ 62) where
  said_by : (o : Option ℕ) → first_no (take 5 (line_questions line)) ≡ o → Says (answered o (fields line)) (left_in has_minus line minus) (left_in capped line sizes) line
  said_by None e = passed_says line e minus sizes lm ls
  said_by (Some q) e = refused line q e

  pub said : (r : Result Request Refusal) (ms : List Bool) (ns : List ℕ) → Gives (read_of line minus sizes) r ms ns → Says r ms ns line
  unfolding read_of
  said r ms ns g = rw (g.request, g.signs, g.values) (said_by (first_no (take 5 (line_questions line))) refl)
