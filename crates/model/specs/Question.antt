-- Document 01, "Questions put to a record, in this order", and F-4's question 14. Each definition is a question, under its own words; the tables are below them.
-- Assumes nothing: these are definitions.
use Rattle.std.specs.Prelude.{Bool, true, false, not, ◌&&◌, ◌||◌, List, [], ◌∷◌, map, ◌≡◌, ℕ, suc, ◌-◌, eqb, leb, ltb, length, take, drop, if◌then◌else◌, Option, None, Some, is_some}
use Rattle.std.specs.List.{list_all}
use Rattle.model.specs.Kind.{is_rate, is_year, is_register_year, is_month, is_opening, is_amount, is_paid}
use Rattle.model.specs.Letter.{covered, ages}
use Rattle.model.specs.Rate.{sixty_months}
use Rattle.model.specs.Pattern.{Age, ages_of, cumulative_ratio}
use Rattle.model.specs.Row.{Row, rows_of, gross}
use Rattle.model.specs.Book.{Book, Kept, Closed, latest, find}
use Rattle.model.specs.Call.{Call, declare, set_rate, add_pattern, close_year, totals, register_month, set_rate_from_register}
use Rattle.model.specs.Field.{fields, letter_in}
use Rattle.model.specs.Record.{Word, LINE, RATE, RATE_ALONE, PATT, YEAR, SUM, MIDT, OTHER, record_of, field_count, first_number, all_written, call_from}

-- F-3: "No accepted record can have more than 418 bytes, and one can have as many." (proofs/Longest.antt, proofs/LongestYear.antt)
abbrev pub longest : ℕ
longest = 418

-- "1. Has the line at most 1,024 bytes?": F-3, "Make 418 the limit in question 1."
abbrev pub is_short : List ℕ → Bool
is_short line = leb (length line) longest

-- "2. Is the first field, byte for byte, one of the four words?": F-2, "New records' words, here and below, join question 2's."
abbrev pub has_word : Word → Bool
has_word LINE = true
has_word RATE = true
has_word RATE_ALONE = true
has_word PATT = true
has_word YEAR = true
has_word SUM = true
has_word MIDT = true
has_word OTHER = false

-- "3. But for RATE: is the second field a covered letter? (no second field is a no)": F-4, "MIDT meets questions 1, 2 and 4 to 7."
abbrev pub has_letter : Call → Bool
has_letter (declare letter opening) = covered letter
has_letter (set_rate year months) = true
has_letter (add_pattern letter year paid incurred) = covered letter
has_letter (close_year letter year paid unpaid tabular) = covered letter
has_letter (totals letter) = covered letter
has_letter (register_month year month rate) = true
has_letter (set_rate_from_register year) = true

-- "4. Is the count of fields right?"
abbrev pub has_fields : Word → List (List ℕ) → Bool
has_fields word fs = eqb (length fs) (field_count word (letter_in fs))

-- and of a call with numbers, each list's length
abbrev pub has_lengths : Call → Bool
has_lengths (declare letter opening) = true
has_lengths (set_rate year months) = eqb (length months) 60
has_lengths (add_pattern letter year paid incurred) = eqb (length paid) (ages letter) && eqb (length incurred) (ages letter)
has_lengths (close_year letter year paid unpaid tabular) =
    eqb (length paid) (suc (ages letter)) && eqb (length unpaid) (suc (ages letter)) && eqb (length tabular) (suc (ages letter))
has_lengths (totals letter) = true
has_lengths (register_month year month rate) = true
has_lengths (set_rate_from_register year) = true

-- "5. Is every number well written?"
abbrev pub is_well_written : Word → List (List ℕ) → Bool
is_well_written word fs = all_written word (first_number word) (drop (first_number word) fs)

-- "6. Is every number within its limits?"
abbrev pub is_within_limits : Call → Bool
is_within_limits (declare letter opening) = is_opening opening
is_within_limits (set_rate year months) = is_year year && list_all is_rate months
is_within_limits (add_pattern letter year paid incurred) = is_year year && list_all is_amount paid && list_all is_amount incurred
is_within_limits (close_year letter year paid unpaid tabular) = is_year year && list_all is_paid paid && list_all is_amount unpaid && list_all is_amount tabular
is_within_limits (totals letter) = true
is_within_limits (register_month year month rate) = is_register_year year && is_month month && is_rate rate
is_within_limits (set_rate_from_register year) = is_year year

-- "7. LINE, RATE: is that line or that year's rate still to be given?": F-4, "Question 7 also covers a month given twice."
abbrev pub is_to_be_given : Book → Call → Bool
is_to_be_given book (declare letter opening) = not (is_some (book.lines letter).opening)
is_to_be_given book (set_rate year months) = not (is_some (book.rates year))
is_to_be_given book (add_pattern letter year paid incurred) = true
is_to_be_given book (close_year letter year paid unpaid tabular) = true
is_to_be_given book (totals letter) = true
is_to_be_given book (register_month year month rate) = not (is_some (book.register year month))
is_to_be_given book (set_rate_from_register year) = not (is_some (book.rates year))

-- F-4: "14 after question 7, when the short RATE lacks any of its sixty months": has it them all?
abbrev pub has_months : Book → Call → Bool
has_months book (declare letter opening) = true
has_months book (set_rate year months) = true
has_months book (add_pattern letter year paid incurred) = true
has_months book (close_year letter year paid unpaid tabular) = true
has_months book (totals letter) = true
has_months book (register_month year month rate) = true
has_months book (set_rate_from_register year) = list_all is_some (sixty_months book.register year)

-- "8. PATT, YEAR: is the line declared?": F-2, "SUM has two fields and meets questions 1 to 4 and 8."
abbrev pub is_declared : Book → Call → Bool
is_declared book (declare letter opening) = true
is_declared book (set_rate year months) = true
is_declared book (add_pattern letter year paid incurred) = is_some (book.lines letter).opening
is_declared book (close_year letter year paid unpaid tabular) = is_some (book.lines letter).opening
is_declared book (totals letter) = is_some (book.lines letter).opening
is_declared book (register_month year month rate) = true
is_declared book (set_rate_from_register year) = true

-- "9. PATT: has the year a rate?"
abbrev pub has_rate : Book → Call → Bool
has_rate book (declare letter opening) = true
has_rate book (set_rate year months) = true
has_rate book (add_pattern letter year paid incurred) = is_some (book.rates year)
has_rate book (close_year letter year paid unpaid tabular) = true
has_rate book (totals letter) = true
has_rate book (register_month year month rate) = true
has_rate book (set_rate_from_register year) = true

-- "10. PATT: is it the line's first pattern, or the year after its last one, that last one closed if any year is closed?"
abbrev pub last_is_closed : Option Closed → ℕ → Bool
last_is_closed None last = true
last_is_closed (Some c) last = eqb c.year last

abbrev pub follows : Option Kept → Option Closed → ℕ → Bool
follows None closed year = true
follows (Some p) closed year = eqb year (suc p.year) && last_is_closed closed p.year

-- "YEAR: is it the year of the last pattern, not yet closed?"
abbrev pub is_year_of : Option Kept → ℕ → Bool
is_year_of None year = false
is_year_of (Some p) year = eqb year p.year

abbrev pub is_open : Option Closed → ℕ → Bool
is_open None year = true
is_open (Some c) year = not (eqb c.year year)

abbrev pub is_in_turn : Book → Call → Bool
is_in_turn book (declare letter opening) = true
is_in_turn book (set_rate year months) = true
is_in_turn book (add_pattern letter year paid incurred) =
    follows (latest (book.lines letter).kept) (book.lines letter).closed year
is_in_turn book (close_year letter year paid unpaid tabular) =
    is_year_of (latest (book.lines letter).kept) year && is_open (book.lines letter).closed year
is_in_turn book (totals letter) = true
is_in_turn book (register_month year month rate) = true
is_in_turn book (set_rate_from_register year) = true

-- "11. PATT: is every incurred above 0 and no paid above its incurred?"
abbrev pub is_incurred : Age → Bool
is_incurred age = ltb 0 age.incurred && leb age.paid age.incurred

abbrev pub has_incurred : Call → Bool
has_incurred (declare letter opening) = true
has_incurred (set_rate year months) = true
has_incurred (add_pattern letter year paid incurred) = list_all is_incurred (ages_of paid incurred)
has_incurred (close_year letter year paid unpaid tabular) = true
has_incurred (totals letter) = true
has_incurred (register_month year month rate) = true
has_incurred (set_rate_from_register year) = true

-- "12. PATT: does no cumulative ratio fall from one age to the next?": from the ratio before on
abbrev pub climbs_from : ℕ → List ℕ → Bool
climbs_from before [] = true
climbs_from before (ratio ∷ ratios) = leb before ratio && climbs_from ratio ratios

abbrev pub climbs : Call → Bool
climbs (declare letter opening) = true
climbs (set_rate year months) = true
climbs (add_pattern letter year paid incurred) = climbs_from 0 (map cumulative_ratio (ages_of paid incurred))
climbs (close_year letter year paid unpaid tabular) = true
climbs (totals letter) = true
climbs (register_month year month rate) = true
climbs (set_rate_from_register year) = true

-- "13. YEAR: has every age row with gross above 0 a kept pattern?": the rows from place k on
abbrev pub have_kept : List Kept → ℕ → ℕ → List Row → Bool
have_kept kept year k [] = true
have_kept kept year k (row ∷ rows) = (eqb (gross row) 0 || is_some (find (year - k) kept)) && have_kept kept year (suc k) rows

abbrev pub has_patterns : Book → Call → Bool
has_patterns book (declare letter opening) = true
has_patterns book (set_rate year months) = true
has_patterns book (add_pattern letter year paid incurred) = true
has_patterns book (close_year letter year paid unpaid tabular) =
    have_kept (book.lines letter).kept year 0 (take (ages letter) (rows_of paid unpaid tabular))
has_patterns book (totals letter) = true
has_patterns book (register_month year month rate) = true
has_patterns book (set_rate_from_register year) = true

-- questions 1 to 6 of a line of bytes
unfoldable pub line_questions : List ℕ → List (ℕ × Bool)
line_questions line =
    let fs = fields line in
    let word = record_of fs in
    let call = call_from word fs in
    (1, is_short line)
    ∷ (2, has_word word)
    ∷ (3, has_letter call)
    ∷ (4, has_fields word fs)
    ∷ (5, is_well_written word fs)
    ∷ (6, is_within_limits call)
    ∷ []

-- "Calls with numbers start at 3 (a letter), 4 (a list's length) and 6."
unfoldable pub call_questions : Call → List (ℕ × Bool)
call_questions call = (3, has_letter call) ∷ (4, has_lengths call) ∷ (6, is_within_limits call) ∷ []

-- a call that questions 3, 4 and 6 let through
pub record Sound (call : Call) : Type 0 where
  pub letter : has_letter call ≡ true
  pub lengths : has_lengths call ≡ true
  pub limits : is_within_limits call ≡ true

-- questions 7 to 14, in the order in which they are asked
unfoldable pub book_questions : Book → Call → List (ℕ × Bool)
book_questions book call =
    (7, is_to_be_given book call)
    ∷ (14, has_months book call)
    ∷ (8, is_declared book call)
    ∷ (9, has_rate book call)
    ∷ (10, is_in_turn book call)
    ∷ (11, has_incurred call)
    ∷ (12, climbs call)
    ∷ (13, has_patterns book call)
    ∷ []

-- the number of the first question whose answer is no
abbrev pub first_no : List (ℕ × Bool) → Option ℕ
first_no [] = None
first_no (q ∷ questions) = if q.1 then first_no questions else Some q.0
