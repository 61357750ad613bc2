-- What `schedule_of` answers.
-- Assumes nothing: these are definitions.
use Rattle.std.specs.Prelude.{◌≡◌, Bool, true, ◌&&◌, List, [], ◌∷◌, ◌++◌, ℕ, ◌-◌, length, take, replicate, if◌then◌else◌, Result}
use Rattle.std.specs.List.{list_all}
use Rattle.model.specs.Kind.{is_amount}
use Rattle.model.specs.Letter.{covered, ten_year, ages}
use Rattle.model.specs.Pattern.{ages_of}
use Rattle.model.specs.Tail.{ten_year_tail, two_year_tail, payment_at, schedule}
use Rattle.model.specs.Call.{add_pattern}
use Rattle.model.specs.Question.{has_lengths, has_incurred, climbs, first_no}
use Rattle.refusal.specs.Unless.{unless}
use Rattle.refusal.specs.declared.Refusal.{Refusal}

-- how many ages a schedule has
abbrev pub all_ages : ℕ → ℕ
all_ages letter = if ten_year letter then 16 else 4

-- the payments at all ages, with zeros up to sixteen
abbrev pub in_places : ℕ → List ℕ → List ℕ
in_places letter pay = pay ++ replicate (16 - all_ages letter) 0

-- questions 11 and 12. (The year of the call is not looked at.)
abbrev pub ratio_questions : ℕ → List ℕ → List ℕ → List (ℕ × Bool)
ratio_questions letter paid incurred = (11, has_incurred (add_pattern letter 0 paid incurred)) ∷ (12, climbs (add_pattern letter 0 paid incurred)) ∷ []

-- questions 4 and 6 before them
abbrev pub list_questions : ℕ → List ℕ → List ℕ → List (ℕ × Bool)
list_questions letter paid incurred =
    (4, has_lengths (add_pattern letter 0 paid incurred)) ∷ (6, list_all is_amount paid && list_all is_amount incurred) ∷ ratio_questions letter paid incurred

-- the schedule of the lists, in its places
abbrev pub placed : ℕ → List ℕ → List ℕ → List ℕ
placed letter paid incurred = in_places letter (schedule letter (ages_of paid incurred))

abbrev pub judged_of : ℕ → List ℕ → List ℕ → Result (List ℕ) Refusal
judged_of letter paid incurred = unless (first_no (ratio_questions letter paid incurred)) (placed letter paid incurred)

abbrev pub listed_of : ℕ → List ℕ → List ℕ → Result (List ℕ) Refusal
listed_of letter paid incurred = unless (first_no (list_questions letter paid incurred)) (placed letter paid incurred)

-- and question 3
abbrev pub schedule_questions : ℕ → List ℕ → List ℕ → List (ℕ × Bool)
schedule_questions letter paid incurred = (3, covered letter) ∷ list_questions letter paid incurred

abbrev pub schedule_of : ℕ → List ℕ → List ℕ → Result (List ℕ) Refusal
schedule_of letter paid incurred = unless (first_no (schedule_questions letter paid incurred)) (placed letter paid incurred)

-- lists that questions 4 and 6 let through
pub record Listed (letter : ℕ) (paid incurred : List ℕ) : Type 0 where
  pub paid_length : length paid ≡ ages letter
  pub incurred_length : length incurred ≡ ages letter
  pub paid_amounts : list_all is_amount paid ≡ true
  pub incurred_amounts : list_all is_amount incurred ≡ true

-- the payments at the given ages, which stand first, and the tail
abbrev pub tailed : ℕ → List ℕ → ℕ → List ℕ
tailed letter pay unpaid =
    if ten_year letter then take 10 pay ++ ten_year_tail (payment_at 8 pay) (payment_at 9 pay) (payment_at 10 pay) unpaid else (take 2 pay ++ two_year_tail unpaid)
