-- Document 01, "The list of demand 3": the accepted records of a list, and the terms that come from them.
-- Assumes nothing: these are definitions.
use Rattle.std.specs.Prelude.{◌&&◌, List, [], ◌∷◌, ◌++◌, ℕ, eqb, ℤ, pos, if◌then◌else◌, Option, None, Some}
use Rattle.model.specs.Basics.{total, joined}
use Rattle.model.specs.Rate.{rate_of, sixty_months}
use Rattle.model.specs.Pattern.{ages_of}
use Rattle.model.specs.Tail.{schedule}
use Rattle.model.specs.Book.{Book, Kept, Closed, latest}
use Rattle.model.specs.Call.{Call, declare, set_rate, add_pattern, close_year, totals, register_month, set_rate_from_register}
use Rattle.model.specs.Answer.{Answer, declared, rated, fact, tax, summed, registered, refusal}
use Rattle.model.specs.Question.{first_no}
use Rattle.model.specs.Step.{Request, asked, questions, step}

-- an accepted record: the book that it got, what it asked, its answer, the book that it left
pub record Entry : Type 0 where
  pub before : Book
  pub call : Call
  pub answer : Answer
  pub later : Book

abbrev pub entry : Book → Request → Entry
entry book request =
    record { before = book; call = asked request; answer = (step book request).answer; later = (step book request).book }

-- a record's entry, if no question refuses it, before those of the later records
abbrev pub enter : Option ℕ → Entry → List Entry → List Entry
enter None e later = e ∷ later
enter (Some question) e later = later

-- the accepted records of the list, in order
unfoldable pub accepted : Book → List Request → List Entry
accepted book [] = []
accepted book (request ∷ requests) =
    enter (first_no (questions book request)) (entry book request) (accepted (step book request).book requests)

-- all that f finds in the entries, in order; and the last
abbrev pub listed : {A : Type 0} → Option A → List A
listed None = []
listed (Some a) = a ∷ []

abbrev pub gather : {A : Type 0} → (Entry → Option A) → List Entry → List A
gather f [] = []
gather f (e ∷ entries) = listed (f e) ++ gather f entries

abbrev pub or_else : {A : Type 0} → Option A → Option A → Option A
or_else None other = other
or_else (Some a) other = Some a

abbrev pub last_of : {A : Type 0} → (Entry → Option A) → List Entry → Option A
last_of f [] = None
last_of f (e ∷ entries) = or_else (last_of f entries) (f e)

-- the rate that a call gives for the year, where `taken` has the months that RATE with a year alone takes
abbrev pub rate_from : (ℕ → List ℕ) → ℕ → Call → Option ℕ
rate_from taken y (declare letter opening) = None
rate_from taken y (set_rate year months) = if eqb y year then Some (rate_of months) else None
rate_from taken y (add_pattern letter year paid incurred) = None
rate_from taken y (close_year letter year paid unpaid tabular) = None
rate_from taken y (totals letter) = None
rate_from taken y (register_month year month rate) = None
rate_from taken y (set_rate_from_register year) = if eqb y year then Some (rate_of (taken year)) else None

-- the rate that a call gives for the month of a year
abbrev pub month_from : ℕ → ℕ → Call → Option ℕ
month_from y m (declare letter opening) = None
month_from y m (set_rate year months) = None
month_from y m (add_pattern letter year paid incurred) = None
month_from y m (close_year letter year paid unpaid tabular) = None
month_from y m (totals letter) = None
month_from y m (register_month year month rate) = if eqb y year && eqb m month then Some rate else None
month_from y m (set_rate_from_register year) = None

-- the payments by age that a call gives for the letter and the accident year
abbrev pub payments_from : ℕ → ℕ → Call → Option (List ℕ)
payments_from l y (declare letter opening) = None
payments_from l y (set_rate year months) = None
payments_from l y (add_pattern letter year paid incurred) = if eqb l letter && eqb y year then Some (schedule letter (ages_of paid incurred)) else None
payments_from l y (close_year letter year paid unpaid tabular) = None
payments_from l y (totals letter) = None
payments_from l y (register_month year month rate) = None
payments_from l y (set_rate_from_register year) = None

-- the pattern that the book keeps last after a call that gives one for the letter
abbrev pub kept_from : ℕ → Call → Book → Option Kept
kept_from l (declare letter opening) later = None
kept_from l (set_rate year months) later = None
kept_from l (add_pattern letter year paid incurred) later = if eqb l letter then latest (later.lines letter).kept else None
kept_from l (close_year letter year paid unpaid tabular) later = None
kept_from l (totals letter) later = None
kept_from l (register_month year month rate) later = None
kept_from l (set_rate_from_register year) later = None

-- the opening that a call declares for the letter
abbrev pub declared_from : ℕ → Call → Option ℕ
declared_from l (declare letter opening) = if eqb l letter then Some opening else None
declared_from l (set_rate year months) = None
declared_from l (add_pattern letter year paid incurred) = None
declared_from l (close_year letter year paid unpaid tabular) = None
declared_from l (totals letter) = None
declared_from l (register_month year month rate) = None
declared_from l (set_rate_from_register year) = None

-- the year that a call closes for the letter
abbrev pub year_from : ℕ → Call → Option ℕ
year_from l (declare letter opening) = None
year_from l (set_rate year months) = None
year_from l (add_pattern letter year paid incurred) = None
year_from l (close_year letter year paid unpaid tabular) = if eqb l letter then Some year else None
year_from l (totals letter) = None
year_from l (register_month year month rate) = None
year_from l (set_rate_from_register year) = None

-- the sum of every paid that a call which closes a year of the letter lists, the prior row's too; 0 of any other
abbrev pub paid_from : ℕ → Call → ℤ
paid_from l (declare letter opening) = pos 0
paid_from l (set_rate year months) = pos 0
paid_from l (add_pattern letter year paid incurred) = pos 0
paid_from l (close_year letter year paid unpaid tabular) = if eqb l letter then total (λ v. v) paid else pos 0
paid_from l (totals letter) = pos 0
paid_from l (register_month year month rate) = pos 0
paid_from l (set_rate_from_register year) = pos 0

-- the paid, the loss, and the year with its closing, that a TAX of the letter answers
abbrev pub paid_answered : ℕ → Answer → ℤ
paid_answered l (declared letter opening) = pos 0
paid_answered l (rated year rate) = pos 0
paid_answered l (fact letter year factors composite) = pos 0
paid_answered l (tax letter year paid opening closing loss) = if eqb l letter then paid else pos 0
paid_answered l (summed letter years paid losses) = pos 0
paid_answered l (registered year month rate) = pos 0
paid_answered l (refusal question) = pos 0

abbrev pub loss_from : ℕ → Answer → ℤ
loss_from l (declared letter opening) = pos 0
loss_from l (rated year rate) = pos 0
loss_from l (fact letter year factors composite) = pos 0
loss_from l (tax letter year paid opening closing loss) = if eqb l letter then loss else pos 0
loss_from l (summed letter years paid losses) = pos 0
loss_from l (registered year month rate) = pos 0
loss_from l (refusal question) = pos 0

abbrev pub closed_from : ℕ → Answer → Option Closed
closed_from l (declared letter opening) = None
closed_from l (rated year rate) = None
closed_from l (fact letter year factors composite) = None
closed_from l (tax letter year paid opening closing loss) = if eqb l letter then Some (record { year = year; closing = closing }) else None
closed_from l (summed letter years paid losses) = None
closed_from l (registered year month rate) = None
closed_from l (refusal question) = None

-- F-4: the rates of all accepted MIDTs of the month of a year
unfoldable pub months_in : List Entry → ℕ → ℕ → List ℕ
months_in h y m = gather (λ e. month_from y m e.call) h

-- F-4: "takes the sixty months from January five years before to December of the year before": the rates of all accepted MIDTs of these months, in their order
unfoldable pub taken_in : List Entry → ℕ → List ℕ
taken_in h year = joined (sixty_months (months_in h) year)

-- "with the rate from that year's RATE": the rates of all accepted RATEs of the year, in either form
unfoldable pub rates_in : List Entry → ℕ → List ℕ
rates_in h y = gather (λ e. rate_from (taken_in h) y e.call) h

-- "A pattern and its exact ratios come from the PATT of that letter and accident year": the payments of all accepted PATTs of the letter and the year
unfoldable pub payments_in : List Entry → ℕ → ℕ → List (List ℕ)
payments_in h l y = gather (λ e. payments_from l y e.call) h

-- the patterns that the accepted PATTs of the letter had the book keep, in order
unfoldable pub kept_in : List Entry → ℕ → List Kept
kept_in h l = gather (λ e. kept_from l e.call e.later) h

-- "The declared opening is that of the line's LINE.": the openings of all accepted LINEs of the letter
unfoldable pub openings_in : List Entry → ℕ → List ℕ
openings_in h l = gather (λ e. declared_from l e.call) h

-- the years of all accepted YEARs of the letter
unfoldable pub years_in : List Entry → ℕ → List ℕ
years_in h l = gather (λ e. year_from l e.call) h

-- "Their payments are the sum of every paid in these records, prior rows too."
unfoldable pub paid_in : List Entry → ℕ → ℤ
paid_in h l = total (λ e. paid_from l e.call) h

-- and as answered in TAX
unfoldable pub paid_answered_in : List Entry → ℕ → ℤ
paid_answered_in h l = total (λ e. paid_answered l e.answer) h

-- "Their losses and the last closing are as answered in TAX."
unfoldable pub losses_in : List Entry → ℕ → ℤ
losses_in h l = total (λ e. loss_from l e.answer) h

unfoldable pub closed_in : List Entry → ℕ → Option Closed
closed_in h l = last_of (λ e. closed_from l e.answer) h
