-- What `mean_rate` answers.
-- Assumes nothing: these are definitions.
use Rattle.std.specs.Prelude.{Bool, List, [], ◌∷◌, ℕ, Result}
use Rattle.std.specs.List.{list_all}
use Rattle.model.specs.Kind.{is_rate}
use Rattle.model.specs.Call.{set_rate}
use Rattle.model.specs.Question.{has_lengths, first_no}
use Rattle.model.specs.Rate.{rate_of}
use Rattle.refusal.specs.Unless.{unless}
use Rattle.refusal.specs.declared.Refusal.{Refusal}

-- "4. Is the count of fields right?" "6. Is every number within its limits?": of the months. (The year of the call is not looked at.)
abbrev pub month_questions : List ℕ → List (ℕ × Bool)
month_questions months = (4, has_lengths (set_rate 0 months)) ∷ (6, list_all is_rate months) ∷ []

-- the rate, unless one of them is answered no
abbrev pub mean_of : List ℕ → Result ℕ Refusal
mean_of months = unless (first_no (month_questions months)) (rate_of months)
