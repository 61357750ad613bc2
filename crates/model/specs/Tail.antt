-- Document 01, "Pattern", its second part: the tails, and the payments at all ages. Document 02, F-1: the cap where the tenth year paid nothing.
-- Assumes nothing: these are definitions.
use Rattle.std.specs.Prelude.{List, [], ◌∷◌, ◌++◌, map, ℕ, zero, suc, ◌+◌, ◌-◌, ◌/◌, min, eqb, get_or, if◌then◌else◌}
use Rattle.model.specs.Basics.{last_or}
use Rattle.model.specs.Letter.{ten_year}
use Rattle.model.specs.Pattern.{Age, cumulative, payments, whole}

-- n ages that each pay the smaller of the cap and what is unpaid before them, and one more that pays the rest
abbrev pub capped : ℕ → ℕ → ℕ → List ℕ
capped zero cap left = left ∷ []
capped (suc n) cap left = min cap left ∷ capped n cap (left - min cap left)

-- "where the payment at age 10 is 0, the cap for ages 11 to 15 is the mean of the payments at ages 8, 9 and 10, rounded down to a half unit"; else it is the payment at age 10
abbrev pub tail_cap : ℕ → ℕ → ℕ → ℕ
tail_cap eighth ninth tenth = if eqb tenth 0 then (eighth + ninth + tenth) / 3 else tenth

-- "Ten-year tail: ages 11 to 15 each pay the smaller of the payment at age 10" (by F-1: of the cap) "and what is unpaid before them. Age 16 pays the rest."
abbrev pub ten_year_tail : ℕ → ℕ → ℕ → ℕ → List ℕ
ten_year_tail eighth ninth tenth left = capped 5 (tail_cap eighth ninth tenth) left

-- "Two-year tail: ages 3 and 4 each pay half of what is unpaid after age 2, which is even."
abbrev pub two_year_tail : ℕ → List ℕ
two_year_tail left = (left / 2) ∷ (left / 2) ∷ []

-- the payment at an age, of a list that begins with age 1
abbrev pub payment_at : ℕ → List ℕ → ℕ
payment_at age paid = get_or paid (age - 1) 0

-- the payments at ages 1 to 16 of a ten-year line, or 1 to 4 of a two-year line
unfoldable pub schedule : ℕ → List Age → List ℕ
schedule letter given =
    let cumulatives = map cumulative given in
    let paid = payments 0 cumulatives in
    let left = whole - last_or 0 cumulatives in
    paid ++ (if ten_year letter then ten_year_tail (payment_at 8 paid) (payment_at 9 paid) (payment_at 10 paid) left else two_year_tail left)
