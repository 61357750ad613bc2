-- A number's digits are those that std writes; and texts one after the other.
-- Assumes nothing.
use Rattle.std.proofs.Common.{List, [], ◌∷◌, ◌++◌, ◌≡◌, refl, sym, ap, ◌∙◌, append_assoc, append-nil, ℕ, zero, suc, ◌+◌, ◌-◌, ◌/◌, ◌%◌, ◌^◌, ◌<◌, ℤ, pos, negsuc, arith, map, ⊎_elim, eq-zero-or-pos, lt-ltb, le-ltb, true, length, take, drop, drop-drop}
use Rattle.std.specs.Fmt as std
use Rattle.std.proofs.lemmas.Fmt.{decimal_digit, decimal_step}
use lib.Signed.{mag}
use Rattle.model.specs.Number.{digits_before, decimal, signed_decimal}
use Rattle.model.specs.Answer.{line_of_text}
use Rattle.answer.specs.Put.{placed, tabbed}
use Rattle.answer.specs.Text.{has_room, PutsWithRoom}

-- the model's digits before others, by more steps than are needed
digits_are : (more n : ℕ) (others : List ℕ) → n < more → n < 2 ^ 64 → digits_before more n others ≡ std.decimal n ++ others
unfolding digits_before
digits_are zero n others e small = absurd (omega arith)
digits_are (suc more) n others e small =
    ⊎_elim
    (λ (z : n - 9 ≡ 0). rw (lt-ltb n 10 (omega arith), decimal_digit n (omega arith)))
    (λ (lt : 0 < n - 9).
    rw (le-ltb n 10 (omega arith), digits_are more (n / 10) ((48 + n % 10) ∷ others) (omega arith) (omega arith), decimal_step n (omega arith) small)
    (sym (append_assoc (std.decimal (n / 10)) ((48 + n % 10) ∷ []) others)))
    (eq-zero-or-pos (n - 9))

pub decimal_is : (n : ℕ) → n < 2 ^ 64 → std.decimal n ≡ decimal n
unfolding decimal
decimal_is n small = sym (digits_are (suc n) n [] (omega arith) small ∙ append-nil (std.decimal n))

pub signed_is : (v : ℤ) → mag v < 2 ^ 63 → std.signed_decimal v ≡ signed_decimal v
signed_is (pos n) small = decimal_is n (omega arith)
signed_is (negsuc n) small = ap (λ (l : List ℕ). 45 ∷ l) (decimal_is (suc n) (omega arith))

-- the text of a FACT: the factors, each after its tab, and the composite
pub fact_line : (f g : List ℕ) (list : List ℕ) → line_of_text (f ∷ (map decimal list ++ (g ∷ []))) ≡ f ++ (tabbed list ++ (9 ∷ (g ++ (10 ∷ []))))
unfolding tabbed
fact_line f g [] = refl
fact_line f g (n ∷ list) = rw (fact_line (decimal n) g list, append_assoc (decimal n) (tabbed list))

-- texts put one after the other are one text
pub joined : (a b c : List ℕ) → (a ++ b) ++ c ≡ a ++ (b ++ c)
joined a b c = append_assoc a b c

-- a text was put where the longest text has room
pub put_where_room : (buffer : List ℕ) (at : ℕ) (text : List ℕ) (count : ℕ) → count ≡ length text → has_room buffer at ≡ true
    → (copied : List ℕ) → copied ≡ text → PutsWithRoom buffer at text (take at buffer ++ (copied ++ drop (at + count - at) (drop at buffer))) (at + count)
unfolding placed
put_where_room buffer at text count en e copied ec =
    let reached : at + (at + count - at) ≡ at + count = omega arith in
    record { whole = rw (e, ec, drop-drop, reached, en); after_it = rw (e, en) }
