-- Numbers that are put one after the other, each after a tab.
-- Assumes nothing.
use Rattle.std.proofs.Common.{List, [], ◌∷◌, ◌++◌, map, ◌≡◌, sym, ◌∙◌, append_assoc, append-nil, ℕ, ◌+◌, ◌*◌, ◌<◌, ◌≤◌, arith, add-one, length, take, get_or, take-suc, take_all}
use Rattle.model.specs.Number.{decimal}
use Rattle.model.specs.Answer.{line_of_text}
use Rattle.answer.specs.Put.{tabbed}

-- one number more
tabbed_more : (list : List ℕ) (n : ℕ) → tabbed (list ++ (n ∷ [])) ≡ tabbed list ++ (9 ∷ decimal n)
unfolding tabbed
tabbed_more [] n = rw (append-nil (decimal n))
tabbed_more (m ∷ list) n = rw (tabbed_more list n, append_assoc (decimal m) (tabbed list))

-- a line of a word and numbers
pub numbers_line : (f : List ℕ) (list : List ℕ) → line_of_text (f ∷ map decimal list) ≡ (f ++ tabbed list) ++ (10 ∷ [])
unfolding tabbed
numbers_line f [] = rw (append-nil f)
numbers_line f (n ∷ list) = rw (numbers_line (decimal n) list) (sym (append_assoc f (9 ∷ (decimal n ++ tabbed list)) (10 ∷ [])))

module _ (list : List ℕ) where
  -- the first numbers of the list are put, `i` of them
  pub record Listing (first out : List ℕ) (i : ℕ) : Type 0 where
    pub put : out ≡ first ++ tabbed (take i list)
    pub short : length out ≤ length first + 21 * i

  pub list_start : (first out : List ℕ) → out ≡ first → Listing first out 0
  unfolding tabbed
  list_start first out e = record { put = e ∙ sym (append-nil first); short = rw e (omega arith) }

  pub list_on : (first out : List ℕ) (i : ℕ) → Listing first out i → i < length list → (n : ℕ) → get_or list i 0 ≡ n → (later : List ℕ) → later ≡ out ++ (9 ∷ decimal n)
      → length later ≤ length out + 21 → Listing first later (i + 1)
  list_on first out i l lt n e later p few =
      record {
        put = p ∙ rw (l.put, add-one i, take-suc list i 0 lt, e, tabbed_more (take i list) n) (append_assoc first (tabbed (take i list)) (9 ∷ decimal n));
        short = omega (arith, l.short, few);
      }

  pub list_end : (first out : List ℕ) (i : ℕ) → Listing first out i → length list ≤ i → out ≡ first ++ tabbed list
  list_end first out i l le = rw (take_all i list le) at l.put

  -- all are put, and the line ends
  pub line_end : (first out : List ℕ) (i : ℕ) → Listing first out i → length list ≤ i → out ++ (10 ∷ []) ≡ line_of_text (first ∷ map decimal list)
  line_end first out i l le = rw (list_end first out i l le) (sym (numbers_line first list))
