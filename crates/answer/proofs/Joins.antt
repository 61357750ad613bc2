-- Texts that are put one after the other are one text.
-- Assumes nothing.
use Rattle.std.proofs.Common.{List, ◌++◌, append_assoc, ◌≡◌, sym, ap, ◌∙◌, ℕ, ◌+◌, ◌≤◌, arith, length, take, drop, length-append, take_at, drop_at, drop-drop, length-take-le}
use Rattle.answer.specs.Put.{placed, Puts}

module _ (buffer : List ℕ) (at : ℕ) (a : List ℕ) (le : at ≤ length buffer) where
  abbrev front : List ℕ
  front = take at buffer ++ a

  abbrev back : List ℕ
  back = drop (at + length a) buffer

  front_length : length front ≡ at + length a
  front_length = rw (length-append, length-take-le at buffer le)

  placed_on : (b : List ℕ) → placed (placed buffer at a) (at + length a) b ≡ placed buffer at (a ++ b)
  unfolding placed
  placed_on b =
      let kept : take (at + length a) (front ++ back) ≡ front = take_at front back (at + length a) front_length in
      let count : at + length a + length b ≡ at + length (a ++ b) = omega (arith, length-append a b) in
      let rest : drop (at + length a + length b) (front ++ back) ≡ drop (at + length (a ++ b)) buffer =
      sym (drop-drop (length b) (at + length a) (front ++ back))
      ∙ ap (drop (length b)) (drop_at front back (at + length a) front_length)
      ∙ drop-drop (length b) (at + length a) buffer
      ∙ ap (λ (k : ℕ). drop k buffer) count in
      rw (← (append_assoc (take at buffer) a back), kept, rest, append_assoc (take at buffer) a (b ++ drop (at + length (a ++ b)) buffer), append_assoc a b (drop (at + length (a ++ b)) buffer))

  pub joined : (b : List ℕ) (middle : List ℕ) (next : ℕ) → Puts buffer at a middle next → (later : List ℕ) (last : ℕ) → Puts middle next b later last → Puts buffer at (a ++ b) later last
  joined b middle next p later last q =
      record {
        whole = q.whole ∙ rw (p.whole, p.after_it) (placed_on b);
        after_it = q.after_it ∙ rw p.after_it (omega (arith, length-append a b));
      }
