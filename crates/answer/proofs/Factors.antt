-- The published factors of a pattern in the store: one for each age, each at its place.
-- Assumes nothing.
use Rattle.std.proofs.Common.{Bool, true, false, List, ◌∷◌, ◌++◌, map, ◌≡◌, refl, ap, ◌∙◌, ℕ, ◌+◌, ◌<◌, ◌≤◌, arith, length, take, drop, get_or, length-drop, get_or-take, length-take-le}
use lib.ListN.{length-map, length-replicate, get_or-map}
use Rattle.model.specs.Letter.{covered, ages}
use Rattle.model.specs.Number.{decimal}
use Rattle.model.specs.Published.{published}
use Rattle.model.proofs.Ages.{ages_small}
use Rattle.state.specs.Store.{piece, size}
use Rattle.state.specs.Patterns.{slot_start, slot_at, factor_in, factor_at, pattern_at}
use Rattle.state.proofs.Places.{covered_place}
use Rattle.answer.specs.Put.{tabbed}
use Rattle.answer.proofs.Listing.{Listing, list_on, list_end}

module _ (store : List ℕ) (letter year : ℕ) where
  abbrev slot : List ℕ
  slot = slot_at store letter year

  abbrev pub factors : List ℕ
  factors = map published (pattern_at store letter year).factors

  -- a store of its full size has every cell of the slot
  slot_cells : (t : Bool) → covered letter ≡ t → length store ≡ size → length slot ≡ 11
  unfolding slot_at piece
  slot_cells true c n = rw c (length-take-le 11 (drop (slot_start letter year) store) (rw length-drop (omega (arith, covered_place letter c))))
  slot_cells false c n = rw c (length-replicate {A = ℕ} 11 0)

  factor_count : length store ≡ size → length factors ≡ ages letter
  factor_count n =
      length-map (pattern_at store letter year).factors published
      ∙ length-map (take (ages letter) slot) factor_in
      ∙ length-take-le (ages letter) slot (omega (arith, ages_small letter, slot_cells (covered letter) refl n))

  factor_is : (i : ℕ) → i < ages letter → get_or factors i 0 ≡ published (factor_at store letter year i)
  factor_is i lt =
      get_or-map published (pattern_at store letter year).factors i 0
      ∙ ap published (get_or-map factor_in (take (ages letter) slot) i 0 ∙ ap factor_in (get_or-take (ages letter) slot i 0 lt))

  -- the factor of one age more is put
  pub factors_on : (first out : List ℕ) (i : ℕ) → Listing factors first out i → length store ≡ size → i < ages letter → (later : List ℕ) → later ≡ out ++ (9 ∷ decimal (published (factor_at store letter year i)))
      → length later ≤ length out + 21 → Listing factors first later (i + 1)
  factors_on first out i l n lt = list_on factors first out i l (omega (arith, factor_count n)) (published (factor_at store letter year i)) (factor_is i lt)

  -- those of all ages are put
  pub factors_end : (first out : List ℕ) (i : ℕ) → Listing factors first out i → length store ≡ size → ages letter ≤ i → out ≡ first ++ tabbed factors
  factors_end first out i l n le = list_end factors first out i l (omega (arith, factor_count n))
