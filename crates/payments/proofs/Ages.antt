-- A pattern record's ages: whether each has its incurred, and the loop over what each pays.
-- Assumes nothing.
use mathlib.Core.Path.{◌≡◌, refl, sym, ap, ◌∙◌}
use mathlib.Core.Bool.{true, ◌&&◌}
use mathlib.Core.List.{List, [], ◌∷◌, ◌++◌, map, append-nil}
use Prim.Native.Nat.{ℕ, zero, suc, ◌+◌, ◌-◌, ◌*◌, ◌≤◌, ◌<◌}
use native.Mathlib.Omega.{arith}
use native.Mathlib.Numerals.{add-one}
use borrow.Author.Tests.{leb-true, ltb-true, le-leb, lt-leb, lt-ltb}
use lib.Dec.{leb, ltb}
use lib.ListN.{length, take, drop, get_or, set, drop_of_length-le, length-set}
use lib.Seq.{take-suc-set, append_snoc}
use Rattle.model.specs.Basics.{last_or}
use Rattle.std.specs.List.{list_all, zip}
use Rattle.std.proofs.lemmas.List.Folds.{list_all-map}
use Rattle.std.specs.Prelude.{Some, None}
use Rattle.model.specs.Kind.{is_amount}
use Rattle.model.specs.Pattern.{age, Age, ages_of, cumulative_ratio, cumulative, payments}
use Rattle.model.specs.Question.{is_incurred, climbs_from}
use Rattle.model.proofs.Lists.{and_left, and_right, all_at, drop_next}
use Rattle.model.proofs.Unpaid.{ratio_small}
use Rattle.model.proofs.Ages.{length_ages_of}
use Rattle.payments.specs.Ratio.{Sound}
use Rattle.payments.specs.Payment.{Paired, Payable}
use Rattle.payments.specs.PaidByAge.{PaidByAge}

-- an age of the two lists
pub age_at : (paid incurred : List ℕ) (i : ℕ) → length incurred ≡ length paid → i < length paid → get_or (ages_of paid incurred) i (age 0 0) ≡ age (get_or paid i 0) (get_or incurred i 0)
age_at [] incurred i e lt = absurd (omega arith)
age_at (p ∷ paid) [] i e lt = absurd (omega arith)
age_at (p ∷ paid) (c ∷ incurred) zero e lt = refl
age_at (p ∷ paid) (c ∷ incurred) (suc i) e lt = age_at paid incurred i (omega arith) (omega arith)

pub ages_length : (paid incurred : List ℕ) → Paired paid incurred → length (ages_of paid incurred) ≡ length paid
ages_length paid incurred p = length_ages_of (length paid) paid incurred refl p.same

-- the ages of two lists as their pairs
pairs : (paid incurred : List ℕ) → ages_of paid incurred ≡ map (λ (p : ℕ × ℕ). age p.0 p.1) (zip paid incurred)
pairs [] incurred = refl
pairs (p ∷ paid) [] = refl
pairs (p ∷ paid) (i ∷ incurred) = ap (λ (ages : List Age). age p i ∷ ages) (pairs paid incurred)

pub have_incurred : (paid incurred : List ℕ) → list_all (λ (p : ℕ × ℕ). is_incurred (age p.0 p.1)) (zip paid incurred) ≡ list_all is_incurred (ages_of paid incurred)
have_incurred paid incurred = rw (pairs paid incurred) (sym (list_all-map is_incurred (λ (p : ℕ × ℕ). age p.0 p.1) (zip paid incurred)))

incurred_some : (p i : ℕ) → (i ≡ 0 → ⊥) → p ≤ i → is_incurred (age p i) ≡ true
incurred_some p i n le = rw (lt-ltb 0 i (omega arith), le-leb p i le)

-- an age of a payable record has a ratio
pub sound_at : (paid incurred : List ℕ) (i : ℕ) → Payable paid incurred → i < length paid → Sound (get_or paid i 0) (get_or incurred i 0)
sound_at paid incurred i g lt =
    let p : ℕ = get_or paid i 0 in
    let c : ℕ = get_or incurred i 0 in
    let q : is_incurred (age p c) ≡ true = rw (age_at paid incurred i g.pairs.same lt) at (all_at is_incurred (ages_of paid incurred) i (age 0 0) g.sound (omega (arith, ages_length paid incurred g.pairs))) in
    record {
      some = ltb-true 0 c (and_left (ltb 0 c) (leb p c) q);
      covers = leb-true p c (and_right (ltb 0 c) (leb p c) q);
      small = leb-true c 10000000000 (all_at is_amount incurred i 0 g.amounts (omega (arith, g.pairs.same)));
    }

-- the ages before place i are paid: `last` is the ratio before it
pub record Paying (paid incurred pay : List ℕ) (last i : ℕ) : Type 0 where
  pub inside : i ≤ length paid
  pub places : length pay ≡ 16
  pub climbing : climbs_from 0 (map cumulative_ratio (ages_of paid incurred)) ≡ climbs_from last (map cumulative_ratio (drop i (ages_of paid incurred)))
  pub by_age : take i pay ++ payments (2 * last) (map cumulative (drop i (ages_of paid incurred))) ≡ payments 0 (map cumulative (ages_of paid incurred))
  pub in_all : last_or (2 * last) (map cumulative (drop i (ages_of paid incurred))) ≡ last_or 0 (map cumulative (ages_of paid incurred))
  pub small : last ≤ 100000000

pub start : (paid incurred pay : List ℕ) → length pay ≡ 16 → Paying paid incurred pay 0 0
start paid incurred pay n = record { inside = omega arith; places = n; climbing = refl; by_age = refl; in_all = refl; small = omega arith }

module _ (paid incurred pay : List ℕ) (last i : ℕ) (g : Payable paid incurred) (s : Paying paid incurred pay last i) (lt : i < length paid) (ratio : ℕ) (e : ratio ≡ cumulative_ratio (age (get_or paid i 0) (get_or incurred i 0))) where
  abbrev here : Age
  here = age (get_or paid i 0) (get_or incurred i 0)

  rest : drop i (ages_of paid incurred) ≡ here ∷ drop (i + 1) (ages_of paid incurred)
  rest = rw (← age_at paid incurred i g.pairs.same lt) (drop_next (ages_of paid incurred) i (age 0 0) (omega (arith, ages_length paid incurred g.pairs)))

  pub ratio_fits : ratio ≤ 100000000
  ratio_fits =
      let d = sound_at paid incurred i g lt in
      omega (arith, e, ratio_small here (incurred_some (get_or paid i 0) (get_or incurred i 0) (λ z. omega (arith, d.some, z)) d.covers))

  climbing_here : climbs_from 0 (map cumulative_ratio (ages_of paid incurred)) ≡ (leb last ratio && climbs_from ratio (map cumulative_ratio (drop (i + 1) (ages_of paid incurred))))
  climbing_here = rw e (s.climbing ∙ ap (λ (l : List Age). climbs_from last (map cumulative_ratio l)) rest)

  -- a ratio that falls
  pub stop : ratio < last → PaidByAge paid incurred None
  stop l = climbing_here ∙ rw (lt-leb last ratio l)

  -- one that does not
  pub on : last ≤ ratio → Paying paid incurred (set pay i (2 * ratio - 2 * last)) ratio (i + 1)
  on le =
      let cs : List ℕ = map cumulative (drop (i + 1) (ages_of paid incurred)) in
      let by : take i pay ++ ((2 * ratio - 2 * last) ∷ payments (2 * ratio) cs) ≡ payments 0 (map cumulative (ages_of paid incurred)) = rw e (rw rest at s.by_age) in
      let last_of : last_or (2 * ratio) cs ≡ last_or 0 (map cumulative (ages_of paid incurred)) = rw e (rw rest at s.in_all) in
      record {
        inside = omega arith;
        places = rw length-set s.places;
        climbing = climbing_here ∙ rw (le-leb last ratio le);
        by_age = rw (add-one i, take-suc-set pay i (2 * ratio - 2 * last) (omega (arith, s.places, g.pairs.few)), append_snoc, ← add-one i) by;
        in_all = last_of;
        small = ratio_fits;
      }

module _ (paid incurred pay : List ℕ) (last i : ℕ) (g : Payable paid incurred) (s : Paying paid incurred pay last i) (le : length paid ≤ i) where
  pub end : PaidByAge paid incurred (Some (record { pay = pay; last = last }))
  end =
      let n : i ≡ length paid = omega (arith, s.inside) in
      let d : drop i (ages_of paid incurred) ≡ [] = drop_of_length-le (ages_of paid incurred) {i = i} (omega (arith, ages_length paid incurred g.pairs)) in
      record {
        climbs = s.climbing ∙ rw d;
        by_age = rw (← n) (sym (append-nil (take i pay)) ∙ rw d at s.by_age);
        in_all = rw d at s.in_all;
        small = s.small;
        places = s.places;
      }
