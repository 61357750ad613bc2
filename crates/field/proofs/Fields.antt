-- The fields of a line, one after the other.
-- Assumes nothing.
use Rattle.std.specs.Prelude.{if◌then◌else◌, Option, None, Some}
use Rattle.std.specs.List.{filter, position}
use mathlib.Core.Bool.{Bool, true, false}
use mathlib.Core.Path.{◌≡◌, refl, sym, ap, ◌∙◌}
use mathlib.Core.List.{List, [], ◌∷◌}
use Prim.Native.Nat.{ℕ, suc, ◌+◌, ◌-◌, ◌≤◌, ◌<◌, min}
use native.Mathlib.Omega.{arith, by_contra}
use borrow.Author.Tests.{eq-eqb, ne_eqb, eqb-true, eqb-false}
use lib.Dec.{eqb}
use lib.ListN.{length, take, drop, length-take, length-drop}
use lib.Seq.{drop-drop, take_all}
use Rattle.model.specs.Input.{push}
use Rattle.model.specs.Field.{fields, field}
use Rattle.field.specs.Place.{At, Starts}
use Rattle.field.proofs.Scan.{is_tab, before, first_field, tab_found, no_tab}

fields_cons : (b : ℕ) (bs : List ℕ) → fields (b ∷ bs) ≡ (if eqb b 9 then [] ∷ fields bs else push b (fields bs))
unfolding fields
fields_cons b bs = refl

fields_nil : fields [] ≡ [] ∷ []
unfolding fields
fields_nil = refl

-- there is a field
push_some : (b : ℕ) (fs : List (List ℕ)) → 0 < length (push b fs)
push_some b [] = omega arith
push_some b (f ∷ fs) = omega arith

some_by : (b : ℕ) (fs : List (List ℕ)) (t : Bool) → 0 < length (if t then [] ∷ fs else push b fs)
some_by b fs true = omega arith
some_by b fs false = push_some b fs

pub some_field : (s : List ℕ) → 0 < length (fields s)
some_field [] = rw fields_nil (omega arith)
some_field (b ∷ bs) = rw (fields_cons b bs) (some_by b (fields bs) (eqb b 9))

push_long : (b : ℕ) (fs : List (List ℕ)) → 0 < length fs → length (push b fs) ≡ length fs
push_long b [] h = absurd (omega arith)
push_long b (f ∷ fs) h = refl

-- there is a field more than there are tabs
tabs_by : (b : ℕ) (bs : List ℕ) (t : Bool) → eqb b 9 ≡ t → length (filter is_tab bs) + 1 ≡ length (fields bs) → length (filter is_tab (b ∷ bs)) + 1 ≡ length (fields (b ∷ bs))
unfolding fields
tabs_by b bs true e h = rw e (omega arith)
tabs_by b bs false e h = rw (e, push_long b (fields bs) (omega arith)) h

pub tabs : (s : List ℕ) → length (filter is_tab s) + 1 ≡ length (fields s)
unfolding fields
tabs [] = refl
tabs (b ∷ bs) = tabs_by b bs (eqb b 9) refl (tabs bs)

-- so many fields: of the tabs one is looked at that would be too many
as_many_by : (s : List ℕ) (few n : ℕ) (t : Bool) → n ≡ min few (length (filter is_tab s)) → eqb (length (fields s)) few ≡ t → eqb (n + 1) few ≡ t
as_many_by s few n true e q = eq-eqb (n + 1) few (omega (arith, tabs s, eqb-true (length (fields s)) few q))
as_many_by s few n false e q = ne_eqb (n + 1) few (λ (z : n + 1 ≡ few). eqb-false (length (fields s)) few q (omega (arith, tabs s)))

pub as_many : (s : List ℕ) (few n : ℕ) → n ≡ length (take few (filter is_tab s)) → eqb (n + 1) few ≡ eqb (length (fields s)) few
as_many s few n e = as_many_by s few n (eqb (length (fields s)) few) (rw length-take at e) refl

-- the first field is the part before the first tab, and the others are those of what comes after the tab
record Parted (s : List ℕ) : Type 0 where
  within : length (before s) < length s
  parts : fields s ≡ before s ∷ fields (drop (suc (length (before s))) s)

split_by : (b : ℕ) (bs : List ℕ) (t : Bool) → eqb b 9 ≡ t → 1 < length (fields (b ∷ bs)) → (1 < length (fields bs) → Parted bs) → Parted (b ∷ bs)
split_by b bs true e h ih =
    let p : before (b ∷ bs) ≡ [] = rw e in
    record { within = rw p (omega arith); parts = rw (p, fields_cons b bs, e) }
split_by b bs false e h ih =
    let p : before (b ∷ bs) ≡ b ∷ before bs = rw e in
    let q : fields (b ∷ bs) ≡ push b (fields bs) = rw (fields_cons b bs, e) in
    let g : 1 < length (fields bs) = omega (arith, ap length q, push_long b (fields bs) (some_field bs)) in
    record { within = rw p (omega (arith, (ih g).within)); parts = rw (p, q, (ih g).parts) }

split : (s : List ℕ) → 1 < length (fields s) → Parted s
split [] h = absurd (omega (arith, ap length fields_nil))
split (b ∷ bs) h = split_by b bs (eqb b 9) refl h (split bs)

before_by : (b : ℕ) (p bs : List ℕ) (t : Bool) → length p ≤ length bs → length (if t then [] else (b ∷ p)) ≤ suc (length bs)
before_by b p bs true h = omega arith
before_by b p bs false h = omega arith

pub before_le : (s : List ℕ) → length (before s) ≤ length s
before_le [] = omega arith
before_le (b ∷ bs) = before_by b (before bs) bs (eqb b 9) (before_le bs)

-- the rest of a line runs to its end
pub rest_whole : (s : List ℕ) (at : ℕ) → take (length s - at) (drop at s) ≡ drop at s
rest_whole s at = take_all (length s - at) (drop at s) (omega (arith, length-drop at s))

pub rest_of : (s : List ℕ) (at : ℕ) (f : List ℕ) → f ≡ field 0 (fields (take (length s - at) (drop at s))) → f ≡ before (drop at s)
rest_of s at f e = e ∙ rw (rest_whole s at) (first_field (drop at s))

-- one field on
pub next_field : (s : List ℕ) (fs : List (List ℕ)) (at : ℕ) (f : List ℕ) → At s fs at → f ≡ field 0 (fields (take (length s - at) (drop at s))) → 1 < length fs → At s (drop 1 fs) (at + (length f + 1))
next_field s fs at f h ef lt =
    let r = split (drop at s) (rw h.there lt) in
    rw (rest_of s at f ef)
    record {
      inside = omega (arith, r.within, length-drop at s, h.inside);
      there =
          let e : at + (length (before (drop at s)) + 1) ≡ at + suc (length (before (drop at s))) = omega arith in
          rw (e, ← drop-drop (suc (length (before (drop at s)))) at s) (ap (λ (gs : List (List ℕ)). drop 1 gs) (sym r.parts ∙ h.there));
    }

-- the field that is read from `at` on ends within the line
pub ends : (s : List ℕ) (at : ℕ) (f : List ℕ) → at ≤ length s → f ≡ field 0 (fields (take (length s - at) (drop at s))) → at + length f ≤ length s
ends s at f h e = omega (arith, ap length (rest_of s at f e), before_le (drop at s), length-drop at s)

-- the only field is the whole
alone_by : (b : ℕ) (bs : List ℕ) (t : Bool) → eqb b 9 ≡ t → length (fields (b ∷ bs)) ≤ 1 → (length (fields bs) ≤ 1 → before bs ≡ bs) → before (b ∷ bs) ≡ b ∷ bs
alone_by b bs true e h ih =
    let q : fields (b ∷ bs) ≡ [] ∷ fields bs = rw (fields_cons b bs, e) in
    absurd (omega (arith, ap length q, some_field bs))
alone_by b bs false e h ih =
    let q : fields (b ∷ bs) ≡ push b (fields bs) = rw (fields_cons b bs, e) in
    rw (e, ih (omega (arith, ap length q, push_long b (fields bs) (some_field bs))))

alone : (s : List ℕ) → length (fields s) ≤ 1 → before s ≡ s
alone [] h = refl
alone (b ∷ bs) h = alone_by b bs (eqb b 9) refl h (alone bs)

-- where the field at place k begins; just past the line's end where there is no such field
pub record Begins (s : List ℕ) (k at : ℕ) : Type 0 where
  pub here : k < length (fields s) → At s (drop k (fields s)) at
  pub past : length (fields s) ≤ k → at ≡ suc (length s)

pub begins_there : (s : List ℕ) (k at : ℕ) → Starts s k (Some at) → Begins s k at
begins_there s k at h = record { here = λ lt. h.1; past = λ le. absurd (omega (arith, h.0)) }

module _ (s : List ℕ) (k at : ℕ) (h : Begins s k at) where
  -- inside the line there is a field
  pub has_field : at ≤ length s → k < length (fields s)
  has_field le = by_contra (suc k) (length (fields s)) (λ (l : length (fields s) < suc k). omega (arith, h.past (omega arith)))

  pub no_field : length s < at → length (fields s) ≤ k
  no_field lt = by_contra (length (fields s)) k (λ (l : k < length (fields s)). omega (arith, (h.here l).inside))

  -- one field on
  module _ (le : at ≤ length s) (f : List ℕ) (ef : f ≡ field 0 (fields (take (length s - at) (drop at s)))) where
    last : length (fields s) ≤ k + 1 → at + (length f + 1) ≡ suc (length s)
    last few =
        let lt = has_field le in
        let n : length (fields (drop at s)) ≤ 1 = rw (h.here lt).there (omega (arith, length-drop k (fields s))) in
        omega (arith, ap length (rest_of s at f ef), ap length (alone (drop at s) n), length-drop at s)

    pub next_begins : Begins s (k + 1) (at + (length f + 1))
    next_begins =
        record {
          here = λ lt. rw (← drop-drop 1 k (fields s)) (next_field s (drop k (fields s)) at f (h.here (has_field le)) ef (omega (arith, length-drop k (fields s))));
          past = last;
        }

-- after a tab there is a field more, and without one there is none
more_by : (b : ℕ) (bs : List ℕ) (t : Bool) → eqb b 9 ≡ t → length (before (b ∷ bs)) < length (b ∷ bs) → (length (before bs) < length bs → 1 < length (fields bs)) → 1 < length (fields (b ∷ bs))
more_by b bs true e h ih = rw (fields_cons b bs, e) (omega (arith, some_field bs))
more_by b bs false e h ih =
    let n : length (before (b ∷ bs)) ≡ suc (length (before bs)) = rw e in
    rw (fields_cons b bs, e, push_long b (fields bs) (some_field bs)) (ih (omega arith))

more_fields : (s : List ℕ) → length (before s) < length s → 1 < length (fields s)
more_fields [] h = absurd (omega arith)
more_fields (b ∷ bs) h = more_by b bs (eqb b 9) refl h (more_fields bs)

no_more : (s : List ℕ) → length s ≤ length (before s) → length (fields s) ≤ 1
no_more s le = by_contra (length (fields s)) 1 (λ (l : 1 < length (fields s)). omega (arith, (split s l).within))

-- the loop over fields: k of them are passed, and there is one more
pub record Passing (s : List ℕ) (place at k : ℕ) : Type 0 where
  pub upto : k ≤ place
  pub there : k < length (fields s)
  pub here : At s (drop k (fields s)) at

pub pass_start : (s : List ℕ) (place : ℕ) → Passing s place 0 0
pass_start s place = record { upto = omega arith; there = some_field s; here = record { inside = omega arith; there = refl } }

module _ (s : List ℕ) (place at k : ℕ) (p : Passing s place at k) where
  pub pass_end : place ≤ k → Starts s place (Some at)
  pass_end le = let same : place ≡ k = omega (arith, p.upto) in rw same (p.there, p.here)

  pub pass_none : k < place → None ≡ position is_tab (take (length s - at) (drop at s)) → (r : Option ℕ) → r ≡ None → Starts s place r
  pass_none lt e r er =
      let few = no_more (drop at s) (no_tab (drop at s) (rw (rest_whole s at) at e)) in
      rw er (omega (arith, ap length p.here.there, few, length-drop k (fields s)))

  module _ (lt : k < place) (tab : ℕ) (e : Some tab ≡ position is_tab (take (length s - at) (drop at s))) where
    found : (tab ≡ length (before (drop at s))) × (tab < length (drop at s))
    found = tab_found (drop at s) tab (rw (rest_whole s at) at e)

    pub pass_fits : at + (tab + 1) ≤ length s
    pass_fits = omega (arith, found.1, length-drop at s, p.here.inside)

    pub pass_on : Passing s place (at + (tab + 1)) (k + 1)
    pass_on =
        let more : 1 < length (drop k (fields s)) = rw p.here.there at (more_fields (drop at s) (omega (arith, found.0, found.1))) in
        record {
          upto = omega arith;
          there = omega (arith, more, length-drop k (fields s));
          here = rw (← drop-drop 1 k (fields s), found.0) (next_field s (drop k (fields s)) at (before (drop at s)) p.here (rw (rest_whole s at) (sym (first_field (drop at s)))) more);
        }
