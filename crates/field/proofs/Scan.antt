-- The first tab.
-- Assumes nothing.
use Rattle.std.specs.Prelude.{if◌then◌else◌, None, Some}
use Rattle.std.specs.List.{position, position_or_len}
use mathlib.Core.Bool.{Bool, true, false, cond}
use mathlib.Core.Path.{◌≡◌, refl, sym, ap, ◌∙◌}
use mathlib.Core.List.{List, [], ◌∷◌}
use Prim.Native.Nat.{ℕ, suc, ◌+◌, ◌≤◌, ◌<◌}
use native.Mathlib.Omega.{arith}
use borrow.Author.Tests.{ltb-true, ltb-false}
use lib.Dec.{eqb, ltb}
use lib.ListN.{length, take}
use lib.Seq.{take_all}
use Rattle.model.specs.Input.{push}
use Rattle.model.specs.Field.{fields, field}
use Rattle.model.proofs.Lists.{Some≢None}

abbrev pub is_tab : ℕ → Bool
is_tab b = eqb b 9

-- the part before the first tab
abbrev pub before : List ℕ → List ℕ
before [] = []
before (b ∷ bs) = if eqb b 9 then [] else (b ∷ before bs)

-- the first field is that part
push_first : (b : ℕ) (fs : List (List ℕ)) → field 0 (push b fs) ≡ b ∷ field 0 fs
push_first b [] = refl
push_first b (f ∷ fs) = refl

first_by : (b : ℕ) (fs : List (List ℕ)) (p : List ℕ) (t : Bool) → field 0 fs ≡ p → field 0 (if t then [] ∷ fs else push b fs) ≡ (if t then [] else (b ∷ p))
first_by b fs p true e = refl
first_by b fs p false e = rw (push_first b fs, e)

pub first_field : (s : List ℕ) → field 0 (fields s) ≡ before s
unfolding fields
first_field [] = refl
first_field (b ∷ bs) = first_by b (fields bs) (before bs) (eqb b 9) (first_field bs)

-- up to the first tab's place, or whole where there is none
to_tab_by : (b : ℕ) (bs : List ℕ) (t : Bool) → eqb b 9 ≡ t → before bs ≡ take (position_or_len is_tab bs) bs → before (b ∷ bs) ≡ take (position_or_len is_tab (b ∷ bs)) (b ∷ bs)
to_tab_by b bs true e h = rw e
to_tab_by b bs false e h =
    let next : 1 + position_or_len is_tab bs ≡ suc (position_or_len is_tab bs) = omega arith in
    rw (e, next) (ap (λ (l : List ℕ). b ∷ l) h)

to_tab : (s : List ℕ) → before s ≡ take (position_or_len is_tab s) s
to_tab [] = refl
to_tab (b ∷ bs) = to_tab_by b bs (eqb b 9) refl (to_tab bs)

-- that part is as long as the place of the tab
long_by : (b : ℕ) (bs : List ℕ) (t : Bool) → eqb b 9 ≡ t → length (before bs) ≡ position_or_len is_tab bs → length (before (b ∷ bs)) ≡ position_or_len is_tab (b ∷ bs)
long_by b bs true e h = rw e
long_by b bs false e h = rw e (omega arith)

pub before_long : (s : List ℕ) → length (before s) ≡ position_or_len is_tab s
before_long [] = refl
before_long (b ∷ bs) = long_by b bs (eqb b 9) refl (before_long bs)

-- there is a tab, at the end of that part, or there is none
tab_by : (s : List ℕ) (tab : ℕ) (t : Bool) → ltb (position_or_len is_tab s) (length s) ≡ t → Some tab ≡ cond t (Some (position_or_len is_tab s)) None → (tab ≡ length (before s)) × (tab < length s)
tab_by s tab true q e = let same : tab ≡ position_or_len is_tab s = cc in (same ∙ sym (before_long s), rw same (ltb-true (position_or_len is_tab s) (length s) q))
tab_by s tab false q e = absurd (Some≢None tab e)

pub tab_found : (s : List ℕ) (tab : ℕ) → Some tab ≡ position is_tab s → (tab ≡ length (before s)) × (tab < length s)
tab_found s tab e = tab_by s tab (ltb (position_or_len is_tab s) (length s)) refl e

none_by : (s : List ℕ) (t : Bool) → ltb (position_or_len is_tab s) (length s) ≡ t → None ≡ cond t (Some (position_or_len is_tab s)) None → length s ≤ length (before s)
none_by s true q e = absurd (Some≢None (position_or_len is_tab s) (sym e))
none_by s false q e = rw (before_long s) (ltb-false (position_or_len is_tab s) (length s) q)

pub no_tab : (s : List ℕ) → None ≡ position is_tab s → length s ≤ length (before s)
no_tab s e = none_by s (ltb (position_or_len is_tab s) (length s)) refl e

-- the first field, up to the tab or whole
pub first_is : (s : List ℕ) (tab : ℕ) → Some tab ≡ position is_tab s → take tab s ≡ field 0 (fields s)
first_is s tab e = let same : tab ≡ position_or_len is_tab s = (tab_found s tab e).0 ∙ before_long s in rw (first_field s, to_tab s, same)

pub first_whole : (s : List ℕ) → None ≡ position is_tab s → s ≡ field 0 (fields s)
first_whole s e = rw (first_field s, to_tab s) (sym (take_all (position_or_len is_tab s) s (omega (arith, no_tab s e, before_long s))))
