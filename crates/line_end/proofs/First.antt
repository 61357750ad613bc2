-- The first byte 10 of some bytes.
-- Assumes nothing.
use Rattle.std.specs.Prelude.{if◌then◌else◌}
use mathlib.Core.Bool.{Bool, true, false}
use mathlib.Core.List.{List, [], ◌∷◌, ◌++◌}
use mathlib.Core.Path.{◌≡◌, refl}
use Prim.Native.Nat.{ℕ, suc, ◌+◌, ◌-◌, ◌≤◌, ◌<◌}
use native.Mathlib.Omega.{arith}
use borrow.Author.Tests.{eq-eqb, ne_eqb}
use lib.Dec.{eqb}
use lib.ListN.{length, take, drop, get_or, length-take}
use lib.Seq.{drop-length}
use Rattle.line_end.specs.Index.{index_of}
use Rattle.model.specs.Basics.{among}
use Rattle.model.proofs.Lists.{drop_next}
use Rattle.line_end.proofs.Blocks.{among_by}

pub index_none : index_of 10 [] ≡ 0
unfolding index_of
index_none = refl

index_by : (b : ℕ) (bytes : List ℕ) (t : Bool) → eqb b 10 ≡ t → index_of 10 (b ∷ bytes) ≡ (if t then 0 else suc (index_of 10 bytes))
unfolding index_of
index_by b bytes true e = rw e
index_by b bytes false e = rw e

-- the place is not past the end
within_by : (b : ℕ) (bytes : List ℕ) → index_of 10 bytes ≤ length bytes → (t : Bool) → eqb b 10 ≡ t → index_of 10 (b ∷ bytes) ≤ length (b ∷ bytes)
within_by b bytes more true e = rw (index_by b bytes true e) (omega arith)
within_by b bytes more false e = rw (index_by b bytes false e) (omega arith)

index_within : (bytes : List ℕ) → index_of 10 bytes ≤ length bytes
index_within [] = omega (arith, index_none)
index_within (b ∷ bytes) = within_by b bytes (index_within bytes) (eqb b 10) refl

pub first_within : (bytes : List ℕ) (size first : ℕ) → first ≡ index_of 10 (take size bytes) → first ≤ size
first_within bytes size first e = omega (arith, index_within (take size bytes), length-take size bytes)

-- of bytes and a rest: in the bytes, where one of them is a byte 10, and else in the rest
abbrev Joined : List ℕ → List ℕ → Type 0
Joined bytes rest = index_of 10 (bytes ++ rest) ≡ (if among 10 bytes then index_of 10 bytes else length bytes + index_of 10 rest)

one_more_lem : (found : Bool) (x y z : ℕ) → suc (if found then x else y + z) ≡ (if found then suc x else suc y + z)
one_more_lem true x y z = refl
one_more_lem false x y z = omega arith

joined_by : (b : ℕ) (bytes rest : List ℕ) → Joined bytes rest → (t : Bool) → eqb b 10 ≡ t → Joined (b ∷ bytes) rest
joined_by b bytes rest more true e = rw (among_by b bytes true e, index_by b (bytes ++ rest) true e, index_by b bytes true e)
joined_by b bytes rest more false e =
    rw (among_by b bytes false e, index_by b (bytes ++ rest) false e, index_by b bytes false e, more) (one_more_lem (among 10 bytes) (index_of 10 bytes) (length bytes) (index_of 10 rest))

pub index_joined : (bytes rest : List ℕ) → Joined bytes rest
index_joined [] rest = omega arith
index_joined (b ∷ bytes) rest = joined_by b bytes rest (index_joined bytes rest) (eqb b 10) refl

-- those from place i on are looked at
abbrev pub Searched : List ℕ → ℕ → ℕ → Type 0
Searched bytes first i = first ≡ i + index_of 10 (drop i bytes)

pub search_start : (bytes : List ℕ) → Searched bytes (length bytes) (length bytes)
search_start bytes = rw (drop-length bytes) (omega (arith, index_none))

module _ (bytes : List ℕ) (first i : ℕ) (s : Searched bytes first i) (lt : 0 < i) (le : i ≤ length bytes) where
  next : (t : Bool) → eqb (get_or bytes (i - 1) 0) 10 ≡ t → index_of 10 (drop (i - 1) bytes) ≡ (if t then 0 else suc (index_of 10 (drop i bytes)))
  next t e =
      let back : (i - 1) + 1 ≡ i = omega arith in
      rw (drop_next bytes (i - 1) 0 (omega arith), back) (index_by (get_or bytes (i - 1) 0) (drop i bytes) t e)

  pub search_found : get_or bytes (i - 1) 0 ≡ 10 → Searched bytes (i - 1) (i - 1)
  search_found e = omega (arith, next true (eq-eqb (get_or bytes (i - 1) 0) 10 e))

  pub search_on : (get_or bytes (i - 1) 0 ≡ 10 → ⊥) → Searched bytes first (i - 1)
  search_on n = omega (arith, s, next false (ne_eqb (get_or bytes (i - 1) 0) 10 n))
