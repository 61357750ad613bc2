-- How long a line is by its fields, and how long it is at most where each field is of a kind: one bound, whatever the record.
-- Assumes nothing.
use Rattle.std.specs.Prelude.{if◌then◌else◌}
use mathlib.Core.Path.{◌≡◌, refl}
use mathlib.Core.Bool.{Bool, true, false}
use mathlib.Core.List.{List, [], ◌∷◌}
use Prim.Native.Nat.{ℕ, zero, suc, ◌+◌, ◌*◌, ◌≤◌, ◌<◌}
use native.Mathlib.Omega.{arith}
use lib.Dec.{eqb}
use lib.ListN.{length, drop, drop_of_length-le}
use lib.Seq.{drop-cons}
use Rattle.model.specs.Letter.{ages}
use Rattle.model.specs.Input.{push}
use Rattle.model.specs.Field.{fields, field}
use Rattle.model.specs.Record.{Word, LINE, RATE, RATE_ALONE, PATT, YEAR, SUM, MIDT, OTHER}
use Rattle.model.proofs.Widths.{FieldKind, word, letter, opening, year, register_year, month, rate, amount, paid, fits, width, at_most_width}

-- the bytes of the fields, and one more for each
abbrev pub spread : List (List ℕ) → ℕ
spread [] = 0
spread (f ∷ fs) = suc (length f) + spread fs

one_byte : (t : Bool) (b n : ℕ) (rest : List (List ℕ)) → suc n ≡ spread rest → suc (suc n) ≡ spread (if t then [] ∷ rest else push b rest)
one_byte true b n rest e = omega arith
one_byte false b n [] e = absurd (omega arith)
one_byte false b n (f ∷ fs) e = omega arith

-- a line is its fields with a tab between them
pub line_length : (line : List ℕ) → suc (length line) ≡ spread (fields line)
unfolding fields
line_length [] = refl
line_length (b ∷ line) = one_byte (eqb b 9) b (length line) (fields line) (line_length line)

-- the most that fields of these kinds come to, each with one byte more
abbrev pub room : List FieldKind → ℕ
room [] = 0
room (kind ∷ kinds) = suc (width kind) + room kinds

-- what the fields of a record are: those at its front, and those that come once for each of its months, ages or rows
pub record Layout : Type 0 where
  pub front : List FieldKind
  pub group : List FieldKind
  pub times : ℕ

-- the kinds of the fields that a record has by specs/Record.antt: a table for the bound alone, which `laid` (Longest.antt) ties to the questions
abbrev pub layout : Word → ℕ → Layout
layout LINE byte = record { front = word ∷ letter ∷ opening ∷ []; group = []; times = 0 }
layout RATE byte = record { front = word ∷ year ∷ []; group = rate ∷ []; times = 60 }
layout RATE_ALONE byte = record { front = word ∷ year ∷ []; group = []; times = 0 }
layout PATT byte = record { front = word ∷ letter ∷ year ∷ []; group = amount ∷ amount ∷ []; times = ages byte }
layout YEAR byte = record { front = word ∷ letter ∷ year ∷ []; group = paid ∷ amount ∷ amount ∷ []; times = suc (ages byte) }
layout SUM byte = record { front = word ∷ letter ∷ []; group = []; times = 0 }
layout MIDT byte = record { front = word ∷ register_year ∷ month ∷ rate ∷ []; group = []; times = 0 }
layout OTHER byte = record { front = []; group = []; times = 0 }

-- fields of some kinds, from place k on
abbrev pub Fit : List FieldKind → ℕ → List (List ℕ) → Type 0
Fit [] k fs = Unit {0}
Fit (kind ∷ kinds) k fs = (fits kind (field k fs) ≡ true) × Fit kinds (suc k) fs

-- columns of n fields of some kinds, the first of them at places k, k + step, ..
abbrev pub FitColumns : List FieldKind → ℕ → ℕ → ℕ → List (List ℕ) → Type 0
FitColumns [] n step k fs = Unit {0}
FitColumns (kind ∷ kinds) n step k fs = ((i : ℕ) → i < n → fits kind (field (k + i * step) fs) ≡ true) × FitColumns kinds n step (suc k) fs

-- the fields are as a layout says
pub record Laid (plan : Layout) (fs : List (List ℕ)) : Type 0 where
  pub count : length fs ≡ length plan.front + plan.times * length plan.group
  pub front : Fit plan.front 0 fs
  pub columns : FitColumns plan.group plan.times (length plan.group) (length plan.front) fs

module _ (fs : List (List ℕ)) where
  some_fields : (kinds : List FieldKind) (k : ℕ) → k + length kinds ≤ length fs → Fit kinds k fs → spread (drop k fs) ≤ room kinds + spread (drop (k + length kinds) fs)
  some_fields [] k le h = let e : k + 0 ≡ k = omega arith in rw e (omega arith)
  some_fields (kind ∷ kinds) k le h =
      let next : k + suc (length kinds) ≡ suc k + length kinds = omega arith in
      rw (next, drop-cons fs k [] (omega arith)) (omega (arith, some_fields kinds (suc k) (omega arith) h.1, at_most_width kind (field k fs) h.0))

  module _ (step : ℕ) where
    first_group : (kinds : List FieldKind) (n k : ℕ) → FitColumns kinds (suc n) step k fs → Fit kinds k fs
    first_group [] n k h = tt
    first_group (kind ∷ kinds) n k h =
        let e : k + 0 * step ≡ k = omega arith in
        (rw e at (h.0 0 (omega arith)), first_group kinds n (suc k) h.1)

    later_groups : (kinds : List FieldKind) (n k : ℕ) → FitColumns kinds (suc n) step k fs → FitColumns kinds n step (k + step) fs
    later_groups [] n k h = tt
    later_groups (kind ∷ kinds) n k h =
        let next : suc k + step ≡ suc (k + step) = omega arith in
        ((λ i lt. let e : k + suc i * step ≡ k + step + i * step = omega arith in rw e at (h.0 (suc i) (omega arith))), rw next at (later_groups kinds n (suc k) h.1))

  groups : (kinds : List FieldKind) (n k : ℕ) → length fs ≡ k + n * length kinds → FitColumns kinds n (length kinds) k fs → spread (drop k fs) ≤ n * room kinds
  groups kinds zero k e h = rw (drop_of_length-le fs {i = k} (omega arith)) (omega arith)
  groups kinds (suc n) k e h =
      let step = length kinds in
      omega (arith, some_fields kinds k (omega arith) (first_group step kinds n k h), groups kinds n (k + step) (omega arith) (later_groups step kinds n k h))

  -- the one bound, for every record
  pub laid_short : (plan : Layout) → Laid plan fs → spread fs ≤ room plan.front + plan.times * room plan.group
  laid_short plan d =
      let none : 0 + length plan.front ≡ length plan.front = omega arith in
      let first = some_fields plan.front 0 (omega (arith, d.count)) d.front in
      omega (arith, rw none at first, groups plan.group plan.times (length plan.front) d.count d.columns)
