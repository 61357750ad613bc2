-- The sixty months of an accident year are sixty cells of the store, one after the other.
-- Assumes nothing.
use Rattle.std.specs.Prelude.{Option, Some, is_some, unwrap_or}
use mathlib.Core.Bool.{true}
use mathlib.Core.List.{List, [], ◌∷◌, ◌++◌, map}
use mathlib.Core.Path.{◌≡◌, refl, sym, ap, ◌∙◌}
use Prim.Native.Nat.{ℕ, zero, suc, ◌+◌, ◌-◌, ◌≤◌}
use native.Mathlib.Omega.{arith}
use borrow.Table.Elements.{map_app}
use borrow.Author.Tests.{le-leb}
use lib.ListN.{length, take, drop, get_or, length-drop}
use lib.Seq.{drop-cons, drop-drop, take-add, length-take-le}
use Rattle.std.specs.List.{list_all}
use Rattle.std.proofs.lemmas.List.Folds.{list_all-map}
use Rattle.std.proofs.lemmas.Simd.{map-map}
use Rattle.model.specs.Kind.{is_year}
use Rattle.model.specs.Rate.{twelve_months, sixty_months}
use Rattle.state.specs.Store.{piece, size}
use Rattle.state.specs.Months.{january_of, month_start, month_in, register_of}
use Rattle.state.proofs.RatePlaces.{first_year, year_place}
use Rattle.register.specs.declared.date.Date.{Date}
use Rattle.register.specs.Date.{date_of}
use Rattle.register.proofs.Dates.{found}
use Rattle.register.specs.Sixty.{sixty_cells, cell_given, cell_rate, has_sixty, rates_taken}

-- the cells from that of a date on
pub cells_are : (store : List ℕ) (year n : ℕ) → n ≡ year → (o : Option Date) → o ≡ date_of (n - 5) 1 → (d : Date) → o ≡ Some d → (at : ℕ) → at ≡ month_start d.year d.month → take (at + 60 - at) (drop at store) ≡ sixty_cells store year
unfolding piece
cells_are store year n en o eo d e at ea =
    let few : at + 60 - at ≡ 60 = omega arith in
    let first : d ≡ record { year = n - 5; month = 1 } = (found (n - 5) 1 d (sym eo ∙ e)).1 in
    rw (few, ea, first, en)

-- n cells from place at + k on, each where it lies
abbrev cells_from : List ℕ → ℕ → ℕ → ℕ → List ℕ
cells_from store at k zero = []
cells_from store at k (suc n) = get_or store (at + k) 0 ∷ cells_from store at (suc k) n

cells_from_lem : (store : List ℕ) (at k n : ℕ) → at + k + n ≤ length store → take n (drop (at + k) store) ≡ cells_from store at k n
cells_from_lem store at k zero le = refl
cells_from_lem store at k (suc n) le =
    let next : suc (at + k) ≡ at + suc k = omega arith in
    rw (drop-cons store (at + k) 0 (omega arith), next, cells_from_lem store at (suc k) n (omega arith))

-- pieces that follow each other
join : {A : Type 0} (f : ℕ → A) (store : List ℕ) (at next m n : ℕ) → next ≡ at + m → map f (piece store at m) ++ map f (piece store next n) ≡ map f (piece store at (m + n))
unfolding piece
join f store at next m n e = rw (e, ← drop-drop m at store, take-add m n (drop at store), map_app f (take m (drop at store)) (take n (drop m (drop at store))))

-- five lists that follow each other, each by another name
lists_same : {A : Type 0} {a b c d e v w x y z : List A} → a ≡ v → b ≡ w → c ≡ x → d ≡ y → e ≡ z → a ++ (b ++ (c ++ (d ++ e))) ≡ v ++ (w ++ (x ++ (y ++ z)))
lists_same p q r s t = rw (p, q, r, s, t)

module _ (store : List ℕ) (n : length store ≡ size) where
  -- the months of a year of the register are twelve cells
  year_cells : (year : ℕ) → 1980 ≤ year → year ≤ 2099 → twelve_months (register_of store year) ≡ map month_in (piece store (january_of year) 12)
  unfolding register_of piece
  year_cells year from upto =
      let first : january_of year ≡ january_of year + 0 = omega arith in
      rw (le-leb 1980 year from, le-leb year 2099 upto, ap (λ (k : ℕ). take 12 (drop k store)) first ∙ cells_from_lem store (january_of year) 0 12 (omega arith))

  -- and those of an accident year sixty
  module _ (year : ℕ) (y : is_year year ≡ true) where
    abbrev at : ℕ
    at = january_of (year - 5)

    back : (k : ℕ) → k ≤ 5 → twelve_months (register_of store (year - k)) ≡ map month_in (piece store (january_of (year - k)) 12)
    back k few = year_cells (year - k) (omega (arith, first_year year y)) (omega (arith, year_place year y))

    pub sixty_cells_lem : sixty_months (register_of store) year ≡ map month_in (piece store at 60)
    sixty_cells_lem =
        let f : 1987 ≤ year = first_year year y in
        lists_same (back 5 (omega arith)) (back 4 (omega arith)) (back 3 (omega arith)) (back 2 (omega arith)) (back 1 (omega arith))
        ∙ rw (
          join month_in store (january_of (year - 2)) (january_of (year - 1)) 12 12 (omega arith),
          join month_in store (january_of (year - 3)) (january_of (year - 2)) 12 24 (omega arith),
          join month_in store (january_of (year - 4)) (january_of (year - 3)) 12 36 (omega arith),
          join month_in store at (january_of (year - 4)) 12 48 (omega arith),
        )

-- as code reads them
module _ (store : List ℕ) (year : ℕ) (n : length store ≡ size) (y : is_year year ≡ true) where
  sixty : sixty_months (register_of store) year ≡ map month_in (sixty_cells store year)
  sixty =
      let january : month_start (year - 5) 1 ≡ january_of (year - 5) = omega arith in
      rw january (sixty_cells_lem store n year y)

  pub sixty_long : length (sixty_cells store year) ≡ 60
  unfolding piece
  sixty_long = length-take-le 60 (drop (month_start (year - 5) 1) store) (rw (length-drop (month_start (year - 5) 1) store) (omega (arith, first_year year y, year_place year y)))

  pub sixty_given : has_sixty store year ≡ list_all cell_given (sixty_cells store year)
  sixty_given = rw y (ap (list_all is_some) sixty ∙ list_all-map is_some month_in (sixty_cells store year))

  pub sixty_taken : rates_taken store year ≡ map cell_rate (sixty_cells store year)
  sixty_taken = rw y (ap (map (λ month. unwrap_or month 0)) sixty ∙ map-map (λ month. unwrap_or month 0) month_in (sixty_cells store year))
