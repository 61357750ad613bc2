-- What an accepted pattern leaves in the store: its slot and its line, one after the other.
-- Assumes nothing.
use mathlib.Core.Bool.{true}
use mathlib.Core.List.{List, [], ◌∷◌, ◌++◌, append_assoc}
use mathlib.Core.Path.{◌≡◌, refl, sym, ap, ◌∙◌}
use Prim.Native.Nat.{ℕ, zero, suc, ◌+◌, ◌-◌, ◌≤◌, ◌<◌, min}
use native.Mathlib.Omega.{arith}
use native.Mathlib.Nat.{zero-min, min-zero, suc-min-suc}
use native.Mathlib.Numerals.{add-one}
use lib.ListN.{length, take, get_or, replicate, length-append, length-replicate}
use lib.Seq.{take_at, take-nil, get_or_at}
use Rattle.model.specs.Basics.{put}
use Rattle.model.specs.Kind.{is_year}
use Rattle.model.specs.Letter.{covered, ages}
use Rattle.model.specs.Factor.{kept_factors}
use Rattle.model.specs.Composite.{composite}
use Rattle.model.specs.Step.{kept_pattern, with_pattern}
use Rattle.model.proofs.Ages.{ages_small}
use Rattle.line_limits.specs.declared.line.Line.{Line}
use Rattle.state.specs.Store.{size}
use Rattle.state.specs.Lines.{Limited, with_line_of, with_pattern_of}
use Rattle.state.specs.Patterns.{pattern_at, kept_back, slot_of, with_slot_of}
use Rattle.state.specs.Months.{register_of}
use Rattle.state.specs.View.{line_of, lines_of}
use Rattle.state.proofs.FactorLimits.{factors_limited, composite_limited}
use Rattle.state.proofs.Limited.{pattern_limited}
use Rattle.state.proofs.LinePieces as line
use Rattle.state.proofs.SlotPieces.{slot_here, other_letters, earlier_years, lines_same, totals_same, register_same, slot_long}
use Rattle.state.proofs.Views.{kept_shown, line_aside, line_same, shown_same, put_shown}

-- n factors, zeros up to ten, and a composite
module _ (factors : List ℕ) (n composite : ℕ) (l : length factors ≡ n) (few : n ≤ 10) where
  abbrev padded : List ℕ
  padded = factors ++ replicate (10 - n) 0

  length_padded : length padded ≡ 10
  length_padded = rw (length-append, length-replicate, l) (omega arith)

  pub eleven : length (padded ++ (composite ∷ [])) ≡ 11
  eleven = rw (length-append, length_padded)

  pub factors_of : take n (padded ++ (composite ∷ [])) ≡ factors
  factors_of = rw append_assoc (take_at factors (replicate (10 - n) 0 ++ (composite ∷ [])) n l)

  pub composite_of_lem : get_or (padded ++ (composite ∷ [])) 10 0 ≡ composite
  composite_of_lem = get_or_at padded composite [] 0 10 length_padded

-- the cells of a pattern's slot, as code has them
pub slot_is : (letter year rate : ℕ) (pay : List ℕ) → (kept_factors letter rate pay ++ replicate (10 - ages letter) 0) ++ (composite letter rate pay ∷ []) ≡ slot_of letter (kept_pattern letter year rate pay)
slot_is letter year rate pay = append_assoc (kept_factors letter rate pay) (replicate (10 - ages letter) 0) (composite letter rate pay ∷ [])

-- the first patterns of those kept
take_kept : (store : List ℕ) (letter m n year : ℕ) → take m (kept_back store letter n year) ≡ kept_back store letter (min n m) year
unfolding kept_back
take_kept store letter zero n year = rw (min-zero n)
take_kept store letter (suc m) zero year = rw (zero-min (suc m))
take_kept store letter (suc m) (suc n) year = rw (suc-min-suc n m, take_kept store letter m n (year - 1))

module _ (store : List ℕ) (letter year rate : ℕ) (pay : List ℕ) (c : covered letter ≡ true) (n : length store ≡ size) (count : length (kept_factors letter rate pay) ≡ ages letter) where
  abbrev cells : List ℕ
  cells = slot_of letter (kept_pattern letter year rate pay)

  abbrev later : List ℕ
  later = with_slot_of store letter year cells

  eleven_cells : length cells ≡ 11
  eleven_cells = rw (← (slot_is letter year rate pay)) (eleven (kept_factors letter rate pay) (ages letter) (composite letter rate pay) count (ages_small letter))

  -- the slot holds the pattern
  pub pattern_stored : pattern_at later letter year ≡ kept_pattern letter year rate pay
  pattern_stored =
      rw (
        slot_here store letter year cells c n eleven_cells,
        ← (slot_is letter year rate pay),
        factors_of (kept_factors letter rate pay) (ages letter) (composite letter rate pay) count (ages_small letter),
        composite_of_lem (kept_factors letter rate pay) (ages letter) (composite letter rate pay) count (ages_small letter),
        factors_limited letter rate pay,
        composite_limited letter rate pay,
      )

  -- the nine years before are as they were
  before : (m y : ℕ) → y < year → year + m ≤ y + 10 → kept_back later letter m y ≡ kept_back store letter m y
  unfolding kept_back
  before zero y lt le = refl
  before (suc m) y lt le = rw (earlier_years store letter year cells c n eleven_cells y lt (omega arith), before m (y - 1) (omega arith) (omega arith))

  -- and of k patterns the first are kept beside the new one, a together at most
  tail_kept : (m k last : ℕ) → m < 10 → (0 < k → year ≡ last + 1) → kept_back later letter (min k m) (year - 1) ≡ take m (kept_back store letter k last)
  unfolding kept_back
  tail_kept m zero last lt next = rw (zero-min m, take-nil m)
  tail_kept m (suc k) last lt next =
      let e : year ≡ last + 1 = next (omega arith) in
      let back : year - 1 ≡ last = omega arith in
      rw back (before (min (suc k) m) last (omega arith) (omega arith) ∙ sym (take_kept store letter m (suc k) last))

  all_kept : (a k last : ℕ) → a ≤ 10 → (0 < k → year ≡ last + 1) → kept_back later letter (min (k + 1) a) year ≡ take a (kept_pattern letter year rate pay ∷ kept_back store letter k last)
  unfolding kept_back
  all_kept zero k last le next = rw (min-zero (k + 1))
  all_kept (suc m) k last le next = rw (add-one k, suc-min-suc k m) (λ i. pattern_stored i ∷ tail_kept m k last (omega arith) next i)

  module _ (old : Line) (l : Limited letter old) (y : is_year year ≡ true) (next : 0 < old.patterns.count → year ≡ old.patterns.last + 1) where
    abbrev new : Line
    new = with_pattern_of letter old year

    abbrev last_store : List ℕ
    last_store = with_line_of later letter new

    long : length later ≡ size
    long = slot_long store letter year cells c n eleven_cells

    pattern_kept : line_of later letter new ≡ with_pattern letter (line_of store letter old) (kept_pattern letter year rate pay)
    unfolding line_of
    pattern_kept = rw (kept_shown later letter new, kept_shown store letter old, all_kept (ages letter) old.patterns.count old.patterns.last (ages_small letter) next, totals_same store letter year cells c n eleven_cells letter old.closed)

    -- the other letters are as they were
    elsewhere : (other : ℕ) → (other ≡ letter → ⊥) → lines_of last_store other ≡ lines_of store other
    elsewhere other differ =
        shown_same later last_store other (line.lines_beside later letter new c long other differ) (line_aside later letter new c long other)
        ∙ shown_same store later other (lines_same store letter year cells c n eleven_cells other)
        (record { slots = λ accident. other_letters store letter year cells c n eleven_cells other accident differ; totals = totals_same store letter year cells c n eleven_cells other })

    -- the view after an accepted PATT
    pub pattern_put : lines_of last_store ≡ put (lines_of store) letter (with_pattern letter (line_of store letter old) (kept_pattern letter year rate pay))
    pattern_put =
        put_shown store last_store letter new (line.line_here later letter new c long (pattern_limited letter old l year y next)) elsewhere
        ∙ ap (put (lines_of store) letter) (line_same later last_store letter (line_aside later letter new c long letter) new ∙ pattern_kept)

    -- and the register, as it was
    pub pattern_register : register_of last_store ≡ register_of store
    pattern_register = line.register_same later letter new c long ∙ register_same store letter year cells c n eleven_cells

    -- and the slot after it
    pub pattern_shown : pattern_at last_store letter year ≡ kept_pattern letter year rate pay
    pattern_shown = rw (line.slots_same later letter new c long letter year) pattern_stored
