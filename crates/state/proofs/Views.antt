-- What the view shows after a write.
-- Assumes nothing.
use Rattle.std.specs.Prelude.{if◌then◌else◌, Option, None, Some, is_some}
use mathlib.Core.Bool.{Bool, true, false}
use mathlib.Core.List.{List}
use mathlib.Core.Path.{◌≡◌, refl, ap, ◌∙◌, fun_ext}
use Prim.Native.Nat.{ℕ, zero, suc, ◌-◌, ◌≤◌}
use native.Mathlib.Omega.{arith}
use borrow.Author.Tests.{eqb-false, lt-ltb}
use lib.Dec.{ltb}
use lib.ListN.{length}
use Rattle.model.specs.Basics.{put}
use Rattle.model.specs.Kind.{is_year}
use Rattle.model.specs.Letter.{covered}
use Rattle.model.proofs.Lists.{put_all}
use Rattle.line_limits.specs.declared.line.Line.{Line}
use Rattle.line_limits.specs.declared.line.Patterns.{Patterns}
use Rattle.line_limits.specs.Line.{kept_patterns}
use Rattle.state.specs.Store.{size}
use Rattle.state.specs.Hints.{with_hint_of}
use Rattle.state.specs.Lines.{Limited, line_at, with_line_of}
use Rattle.state.specs.Months.{is_date, with_month_of}
use Rattle.state.specs.Patterns.{slot_at, kept_back}
use Rattle.state.specs.Totals.{totals_at}
use Rattle.state.specs.View.{kept_of, line_of, lines_of}
use Rattle.state.proofs.HintPieces as hint
use Rattle.state.proofs.MonthPieces as kept_month
use Rattle.state.proofs.LinePieces.{line_here, lines_beside, slots_same, totals_same}

-- patterns in slots that hold the same
pub kept_same : (store later : List ℕ) (letter : ℕ) → ((year : ℕ) → slot_at later letter year ≡ slot_at store letter year) → (n year : ℕ) → kept_back later letter n year ≡ kept_back store letter n year
unfolding kept_back
kept_same store later letter h zero year = refl
kept_same store later letter h (suc n) year = rw (h year, kept_same store later letter h n (year - 1))

pub kept_of_same : (store later : List ℕ) (letter : ℕ) → ((year : ℕ) → slot_at later letter year ≡ slot_at store letter year) → (patterns : Option Patterns) → kept_of later letter patterns ≡ kept_of store letter patterns
kept_of_same store later letter h None = refl
kept_of_same store later letter h (Some p) = kept_same store later letter h p.count p.last

-- the patterns that a line keeps are as many as it counts
count_shown : (store : List ℕ) (letter n last : ℕ) → kept_of store letter (if ltb 0 n then Some (record { last = last; count = n }) else None) ≡ kept_back store letter n last
unfolding kept_back
count_shown store letter zero last = refl
count_shown store letter (suc n) last = rw (lt-ltb 0 (suc n) (omega arith))

pub kept_shown : (store : List ℕ) (letter : ℕ) (line : Line) → kept_of store letter (kept_patterns line) ≡ kept_back store letter line.patterns.count line.patterns.last
kept_shown store letter line = count_shown store letter line.patterns.count line.patterns.last

-- of a line the view shows its cells, its slots and its totals
pub record Same (store later : List ℕ) (letter : ℕ) : Type 0 where
  pub slots : (year : ℕ) → slot_at later letter year ≡ slot_at store letter year
  pub totals : (closed : Option ℕ) → totals_at later letter closed ≡ totals_at store letter closed

pub line_same : (store later : List ℕ) (letter : ℕ) → Same store later letter → (line : Line) → line_of later letter line ≡ line_of store letter line
unfolding line_of
line_same store later letter s line = rw (kept_of_same store later letter s.slots (kept_patterns line), s.totals line.closed)

pub shown_same : (store later : List ℕ) (letter : ℕ) → line_at later letter ≡ line_at store letter → Same store later letter → lines_of later letter ≡ lines_of store letter
unfolding lines_of
shown_same store later letter e s = rw e (line_same store later letter s (line_at store letter))

-- one line is shown anew, and the others are as they were
pub put_shown : (store later : List ℕ) (letter : ℕ) (line : Line) → line_at later letter ≡ line → ((other : ℕ) → (other ≡ letter → ⊥) → lines_of later other ≡ lines_of store other)
    → lines_of later ≡ put (lines_of store) letter (line_of later letter line)
unfolding lines_of
put_shown store later letter line e same =
    fun_ext (put_all (λ other shown. lines_of later other ≡ shown) (lines_of store) letter (line_of later letter line) (rw e) (λ other f. same other (eqb-false other letter f)))

-- a line kept
pub line_aside : (store : List ℕ) (letter : ℕ) (line : Line) → covered letter ≡ true → length store ≡ size → (other : ℕ) → Same store (with_line_of store letter line) other
line_aside store letter line c n other = record { slots = slots_same store letter line c n other; totals = totals_same store letter line c n other }

pub lines_put : (store : List ℕ) (letter : ℕ) (line : Line) → covered letter ≡ true → length store ≡ size → Limited letter line → lines_of (with_line_of store letter line) ≡ put (lines_of store) letter (line_of store letter line)
lines_put store letter line c n l =
    let later : List ℕ = with_line_of store letter line in
    let same : (other : ℕ) → Same store later other = line_aside store letter line c n in
    put_shown store later letter line (line_here store letter line c n l) (λ other differ. shown_same store later other (lines_beside store letter line c n other differ) (same other))
    ∙ ap (put (lines_of store) letter) (line_same store later letter (same letter) line)

-- a hint or a month kept: the lines are as they were
pub hint_unseen : (store : List ℕ) (year factor : ℕ) → is_year year ≡ true → length store ≡ size → lines_of (with_hint_of store year factor) ≡ lines_of store
hint_unseen store year factor y n = fun_ext (λ letter. shown_same store (with_hint_of store year factor) letter (hint.lines_same store year factor y n letter) (record { slots = hint.slots_same store year factor y n letter; totals = hint.totals_same store year factor y n letter }))

pub month_unseen : (store : List ℕ) (year month rate : ℕ) → is_date year month ≡ true → length store ≡ size → rate ≤ 2500 → lines_of (with_month_of store year month rate) ≡ lines_of store
month_unseen store year month rate d n le =
    fun_ext (λ letter. shown_same store (with_month_of store year month rate) letter (kept_month.lines_same store year month rate d n le letter) (record { slots = kept_month.slots_same store year month rate d n le letter; totals = kept_month.totals_same store year month rate d n le letter }))

-- is the line declared?
declared_by : (t : Bool) (n : ℕ) → is_some (if t then Some n else None) ≡ t
declared_by true n = refl
declared_by false n = refl

pub declared_is : (store : List ℕ) (letter : ℕ) (line : Line) → line ≡ line_at store letter → is_some (lines_of store letter).opening ≡ line.declared
unfolding lines_of line_of
declared_is store letter line here = rw (← here) (declared_by line.declared line.opening)

pub line_is : (store : List ℕ) (letter : ℕ) (line : Line) → line ≡ line_at store letter → lines_of store letter ≡ line_of store letter line
unfolding lines_of
line_is store letter line here = rw here
