-- A line within its limits: what each of its numbers is then; and which lines are.
-- Assumes nothing.
use Rattle.std.specs.Prelude.{if◌then◌else◌, Option, None, Some, unwrap_or}
use mathlib.Core.Bool.{Bool, true, false, ◌&&◌}
use mathlib.Core.List.{List}
use mathlib.Core.Path.{◌≡◌, refl, subst, ap}
use Prim.Native.Nat.{ℕ, ◌+◌, ◌≤◌, ◌<◌, min}
use native.Mathlib.Omega.{arith}
use borrow.Author.Tests.{leb-true, ltb-true, le-leb, lt-ltb}
use lib.Dec.{leb, ltb}
use Rattle.model.specs.Kind.{is_year}
use Rattle.model.specs.Letter.{covered, ages}
use Rattle.model.proofs.Ages.{ages_positive}
use Rattle.model.proofs.Lists.{and_left, and_right}
use Rattle.line_limits.specs.declared.line.Line.{Line}
use Rattle.line_limits.specs.declared.line.Patterns.{Patterns}
use Rattle.line_limits.specs.Line.{kept_patterns}
use Rattle.line_limits.specs.Limits.{opening_in, closing_in, kept_in, patterns_in, closed_in, limited_of, line_by, line_in}
use Rattle.state.specs.Store.{piece}
use Rattle.state.specs.Lines.{line_start, no_line, cells_of, Limited, line_at, new_line, with_pattern_of, with_closing_of}

-- what is read is the given value
pub taken : {A : Type 0} (t : Bool) (v w : A) → (if t then Some v else None) ≡ Some w → (t ≡ true) × (v ≡ w)
taken true v w e = (refl, cc e)
taken false v w e = let z : ◌≡◌ {A = ℕ} 0 1 = cc in absurd (omega arith)

-- the patterns that a line keeps
pub keeps : (line : Line) (p : Patterns) → kept_patterns line ≡ Some p → (0 < line.patterns.count) × (line.patterns ≡ p)
keeps line p e =
    let found = taken (ltb 0 line.patterns.count) line.patterns p e in
    (ltb-true 0 line.patterns.count found.0, found.1)

few_by : (t : Bool) (cell n count : ℕ) → (if t then min cell n else 0) ≡ count → count ≤ n
few_by true cell n count e = omega arith
few_by false cell n count e = omega arith

year_by : (t : Bool) (cell n count : ℕ) → (if t then min cell n else 0) ≡ count → 0 < count → t ≡ true
year_by true cell n count e lt = refl
year_by false cell n count e lt = absurd (omega arith)

closed_facts : (p : Patterns) (year : ℕ) → closed_in p (Some year) ≡ Some year → (is_year year ≡ true) × (0 < p.count) × (year ≤ p.last)
closed_facts p year e =
    let found = taken (is_year year && ltb 0 p.count && leb year p.last) year year e in
    let front = and_left (is_year year && ltb 0 p.count) (leb year p.last) found.0 in
    (and_left (is_year year) (ltb 0 p.count) front, ltb-true 0 p.count (and_right (is_year year) (ltb 0 p.count) front), leb-true year p.last (and_right (is_year year && ltb 0 p.count) (leb year p.last) found.0))

-- what each number is
module _ (letter : ℕ) (line : Line) (l : Limited letter line) where
  pub opening_small : line.opening ≤ 100000000000
  unfolding limited_of
  opening_small = let e : opening_in line.opening ≡ line.opening = ap (λ (x : Line). x.opening) l in omega (arith, e)

  pub closing_small : line.closing ≤ 110000000000
  unfolding limited_of
  closing_small = let e : closing_in line.closing ≡ line.closing = ap (λ (x : Line). x.closing) l in omega (arith, e)

  kept_is : kept_in letter line.patterns.last line.patterns.count ≡ line.patterns.count
  unfolding limited_of
  kept_is = ap (λ (x : Line). x.patterns.count) l

  pub few_kept : line.patterns.count ≤ ages letter
  few_kept = few_by (is_year line.patterns.last) line.patterns.count (ages letter) line.patterns.count kept_is

  pub last_year : 0 < line.patterns.count → is_year line.patterns.last ≡ true
  last_year some_kept = year_by (is_year line.patterns.last) line.patterns.count (ages letter) line.patterns.count kept_is some_kept

  -- of the patterns that it keeps
  pub kept : (p : Patterns) → kept_patterns line ≡ Some p → (is_year p.last ≡ true) × (0 < p.count) × (p.count ≤ ages letter)
  kept p e =
      let k = keeps line p e in
      subst (λ (q : Patterns). (is_year q.last ≡ true) × (0 < q.count) × (q.count ≤ ages letter)) k.1 (last_year k.0, k.0, few_kept)

  closed_is : closed_in line.patterns line.closed ≡ line.closed
  unfolding limited_of
  closed_is = rw kept_is at (ap (λ (x : Line). x.closed) l)

  -- a year is closed only where patterns are kept, and not after the last one
  pub closed_kept : (year : ℕ) → line.closed ≡ Some year → (is_year year ≡ true) × (0 < line.patterns.count) × (year ≤ line.patterns.last)
  closed_kept year e = closed_facts line.patterns year (rw e at closed_is)

-- a line that was read is within its limits
once : (n m : ℕ) → min (min n m) m ≡ min n m
once n m = omega arith

kept_again : (t : Bool) (cell n : ℕ) → (if t then min (if t then min cell n else 0) n else 0) ≡ (if t then min cell n else 0)
kept_again true cell n = omega arith
kept_again false cell n = refl

closed_again : (p : Patterns) (closed read : Option ℕ) → closed_in p closed ≡ read → closed_in p read ≡ read
closed_again p None read e = rw (← e)
closed_again p (Some year) read e = by_test (is_year year && ltb 0 p.count && leb year p.last) refl
  where
    by_test : (t : Bool) → (is_year year && ltb 0 p.count && leb year p.last) ≡ t → closed_in p read ≡ read
    by_test true et = rw (← e, et) (rw et)
    by_test false et = rw (← e, et)

read_limited : (letter : ℕ) (line : Line) → Limited letter (limited_of letter line)
unfolding limited_of
read_limited letter line =
    let patterns : Patterns = patterns_in letter line.patterns in
    let again : kept_in letter line.patterns.last patterns.count ≡ patterns.count = kept_again (is_year line.patterns.last) line.patterns.count (ages letter) in
    rw (again, closed_again patterns line.closed (closed_in patterns line.closed) refl, once line.opening 100000000000, once line.closing 110000000000)

limited_by : (store : List ℕ) (letter : ℕ) (t : Bool) → Limited letter (if t then line_in letter (piece store (line_start letter) 6) else no_line)
unfolding limited_of
limited_by store letter true = read_limited letter (line_by (piece store (line_start letter) 6))
limited_by store letter false = refl

pub line_limited : (store : List ℕ) (letter : ℕ) (line : Line) → line ≡ line_at store letter → Limited letter line
unfolding line_at
line_limited store letter line e = rw e (limited_by store letter (covered letter))

-- the cells of a line are read as the line is
mark_read : (t : Bool) → ltb 0 (if t then 1 else 0) ≡ t
mark_read true = refl
mark_read false = refl

closed_read : (p : Patterns) (closed : Option ℕ) → closed_in p (Some (unwrap_or closed 0)) ≡ closed_in p closed
closed_read p None = refl
closed_read p (Some year) = refl

pub cells_read : (letter : ℕ) (line : Line) → line_in letter (cells_of line) ≡ limited_of letter line
unfolding limited_of
cells_read letter line = rw (mark_read line.declared, closed_read (patterns_in letter line.patterns) line.closed)

-- and so is what the calls make of it
limited_line : (letter : ℕ) (line : Line) → line.opening ≤ 100000000000 → line.closing ≤ 110000000000 → kept_in letter line.patterns.last line.patterns.count ≡ line.patterns.count → closed_in line.patterns line.closed ≡ line.closed → Limited letter line
unfolding limited_of
limited_line letter line o c k d =
    let opening : opening_in line.opening ≡ line.opening = omega arith in
    let closing : closing_in line.closing ≡ line.closing = omega arith in
    rw (k, d, opening, closing)

pub new_limited : (letter opening : ℕ) → opening ≤ 100000000000 → Limited letter (new_line opening)
new_limited letter opening le = limited_line letter (new_line opening) le (omega arith) refl refl

closed_on : (closed : Option ℕ) (p : Patterns) → ((year : ℕ) → closed ≡ Some year → (is_year year ≡ true) × (0 < p.count) × (year ≤ p.last)) → closed_in p closed ≡ closed
closed_on None p on = refl
closed_on (Some year) p on = let facts = on year refl in rw (facts.0, lt-ltb 0 p.count facts.1, le-leb year p.last facts.2)

module _ (letter : ℕ) (line : Line) (l : Limited letter line) (year : ℕ) (y : is_year year ≡ true) where
  pub pattern_limited : (0 < line.patterns.count → year ≡ line.patterns.last + 1) → Limited letter (with_pattern_of letter line year)
  pattern_limited next =
      let count : ℕ = min (line.patterns.count + 1) (ages letter) in
      let some : 0 < count = omega (arith, ages_positive letter) in
      limited_line letter (with_pattern_of letter line year) (opening_small letter line l) (closing_small letter line l) (rw y (once (line.patterns.count + 1) (ages letter)))
      (closed_on line.closed (record { last = year; count = count }) (λ before e. let facts = closed_kept letter line l before e in (facts.0, some, omega (arith, facts.2, next facts.1))))

  pub closing_limited : (amount : ℕ) → 0 < line.patterns.count → year ≡ line.patterns.last → amount ≤ 110000000000 → Limited letter (with_closing_of line year amount)
  closing_limited amount some last le =
      limited_line letter (with_closing_of line year amount) (opening_small letter line l) le (kept_is letter line l) (rw (y, lt-ltb 0 line.patterns.count some, le-leb year line.patterns.last (omega arith)))
