-- Question 10 of the code's line is that of the line that the view shows.
-- Assumes nothing.
use Rattle.std.specs.Prelude.{if◌then◌else◌, Option, None, Some, is_some}
use mathlib.Core.Bool.{Bool, true, false, ◌&&◌}
use mathlib.Core.List.{List}
use mathlib.Core.Path.{◌≡◌, refl, subst, ap, ◌∙◌}
use Prim.Native.Nat.{ℕ, zero, suc, ◌<◌}
use native.Mathlib.Omega.{arith}
use borrow.Author.Tests.{eqb-true}
use lib.Dec.{eqb}
use Rattle.model.specs.Book.{latest}
use Rattle.model.specs.Question as model
use Rattle.model.proofs.Lists.{and_left, and_right}
use Rattle.line_limits.specs.declared.line.Line.{Line}
use Rattle.line_limits.specs.declared.line.Patterns.{Patterns}
use Rattle.line_limits.specs.Line.{kept_patterns}
use Rattle.state.specs.Patterns.{kept_back}
use Rattle.state.specs.View.{closed_of, kept_of, line_of}
use Rattle.state.proofs.Limited.{taken, keeps}
use Rattle.closings.specs.CloseYear.{is_open, due_of, due}

-- what the model finds
open_same : (closed : Option ℕ) (closing year : ℕ) → model.is_open (closed_of closed closing) year ≡ is_open closed year
open_same None closing year = refl
open_same (Some c) closing year = refl

some_same : {A : Type 0} (t : Bool) (v : A) → t ≡ is_some (if t then Some v else None)
some_same true v = refl
some_same false v = refl

kept_same : (store : List ℕ) (letter n last year : ℕ) (closed : Option ℕ) (closing : ℕ) → 0 < n → (model.is_year_of (latest (kept_back store letter n last)) year && model.is_open (closed_of closed closing) year) ≡ (eqb year last && is_open closed year)
unfolding kept_back
kept_same store letter zero last year closed closing some = absurd (omega arith)
kept_same store letter (suc n) last year closed closing some = rw (open_same closed closing year)

module _ (store : List ℕ) (letter : ℕ) (line : Line) (year : ℕ) where
  due_by : (patterns : Option Patterns) → kept_patterns line ≡ patterns → (model.is_year_of (latest (kept_of store letter patterns)) year && model.is_open (closed_of line.closed line.closing) year) ≡ is_some (due_of patterns line.closed year)
  due_by None e = refl
  due_by (Some p) e =
      let k = keeps line p e in
      kept_same store letter p.count p.last year line.closed line.closing (subst (λ (q : Patterns). 0 < q.count) k.1 k.0) ∙ some_same (eqb year p.last && is_open line.closed year) p

  pub due_is : (model.is_year_of (latest (line_of store letter line).kept) year && model.is_open (line_of store letter line).closed year) ≡ is_some (due line year)
  unfolding line_of due
  due_is = due_by (kept_patterns line) refl

-- a year that is due is that of the last pattern, and open
due_facts : (patterns : Option Patterns) (closed : Option ℕ) (year : ℕ) (p : Patterns) → due_of patterns closed year ≡ Some p → (patterns ≡ Some p) × (year ≡ p.last) × (is_open closed year ≡ true)
due_facts None closed year p e = let z : ◌≡◌ {A = ℕ} 0 1 = cc in absurd (omega arith)
due_facts (Some q) closed year p e =
    let found = taken (eqb year q.last && is_open closed year) q p e in
    let last : year ≡ q.last = eqb-true year q.last (and_left (eqb year q.last) (is_open closed year) found.0) in
    (ap (λ (x : Patterns). Some x) found.1, last ∙ ap (λ (x : Patterns). x.last) found.1, and_right (eqb year q.last) (is_open closed year) found.0)

module _ (year : ℕ) (line : Line) (p : Patterns) (e : due line year ≡ Some p) where
  facts : (kept_patterns line ≡ Some p) × (year ≡ p.last) × (is_open line.closed year ≡ true)
  unfolding due
  facts = due_facts (kept_patterns line) line.closed year p e

  pub due_kept : kept_patterns line ≡ Some p
  due_kept = facts.0

  pub due_last : year ≡ p.last
  due_last = facts.1

  pub due_open : is_open line.closed year ≡ true
  due_open = facts.2
