-- PATT: its questions, and what an accepted one leaves.
-- Assumes nothing.
use Rattle.std.specs.Prelude.{if◌then◌else◌, Option, None, Some, is_some, Result, Ok, Err}
use mathlib.Core.Bool.{Bool, true, false, not, ◌&&◌}
use mathlib.Core.List.{List, [], ◌∷◌}
use mathlib.Core.Path.{◌≡◌, refl, sym, ap, ◌∙◌}
use Prim.Native.Nat.{ℕ}
use native.Mathlib.Omega.{arith}
use Rattle.std.specs.List.{list_all}
use Rattle.model.specs.Kind.{is_year, is_amount}
use Rattle.model.specs.Letter.{covered}
use Rattle.model.specs.Pattern.{ages_of}
use Rattle.model.specs.Tail.{schedule}
use Rattle.model.specs.Call.{Call, add_pattern}
use Rattle.model.specs.Question.{Sound, has_lengths, is_within_limits, has_incurred, climbs, book_questions, first_no}
use Rattle.refusal.specs.Unless.{unless}
use Rattle.factor.specs.declared.pattern.Pattern.{Pattern}
use Rattle.factor.specs.Pattern.{kept_of, pattern_of}
use Rattle.state.specs.declared.book.Book.{Book}
use Rattle.line_limits.specs.declared.line.Line.{Line}
use Rattle.line_limits.specs.Line.{declared_opening}
use Rattle.refusal.specs.declared.Refusal.{Refusal}
use Rattle.refusal.specs.declared.Refusal.TheVariants as refusal
use Rattle.ledger.specs.declared.answer.Outcome.{Outcome}
use Rattle.state.specs.Rates.{rates_of}
use Rattle.state.specs.Lines.{line_at}
use Rattle.state.specs.View.{line_of, view}
use Rattle.ledger.specs.Answer.{refused_of}
use Rattle.refusal.specs.Number.{number_of, refusal_of}
use Rattle.ledger.specs.Does.{Settled}
use Rattle.patterns.specs.AddPattern.{follows_last, Turned}
use Rattle.ledger.proofs.Settling.{refused}
use Rattle.state.proofs.Views.{line_is}
use Rattle.patterns.proofs.Turns.{follows_is}

-- questions 3, 4 and 6
pub pattern_sound : (letter year : ℕ) (paid incurred : List ℕ) (lettered : Bool) → lettered ≡ covered letter → lettered ≡ true
    → (counted : Bool) → counted ≡ has_lengths (add_pattern letter 0 paid incurred) → counted ≡ true
    → (limited : Bool) → limited ≡ is_within_limits (add_pattern 0 year paid incurred) → limited ≡ true → Sound (add_pattern letter year paid incurred)
pattern_sound letter year paid incurred lettered el l counted ec n limited em m = record { letter = sym el ∙ l; lengths = sym ec ∙ n; limits = sym em ∙ m }

-- questions 8 to 12, by the code's line
module _ (book : Book) (store : List ℕ) (letter year : ℕ) (paid incurred : List ℕ) (sound : Sound (add_pattern letter year paid incurred)) (line : Line) (here : line ≡ line_at store letter) where
  abbrev call : Call
  call = add_pattern letter year paid incurred

  first_is : first_no (book_questions (view book store) call)
      ≡ (if is_some (declared_opening line) then (if is_some (rates_of book.rates year) then (if follows_last line year then (if has_incurred call then (if climbs call then None else Some 12) else Some 11) else Some 10) else Some 9) else Some 8)
  unfolding book_questions line_of
  first_is = rw (line_is store letter line here, follows_is store letter line year)

  missing_is : (o : Option ℕ) → o ≡ declared_opening line → (missing : Bool) → is_some o ≡ not missing → is_some (declared_opening line) ≡ not missing
  missing_is o eo missing em = ap (λ (x : Option ℕ). is_some x) (sym eo) ∙ em

  module _ (r : Outcome) where
    module _ (o : Option ℕ) (eo : o ≡ declared_opening line) (missing : Bool) (em : is_some o ≡ not missing) where
      pub undeclared : missing ≡ true → r ≡ refused_of book refusal.NotDeclared → Settled book call store r store
      undeclared m er = refused book refusal.NotDeclared (first_no (book_questions (view book store) call)) call store r (first_is ∙ rw (missing_is o eo missing em, m)) er

      module _ (m : missing ≡ false) (rate : Option ℕ) (erate : rate ≡ rates_of book.rates year) where
        pub unrated : rate ≡ None → r ≡ refused_of book refusal.NoRate → Settled book call store r store
        unrated e er = refused book refusal.NoRate (first_no (book_questions (view book store) call)) call store r (first_is ∙ rw (missing_is o eo missing em, m, ← erate, e)) er

        module _ (number : ℕ) (e : rate ≡ Some number) (follows : Bool) (ef : follows ≡ follows_last line year) where
          pub out_of_turn : follows ≡ false → r ≡ refused_of book refusal.OutOfTurn → Settled book call store r store
          out_of_turn f er =
              refused book refusal.OutOfTurn (first_no (book_questions (view book store) call)) call store r (first_is ∙ rw (← ef, f, ← erate, e, missing_is o eo missing em, m)) er

  pub turned : (o : Option ℕ) → o ≡ declared_opening line → (missing : Bool) → is_some o ≡ not missing → missing ≡ false → (rate : Option ℕ) → rate ≡ rates_of book.rates year → (number : ℕ) → rate ≡ Some number → (follows : Bool) → follows ≡ follows_last line year → follows ≡ true → Turned book store line letter year number paid incurred
  turned o eo missing em m rate erate number e follows ef f = record { sound = sound; here = here; declared = missing_is o eo missing em ∙ ap not m; rated = sym erate ∙ e; turn = sym ef ∙ f }

-- questions 11 and 12, by what `discount` answers
abbrev first_of : Bool → Bool → Option ℕ
first_of a b = first_no ((11, a) ∷ (12, b) ∷ [])

judged_fine : (a b : Bool) (x p : Pattern) → unless (first_of a b) x ≡ Ok p → (a ≡ true) × (b ≡ true) × (x ≡ p)
judged_fine true true x p e = (refl, refl, cc e)
judged_fine true false x p e = let z : ◌≡◌ {A = ℕ} 0 1 = cc in absurd (omega arith)
judged_fine false b x p e = let z : ◌≡◌ {A = ℕ} 0 1 = cc in absurd (omega arith)

judged_refused : (a b : Bool) (x : Pattern) (question : Refusal) → unless (first_of a b) x ≡ Err question → first_of a b ≡ Some (number_of question)
unfolding refusal_of
judged_refused true true x question e = let z : ◌≡◌ {A = ℕ} 0 1 = cc in absurd (omega arith)
judged_refused true false x question e = let same : refusal.RatioFalls ≡ question = cc in ap (λ (q : Refusal). Some (number_of q)) same
judged_refused false b x question e = let same : refusal.IncurredTooSmall ≡ question = cc in ap (λ (q : Refusal). Some (number_of q)) same

amounts : (y a b : Bool) → (y && a && b) ≡ true → (a && b) ≡ true
amounts true a b e = e
amounts false a b e = let z : ◌≡◌ {A = ℕ} 0 1 = cc in absurd (omega arith)

module _ (book : Book) (store : List ℕ) (line : Line) (letter year rate : ℕ) (paid incurred : List ℕ) (pre : Turned book store line letter year rate paid incurred) (answered : Result Pattern Refusal) (ep : answered ≡ pattern_of letter rate paid incurred) where
  abbrev asks : Call
  asks = add_pattern letter year paid incurred

  abbrev fine : Pattern
  fine = kept_of letter rate (schedule letter (ages_of paid incurred))

  answered_is : answered ≡ unless (first_of (has_incurred asks) (climbs asks)) fine
  answered_is = ep ∙ rw (pre.sound.letter, pre.sound.lengths, amounts (is_year year) (list_all is_amount paid) (list_all is_amount incurred) pre.sound.limits)

  first_of_two : first_no (book_questions (view book store) asks) ≡ first_of (has_incurred asks) (climbs asks)
  first_of_two = first_is book store letter year paid incurred pre.sound line pre.here ∙ rw (pre.turn, pre.rated, pre.declared)

  pub passes : (pattern : Pattern) → answered ≡ Ok pattern → (first_no (book_questions (view book store) asks) ≡ None) × (pattern ≡ fine)
  passes pattern e =
      let both = judged_fine (has_incurred asks) (climbs asks) fine pattern (sym answered_is ∙ e) in
      (first_of_two ∙ rw (both.0, both.1), sym both.2)

  pub ratios_refused : (question : Refusal) → answered ≡ Err question → (r : Outcome) → r ≡ refused_of book question → Settled book asks store r store
  ratios_refused question e r er =
      refused book question (first_no (book_questions (view book store) asks)) asks store r
      (first_of_two ∙ judged_refused (has_incurred asks) (climbs asks) fine question (sym answered_is ∙ e)) er
