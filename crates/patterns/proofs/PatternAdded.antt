-- PATT: what an accepted one leaves.
-- Assumes nothing.
use Rattle.std.specs.Prelude.{Result, Ok}
use mathlib.Core.Bool.{Bool, true, ◌&&◌}
use mathlib.Core.List.{List, [], ◌∷◌, ◌++◌, map}
use mathlib.Core.Path.{◌≡◌, refl, ap}
use Prim.Native.Nat.{ℕ, ◌+◌, ◌<◌}
use borrow.Author.Tests.{eqb-true}
use lib.Dec.{eqb}
use lib.ListN.{length}
use Rattle.std.specs.List.{list_all}
use Rattle.model.specs.Kind.{is_year, is_amount}
use Rattle.model.specs.Letter.{ages}
use Rattle.model.specs.Pattern.{ages_of}
use Rattle.model.specs.Tail.{schedule}
use Rattle.model.specs.Factor.{kept_factors}
use Rattle.model.specs.Published.{published}
use Rattle.model.specs.Book.{Kept}
use Rattle.model.specs.Answer.{fact}
use Rattle.model.specs.Call.{add_pattern}
use Rattle.model.specs.Step.{kept_pattern, with_pattern, with_line, accept}
use Rattle.model.proofs.Lists.{and_left, and_right}
use Rattle.model.proofs.Ages.{length_ages_of, schedule_sized, kept_count}
use Rattle.refusal.specs.declared.Refusal.{Refusal}
use Rattle.factor.specs.declared.pattern.Pattern.{Pattern}
use Rattle.factor.specs.Pattern.{pattern_of}
use Rattle.state.specs.declared.book.Book.{Book}
use Rattle.line_limits.specs.declared.line.Line.{Line}
use Rattle.state.specs.Store.{size}
use Rattle.state.specs.Lines.{Limited, with_line_of, with_pattern_of}
use Rattle.state.specs.Patterns.{slot_of, with_slot_of}
use Rattle.state.specs.View.{lines_of, view}
use Rattle.ledger.specs.declared.answer.Answer.TheVariants as answer
use Rattle.ledger.specs.declared.answer.Outcome.{Outcome}
use Rattle.ledger.specs.Answer.{one_more_accepted, accepted_of}
use Rattle.ledger.specs.Does.{book_settled, store_settled, Settled}
use Rattle.patterns.specs.AddPattern.{Turned}
use Rattle.state.proofs.KeptPatterns.{slot_is, pattern_put, pattern_register, pattern_shown}
use Rattle.state.proofs.Limited.{line_limited}
use Rattle.state.proofs.Views.{line_is}
use Rattle.patterns.proofs.Turns.{next_year}
use Rattle.patterns.proofs.PatternAsked.{passes}

module _ (book : Book) (store : List ℕ) (line : Line) (letter year rate : ℕ) (paid incurred : List ℕ) (pre : Turned book store line letter year rate paid incurred) where
  abbrev pay : List ℕ
  pay = schedule letter (ages_of paid incurred)

  count : length (kept_factors letter rate pay) ≡ ages letter
  count =
      let n : Bool = eqb (length paid) (ages letter) in
      let m : Bool = eqb (length incurred) (ages letter) in
      kept_count letter rate pay (schedule_sized letter (ages_of paid incurred) (length_ages_of (ages letter) paid incurred (eqb-true _ _ (and_left n m pre.sound.lengths)) (eqb-true _ _ (and_right n m pre.sound.lengths))))

  is_year_lem : is_year year ≡ true
  is_year_lem = and_left (is_year year) (list_all is_amount paid) (and_left (is_year year && list_all is_amount paid) (list_all is_amount incurred) pre.sound.limits)

  shown : length store ≡ size → Limited letter line → (0 < line.patterns.count → year ≡ line.patterns.last + 1)
      → view (one_more_accepted book) (with_line_of (with_slot_of store letter year (slot_of letter (kept_pattern letter year rate pay))) letter (with_pattern_of letter line year)) ≡ with_line (view book store) letter (with_pattern letter (lines_of store letter) (kept_pattern letter year rate pay))
  shown n l next = rw (pattern_register store letter year rate pay pre.sound.letter n count line l is_year_lem next, pattern_put store letter year rate pay pre.sound.letter n count line l is_year_lem next, line_is store letter line pre.here)

  pub pattern_added : (answered : Result Pattern Refusal) → answered ≡ pattern_of letter rate paid incurred → (pattern : Pattern) → answered ≡ Ok pattern → length store ≡ size → (r : Outcome) → r ≡ accepted_of book (answer.Fact letter year)
      → (later : List ℕ) → later ≡ with_line_of (with_slot_of store letter year (pattern.factors ++ (pattern.composite ∷ []))) letter (with_pattern_of letter line year)
      → Settled book (add_pattern letter year paid incurred) store r later
  unfolding accept book_settled store_settled
  pattern_added answered ep pattern fine n r er later el =
      let p = passes book store line letter year rate paid incurred pre answered ep pattern fine in
      let c = pre.sound.letter in
      let l = line_limited store letter line pre.here in
      let next = next_year line year pre.turn in
      rw (p.0, er, el, p.1, slot_is letter year rate pay)
      record {
        outcome = rw pre.rated (λ i.
            record {
              book = shown n l next i;
              answer = ap (λ (k : Kept). fact letter year (map published k.factors) (published k.composite)) (pattern_shown store letter year rate pay c n count line l is_year_lem next) i;
            });
        own = refl;
        lent = rw (pre.rated, ← pre.here);
      }
