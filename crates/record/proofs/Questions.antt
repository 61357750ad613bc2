-- The questions one after the other.
-- Assumes nothing.
use Rattle.std.specs.Prelude.{if◌then◌else◌, is_some, Option, None, Some, Result, Ok, Err}
use Rattle.std.specs.Option.{ok_or}
use mathlib.Core.Bool.{Bool, true, false, false≢true}
use mathlib.Core.Path.{◌≡◌, refl, sym, ap, ◌∙◌}
use mathlib.Core.List.{List, [], ◌∷◌}
use Prim.Native.Nat.{ℕ, ◌≤◌, ◌<◌}
use native.Mathlib.Omega.{arith}
use borrow.Author.Tests.{eq-eqb, ne_eqb, le-leb, lt-leb, leb-true}
use lib.Dec.{eqb, leb}
use lib.ListN.{length, take, drop}
use Rattle.model.specs.Letter.{ten_year, two_year, covered}
use Rattle.model.specs.Field.{fields, field, letter_in}
use Rattle.model.specs.Record.{Word, LINE, RATE, RATE_ALONE, PATT, YEAR, SUM, MIDT, OTHER, word_of, form_of, record_of, field_count, first_number, all_written, call_from}
use Rattle.model.specs.Question.{longest, is_short, has_word, has_letter, has_fields, is_well_written, is_within_limits, line_questions, first_no}
use Rattle.model.proofs.Lists.{Some≢None, and_left, and_right}
use Rattle.refusal.specs.declared.Refusal.{Refusal}
use Rattle.refusal.specs.declared.Refusal.TheVariants.{TooLong, UnknownWord, UncoveredLetter, WrongCount, BadlyWritten}
use Rattle.refusal.specs.Number.{refusal_of}
use Rattle.field.proofs.Fields.{some_field}
use Rattle.form.specs.declared.word.Word as code
use Rattle.form.specs.declared.word.Word.TheVariants.{Line, Rate, Patt, Year, Sum, Midt}
use Rattle.form.specs.declared.request.Request.{Request}
use Rattle.form.specs.declared.request.Request.TheVariants.{Declare, SetRate, SetRateFromRegister, AddPattern, CloseYear, Totals, RegisterMonth}
use Rattle.form.specs.Word.{named}
use Rattle.form.specs.Request.{kind, letter, is_lettered, request, requested}
use Rattle.numbers.specs.Number.{capped, has_minus}
use Rattle.record.specs.Gather.{Room, Gathered}
use Rattle.record.specs.Request.{asking, answered, with_numbers, LineRead, read_of, Gives}
use Rattle.record.specs.Read.{unread, from_word, from_count, Lettered}

two : (t : Bool) (a b : ℕ) → (2 ≤ a) × (a ≤ 62) → (2 ≤ b) × (b ≤ 62) → (2 ≤ (if t then a else b)) × ((if t then a else b) ≤ 62)
two true a b p q = p
two false a b p q = q

-- the numbers, if any, are among at most 62 fields
pub room : (word : Word) (letter : ℕ) → has_word word ≡ true → (first_number word ≤ field_count word letter) × (field_count word letter ≤ 62)
room LINE letter h = omega arith
room RATE letter h = omega arith
room RATE_ALONE letter h = omega arith
room PATT letter h = two (ten_year letter) 23 7 (omega arith) (omega arith)
room YEAR letter h = two (ten_year letter) 36 12 (omega arith) (omega arith)
room SUM letter h = omega arith
room MIDT letter h = omega arith
room OTHER letter h = absurd (false≢true h)

has_kind : (asks : Request) → has_word (kind asks) ≡ true
has_kind (Declare l) = refl
has_kind (SetRate l) = refl
has_kind (SetRateFromRegister l) = refl
has_kind (AddPattern l) = refl
has_kind (CloseYear l) = refl
has_kind (Totals l) = refl
has_kind (RegisterMonth l) = refl

-- questions 4 and 5
module _ (s : List ℕ) (asks : Request) (p : Lettered (fields s) asks) (expected : ℕ) (ex : expected ≡ field_count (kind asks) (letter asks)) (place : ℕ) (e : place ≡ first_number (kind asks)) (minus : List Bool) (sizes : List ℕ) where
  pub numbers_room : length minus ≡ 62 → length sizes ≡ 62 → Room (fields s) place expected minus sizes
  numbers_room lm ls =
      let r = room (kind asks) (letter asks) (has_kind asks) in
      record { upto = omega (arith, r.0); few = omega (arith, r.1); there = rw e p.there; signs = lm; values = ls }

  there : expected ≡ field_count (kind asks) (letter_in (fields s))
  there = ex ∙ ap (field_count (kind asks)) p.second

  module _ (t : Bool) (ms : List Bool) (ns : List ℕ) (g : Gathered (kind asks) place expected (fields s) minus sizes t ms ns) where
    -- an answer with the lists as they are gathered
    with_lists : (q : Result Request Refusal) → q ≡ (from_count (kind asks) (fields s) minus sizes).request → Gives (from_count (kind asks) (fields s) minus sizes) q ms ns
    with_lists q eq = record { request = eq; signs = rw (e, there) at g.signs; values = rw (e, there) at g.values }

    pub numbers_are : t ≡ true → Gives (from_count (kind asks) (fields s) minus sizes) (Ok asks) ms ns
    numbers_are t1 =
        let both = sym g.written ∙ t1 in
        let n : has_fields (kind asks) (fields s) ≡ true = rw (← there) (and_left (eqb (length (fields s)) expected) (all_written (kind asks) place (drop place (fields s))) both) in
        let w : is_well_written (kind asks) (fields s) ≡ true = rw (← e) (and_right (eqb (length (fields s)) expected) (all_written (kind asks) place (drop place (fields s))) both) in
        with_lists (Ok asks) (rw (n, w, p.known))

    module _ (t0 : t ≡ false) (n : ℕ) (en : n ≡ length (fields s)) where
      pub numbers_ill : n ≡ expected → Gives (from_count (kind asks) (fields s) minus sizes) (Err BadlyWritten) ms ns
      numbers_ill x =
          let c : eqb (length (fields s)) expected ≡ true = eq-eqb (length (fields s)) expected (sym en ∙ x) in
          let w : is_well_written (kind asks) (fields s) ≡ false = rw (← e) (sym (rw (c, t0) at g.written)) in
          let h : has_fields (kind asks) (fields s) ≡ true = rw (← there) c in
          with_lists (Err BadlyWritten) (rw (h, w))

      pub numbers_not : (n ≡ expected → ⊥) → Gives (from_count (kind asks) (fields s) minus sizes) (Err WrongCount) ms ns
      numbers_not x =
          let h : has_fields (kind asks) (fields s) ≡ false = rw (← there) (ne_eqb (length (fields s)) expected (λ y. x (en ∙ y))) in
          with_lists (Err WrongCount) (rw h)

-- question 3
lettered_is : (word : Word) (fs : List (List ℕ)) → has_letter (call_from word fs) ≡ is_lettered word (letter_in fs)
unfolding call_from ten_year two_year
lettered_is LINE fs = refl
lettered_is RATE fs = refl
lettered_is RATE_ALONE fs = refl
lettered_is PATT fs = refl
lettered_is YEAR fs = refl
lettered_is SUM fs = refl
lettered_is MIDT fs = refl
lettered_is OTHER fs = refl

-- a record with a covered letter has a second field
second_there : (fs : List (List ℕ)) → covered (letter_in fs) ≡ true → 2 ≤ length fs
unfolding ten_year two_year
second_there [] h = absurd (false≢true h)
second_there (f ∷ []) h = absurd (false≢true h)
second_there (f ∷ g ∷ fs) h = omega arith

before_there : (word : Word) (s : List ℕ) → is_lettered word (letter_in (fields s)) ≡ true → first_number word ≤ length (fields s)
before_there LINE s h = second_there (fields s) h
before_there RATE s h = some_field s
before_there RATE_ALONE s h = some_field s
before_there PATT s h = second_there (fields s) h
before_there YEAR s h = second_there (fields s) h
before_there SUM s h = second_there (fields s) h
before_there MIDT s h = some_field s
before_there OTHER s h = absurd (false≢true h)

-- a request that a record makes
abbrev Made : Word → ℕ → Request → Type 0
Made word l asks = (kind asks ≡ word) × (is_lettered word l ≡ true) × (request word l ≡ Some asks) × (letter asks ≡ l)

made_by : (asks own : Request) (t : Bool) → Some asks ≡ (if t then Some own else None) → (t ≡ true) × (asks ≡ own)
made_by asks own true e = (refl, cc)
made_by asks own false e = absurd (Some≢None asks e)

made : (word : Word) (l : ℕ) (asks : Request) → Some asks ≡ requested word l → Made word l asks
made LINE l asks e = let m = made_by asks (Declare l) (covered l) e in rw m.1 (refl, m.0, refl, refl)
made RATE l asks e = let m = made_by asks (SetRate l) true e in rw m.1 (refl, refl, refl, refl)
made RATE_ALONE l asks e = let m = made_by asks (SetRateFromRegister l) true e in rw m.1 (refl, refl, refl, refl)
made PATT l asks e = let m = made_by asks (AddPattern l) (covered l) e in rw m.1 (refl, m.0, refl, refl)
made YEAR l asks e = let m = made_by asks (CloseYear l) (covered l) e in rw m.1 (refl, m.0, refl, refl)
made SUM l asks e = let m = made_by asks (Totals l) (covered l) e in rw m.1 (refl, m.0, refl, refl)
made MIDT l asks e = let m = made_by asks (RegisterMonth l) true e in rw m.1 (refl, refl, refl, refl)
made OTHER l asks e = absurd (Some≢None asks e)

-- none is made of a record of a known word only where its letter is not covered
none_by : (own : Request) (t : Bool) → None ≡ (if t then Some own else None) → t ≡ false
none_by own true e = absurd (Some≢None own (sym e))
none_by own false e = refl

none_made : (word : Word) (l : ℕ) → has_word word ≡ true → None ≡ requested word l → is_lettered word l ≡ false
none_made LINE l h e = none_by (Declare l) (covered l) e
none_made RATE l h e = none_by (SetRate l) true e
none_made RATE_ALONE l h e = none_by (SetRateFromRegister l) true e
none_made PATT l h e = none_by (AddPattern l) (covered l) e
none_made YEAR l h e = none_by (CloseYear l) (covered l) e
none_made SUM l h e = none_by (Totals l) (covered l) e
none_made MIDT l h e = none_by (RegisterMonth l) true e
none_made OTHER l h e = absurd (false≢true h)

-- the refusal is one and the same
err_same : {A : Type 0} (x y : Refusal) → ◌≡◌ {A = Result A Refusal} (Err x) (Err y) → x ≡ y
err_same x y e = cc

-- question 2
rate_known : (t : Bool) → has_word (if t then RATE_ALONE else RATE) ≡ true
rate_known true = refl
rate_known false = refl

known : (word : code.Word) (n : ℕ) → has_word (form_of (named (Some word)) n) ≡ true
known Line n = refl
known Rate n = rate_known (eqb n 2)
known Patt n = refl
known Year n = refl
known Sum n = refl
known Midt n = refl

-- question 1, and the table of the five
table : (a b c d e f : Bool) (fs : List (List ℕ)) (minus ms : List Bool) (sizes ns : List ℕ)
    → let questions : List (ℕ × Bool) = (1, a) ∷ (2, b) ∷ (3, c) ∷ (4, d) ∷ (5, e) ∷ (6, f) ∷ [] in
    let left = is_some (first_no (take 3 questions)) in
    ◌≡◌ {A = LineRead} (record { request = answered (first_no (take 5 questions)) fs; minus = if left then minus else ms; sizes = if left then sizes else ns })
    (if a then (if b then (if c then (record { request = if d then (if e then asking (record_of fs) fs else Err BadlyWritten) else Err WrongCount; minus = ms; sizes = ns }) else unread UncoveredLetter minus sizes) else unread UnknownWord minus sizes) else unread TooLong minus sizes)
unfolding refusal_of
table false b c d e f fs minus ms sizes ns = refl
table true false c d e f fs minus ms sizes ns = refl
table true true false d e f fs minus ms sizes ns = refl
table true true true false e f fs minus ms sizes ns = refl
table true true true true false f fs minus ms sizes ns = refl
table true true true true true f fs minus ms sizes ns = refl

read_from : (s : List ℕ) (minus : List Bool) (sizes : List ℕ) → read_of s minus sizes ≡ (if is_short s then from_word (record_of (fields s)) (fields s) minus sizes else unread TooLong minus sizes)
unfolding read_of line_questions
read_from s minus sizes =
    let word = record_of (fields s) in
    let call = call_from word (fields s) in
    table (is_short s) (has_word word) (has_letter call) (has_fields word (fields s)) (is_well_written word (fields s)) (is_within_limits call) (fields s) minus (with_numbers has_minus word (fields s) minus) sizes (with_numbers capped word (fields s) sizes)

-- the code's limit is the longest: no more where a line is read, and no less where it is not
module _ (s : List ℕ) (minus : List Bool) (sizes : List ℕ) (limit : ℕ) where
  pub too_long : limit < length s → leb longest limit ≡ true → Gives (read_of s minus sizes) (Err TooLong) minus sizes
  too_long lt high = rw (read_from s minus sizes, lt-leb (length s) longest (omega (arith, leb-true longest limit high))) record { request = refl; signs = refl; values = refl }

  module _ (le : length s ≤ limit) (low : leb limit longest ≡ true) (f : List ℕ) (ef : f ≡ field 0 (fields s)) where
    short : read_of s minus sizes ≡ from_word (record_of (fields s)) (fields s) minus sizes
    short = read_from s minus sizes ∙ rw (le-leb (length s) longest (omega (arith, leb-true limit longest low)))

    module _ (o : Option code.Word) (eo : named o ≡ word_of f) where
      pub unknown_word : o ≡ None → (refusal : Refusal) → Err refusal ≡ ok_or o UnknownWord → Gives (read_of s minus sizes) (Err refusal) minus sizes
      unknown_word e refusal er =
          let other : word_of (field 0 (fields s)) ≡ OTHER = ap word_of (sym ef) ∙ sym eo ∙ ap named e in
          let same : refusal ≡ UnknownWord = err_same refusal UnknownWord (er ∙ ap (λ (w : Option code.Word). ok_or w UnknownWord) e) in
          rw (short, other, same) record { request = refl; signs = refl; values = refl }

      module _ (word : code.Word) (ow : o ≡ Some word) where
        is : record_of (fields s) ≡ form_of (named (Some word)) (length (fields s))
        is = ap (λ (w : Word). form_of w (length (fields s))) (ap word_of (sym ef) ∙ sym eo ∙ ap named ow)

        lettered : read_of s minus sizes ≡ (if is_lettered (record_of (fields s)) (letter_in (fields s)) then from_count (record_of (fields s)) (fields s) minus sizes else unread UncoveredLetter minus sizes)
        lettered =
            let h : has_word (record_of (fields s)) ≡ true = rw is (known word (length (fields s))) in
            short ∙ rw (h, lettered_is (record_of (fields s)) (fields s))

        module _ (r : Option Request) (er : r ≡ requested (form_of (named (Some word)) (length (fields s))) (letter_in (fields s))) where
          pub uncovered_letter : r ≡ None → (refusal : Refusal) → Err refusal ≡ ok_or r UncoveredLetter → Gives (read_of s minus sizes) (Err refusal) minus sizes
          uncovered_letter e refusal ee =
              let same : refusal ≡ UncoveredLetter = err_same refusal UncoveredLetter (ee ∙ ap (λ (a : Option Request). ok_or a UncoveredLetter) e) in
              let none : is_lettered (record_of (fields s)) (letter_in (fields s)) ≡ false = rw is (none_made (form_of (named (Some word)) (length (fields s))) (letter_in (fields s)) (known word (length (fields s))) (sym e ∙ er)) in
              rw (lettered, none, same) record { request = refl; signs = refl; values = refl }

          module _ (asks : Request) (ra : r ≡ Some asks) where
            it_is : Made (record_of (fields s)) (letter_in (fields s)) asks
            it_is = made (record_of (fields s)) (letter_in (fields s)) asks (rw is (sym ra ∙ er))

            pub letter_there : Lettered (fields s) asks
            letter_there =
                record {
                  known = rw it_is.0 it_is.2;
                  second = it_is.3;
                  there = rw it_is.0 (before_there (record_of (fields s)) s it_is.1);
                }

            pub all_asked : (q : Result Request Refusal) (ms : List Bool) (ns : List ℕ) → Gives (from_count (kind asks) (fields s) minus sizes) q ms ns → Gives (read_of s minus sizes) q ms ns
            all_asked q ms ns h = rw (lettered, it_is.1) (rw it_is.0 at h)
