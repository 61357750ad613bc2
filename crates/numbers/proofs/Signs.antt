-- A number with its sign.
-- Assumes nothing.
use Rattle.std.specs.Prelude.{if◌then◌else◌, Option, None, Some}
use Rattle.std.proofs.Common.{◌≡◌, ℕ, ◌+◌, ◌-◌, ◌<◌, ◌≤◌, Bool, true, false, not, ◌&&◌, eqb, leb, ltb, List, [], ◌∷◌, length, get_or, take, drop, leb-true, ltb-true, sym, refl, ap, ◌∙◌, arith, eq-eqb, ne_eqb, eqb-true, drop_of_length-le}
use mathlib.Core.Bool.{false≢true, and-false}
use Rattle.std.specs.Bool.{then_some}
use Rattle.model.specs.Field.{fields, field}
use Rattle.model.specs.Number.{is_digit, natural, is_plain, minus, is_written}
use Rattle.model.proofs.Lists.{Some≢None, drop_next}
use Rattle.numbers.specs.Number.{capped, has_minus, leading, is_end, leading_digits, digits_to_tab, without_sign, number_in}
use Rattle.numbers.specs.declared.front.Digits.{Digits}
use Rattle.numbers.specs.declared.number.Number.{Number}
use Rattle.field.proofs.Scan.{before, first_field}
use Rattle.field.proofs.Fields.{before_le, rest_whole}
use Rattle.numbers.proofs.Digits.{plain_field, field_whole}

-- well written, with a sign and without
written_plain : (m : Bool) (f : List ℕ) → has_minus f ≡ false → is_written m f ≡ is_plain f
unfolding is_written is_plain
written_plain m [] e = refl
written_plain m (b ∷ bs) e = rw e

written_minus : (f : List ℕ) → has_minus f ≡ true → is_written true f ≡ (is_plain (drop 1 f) && not (eqb (natural (drop 1 f)) 0))
unfolding is_written
written_minus [] e = absurd (false≢true e)
written_minus (b ∷ bs) e = rw e

-- a plain number has no minus sign
plain_minus : (f : List ℕ) → has_minus f ≡ true → is_plain f ≡ false
unfolding is_plain
plain_minus [] e = refl
plain_minus (b ∷ []) e = let z : b ≡ 45 = eqb-true b 45 e in rw z
plain_minus (b ∷ c ∷ bs) e = let z : b ≡ 45 = eqb-true b 45 e in rw z

unsigned_minus : (f : List ℕ) → has_minus f ≡ true → is_written false f ≡ false
unfolding is_written
unsigned_minus [] e = refl
unsigned_minus (b ∷ bs) e = rw e

never_by : (f : List ℕ) (t : Bool) → has_minus f ≡ t → is_written false f ≡ is_plain f
never_by f true e = unsigned_minus f e ∙ sym (plain_minus f e)
never_by f false e = written_plain false f e

-- where no sign is allowed, a number is well written just where it is plain
written_never : (f : List ℕ) → is_written false f ≡ is_plain f
written_never f = never_by f (has_minus f) refl

no_minus_by : (f : List ℕ) (t : Bool) → has_minus f ≡ t → is_plain f ≡ true → false ≡ t
no_minus_by f true e p = sym (plain_minus f e) ∙ p
no_minus_by f false e p = refl

-- a minus sign adds nothing to the size
pub natural_minus : (f : List ℕ) → has_minus f ≡ true → natural f ≡ natural (drop 1 f)
unfolding natural
natural_minus [] e = refl
natural_minus (b ∷ bs) e = let z : b ≡ 45 = eqb-true b 45 e in rw z

-- the sign of the field at the front is that of the rest
same_by : (b : ℕ) (bs : List ℕ) (t : Bool) → eqb b 9 ≡ t → has_minus (before (b ∷ bs)) ≡ has_minus (b ∷ bs)
same_by b bs true e = let z : b ≡ 9 = eqb-true b 9 e in rw z
same_by b bs false e = rw e

same_minus : (s : List ℕ) → has_minus (before s) ≡ has_minus s
same_minus [] = refl
same_minus (b ∷ bs) = same_by b bs (eqb b 9) refl

-- what a field is read as
abbrev read : List ℕ → Number
read f = record { minus = has_minus f; size = capped f; length = length f }

module _ (minus_allowed : Bool) (f : List ℕ) where
  some_number : is_written minus_allowed f ≡ true → (minus : Bool) (size long : ℕ) → minus ≡ has_minus f → size ≡ capped f → long ≡ length f → Some (record { minus = minus; size = size; length = long }) ≡ number_in minus_allowed f
  some_number w minus size long em es el = rw (w, em, es, el)

  no_number : is_written minus_allowed f ≡ false → None ≡ number_in minus_allowed f
  no_number w = rw w

  given_by : (n : Number) (t : Bool) → is_written minus_allowed f ≡ t → Some n ≡ (if t then Some (read f) else None) → (is_written minus_allowed f ≡ true) × (n ≡ read f)
  given_by n true w e = (w, cc)
  given_by n false w e = absurd (Some≢None n e)

  -- and the other way round
  pub given : (n : Number) → Some n ≡ number_in minus_allowed f → (is_written minus_allowed f ≡ true) × (n ≡ read f)
  given n e = given_by n (is_written minus_allowed f) refl e

  missing_by : (t : Bool) → is_written minus_allowed f ≡ t → None ≡ (if t then Some (read f) else None) → is_written minus_allowed f ≡ false
  missing_by true w e = absurd (Some≢None (read f) (sym e))
  missing_by false w e = w

  pub missing : None ≡ number_in minus_allowed f → is_written minus_allowed f ≡ false
  missing e = missing_by (is_written minus_allowed f) refl e

-- a number without a sign
module _ (s : List ℕ) (d : Digits) (ed : d ≡ leading_digits s) (n : Number) (g : n ≡ without_sign d) where
  plain_read : (minus_allowed : Bool) → is_plain (leading s) ≡ true → is_end (drop (length (leading s)) s) ≡ true → Some n ≡ number_in minus_allowed (field 0 (fields s))
  plain_read minus_allowed p e =
      let whole = field_whole s e in
      let plain : is_plain (field 0 (fields s)) ≡ true = rw whole p in
      let none = sym (no_minus_by (field 0 (fields s)) (has_minus (field 0 (fields s))) refl plain) in
      some_number minus_allowed (field 0 (fields s)) (written_plain minus_allowed (field 0 (fields s)) none ∙ plain) n.minus n.size n.length (ap (λ (m : Number). m.minus) g ∙ sym none)
      (rw whole (ap (λ (m : Number). m.size) g ∙ ap (λ (x : Digits). x.size) ed))
      (rw whole (ap (λ (m : Number). m.length) g ∙ ap (λ (x : Digits). x.length) ed))

module _ (s : List ℕ) (d : Digits) (ed : d ≡ leading_digits s) (t : Bool) (et : t ≡ is_plain (leading s)) (u : Bool) (eu : u ≡ is_end (drop d.length s)) where
  end_is : is_end (drop (length (leading s)) s) ≡ u
  end_is = rw (← ap (λ (x : Digits). x.length) ed) (sym eu)

  pub unsigned_is : t ≡ true → u ≡ true → (n : Number) → n ≡ without_sign d → Some n ≡ number_in false (field 0 (fields s))
  unsigned_is t1 u1 n g = plain_read s d ed n g false (sym et ∙ t1) (end_is ∙ u1)

  pub unsigned_end : u ≡ false → None ≡ number_in false (field 0 (fields s))
  unsigned_end u0 = no_number false (field 0 (fields s)) (written_never (field 0 (fields s)) ∙ plain_field s ∙ rw (end_is, u0) (and-false (is_plain (leading s))))

pub unsigned_none : (s : List ℕ) (t : Bool) → t ≡ is_plain (leading s) → t ≡ false → None ≡ number_in false (field 0 (fields s))
unsigned_none s t et t0 = no_number false (field 0 (fields s)) (written_never (field 0 (fields s)) ∙ plain_field s ∙ rw (sym et ∙ t0))

-- no digit is a minus sign
minus_by : (b : ℕ) (bs : List ℕ) (t : Bool) → is_digit b ≡ t → has_minus (leading (b ∷ bs)) ≡ false
minus_by b bs true e = rw e (ne_eqb b 45 (λ z. let w : ◌≡◌ {A = ℕ} 0 1 = cc in omega arith))
minus_by b bs false e = rw e

leading_minus : (s : List ℕ) → has_minus (leading s) ≡ false
leading_minus [] = refl
leading_minus (b ∷ bs) = minus_by b bs (is_digit b) refl

-- the digits up to a tab are the whole field
tab_by : (s : List ℕ) (k : ℕ) → k < length s → eqb (get_or s k 0) 9 ≡ true → is_end (drop k s) ≡ true
tab_by s k lt e = rw (drop_next s k 0 lt) e

ended_by : (s : List ℕ) (d : Digits) (a b t : Bool) → leb 12 (length s) ≡ a → ltb (length (leading s)) 12 ≡ b → eqb (get_or s (length (leading s)) 0) 9 ≡ t → Some d ≡ (if a && b && t then Some (leading_digits s) else None)
    → (d ≡ leading_digits s) × (is_end (drop (length (leading s)) s) ≡ true)
ended_by s d true true true ea eb et e = (cc, tab_by s (length (leading s)) (omega (arith, leb-true 12 (length s) ea, ltb-true (length (leading s)) 12 eb)) et)
ended_by s d true true false ea eb et e = absurd (Some≢None d e)
ended_by s d true false t ea eb et e = absurd (Some≢None d e)
ended_by s d false b t ea eb et e = absurd (Some≢None d e)

ended : (s : List ℕ) (d : Digits) → Some d ≡ digits_to_tab s → (d ≡ leading_digits s) × (is_end (drop (length (leading s)) s) ≡ true)
ended s d e = ended_by s d (leb 12 (length s)) (ltb (length (leading s)) 12) (eqb (get_or s (length (leading s)) 0) 9) refl refl refl e

-- a number after a minus sign
after_sign : (f : List ℕ) → is_written true (minus ∷ f) ≡ (is_plain f && not (eqb (natural f) 0))
after_sign f = written_minus (minus ∷ f) refl

module _ (f : List ℕ) where
  pub below_none : None ≡ number_in false f → (r : Option Number) → r ≡ None → r ≡ number_in true (minus ∷ f)
  below_none e r er =
      let none : is_plain f ≡ false = sym (written_never f) ∙ missing false f e in
      er ∙ no_number true (minus ∷ f) (after_sign f ∙ rw none)

  module _ (n : Number) (e : Some n ≡ number_in false f) where
    digits : (is_written false f ≡ true) × (n ≡ read f)
    digits = given false f n e

    plain : is_plain f ≡ true
    plain = sym (written_never f) ∙ digits.0

    size : n.size ≡ capped f
    size = ap (λ (m : Number). m.size) digits.1

    pub below_nought : n.size ≡ 0 → None ≡ number_in true (minus ∷ f)
    below_nought z =
        let zero : natural f ≡ 0 = omega (arith, size) in
        no_number true (minus ∷ f) (after_sign f ∙ rw (plain, eq-eqb (natural f) 0 zero))

    pub below_is : (n.size ≡ 0 → ⊥) → Some (record { minus = true; size = n.size; length = n.length + 1 }) ≡ number_in true (minus ∷ f)
    below_is nz =
        let more : natural f ≡ 0 → ⊥ = λ z. nz (omega (arith, size)) in
        some_number true (minus ∷ f) (after_sign f ∙ rw (plain, ne_eqb (natural f) 0 more)) true n.size (n.length + 1) refl
        (rw (natural_minus (minus ∷ f) refl) size)
        (omega (arith, ap (λ (m : Number). m.length) digits.1))

-- a minus sign, or none
minus_first : (s : List ℕ) → has_minus s ≡ true → before s ≡ minus ∷ before (drop 1 s)
minus_first [] e = absurd (false≢true e)
minus_first (b ∷ bs) e = let z : b ≡ 45 = eqb-true b 45 e in rw z

pub minus_signed : (s : List ℕ) (minus_allowed t : Bool) → minus_allowed ≡ true → t ≡ has_minus s → t ≡ true → (r : Option Number) → r ≡ number_in true (minus ∷ field 0 (fields (take (length s - 1) (drop 1 s)))) → r ≡ number_in minus_allowed (field 0 (fields s))
minus_signed s minus_allowed t ea et t1 r e =
    let sign : field 0 (fields s) ≡ minus ∷ field 0 (fields (take (length s - 1) (drop 1 s))) = first_field s ∙ minus_first s (sym et ∙ t1) ∙ rw (rest_whole s 1, first_field (drop 1 s)) in
    rw (ea, sign) e

pub not_signed : (s : List ℕ) (minus_allowed t : Bool) → t ≡ has_minus s → t ≡ false → (r : Option Number) → r ≡ number_in false (field 0 (fields s)) → r ≡ number_in minus_allowed (field 0 (fields s))
not_signed s minus_allowed t et t0 r h =
    let none : has_minus (field 0 (fields s)) ≡ false = ap has_minus (first_field s) ∙ same_minus s ∙ sym et ∙ t0 in
    rw (written_plain minus_allowed (field 0 (fields s)) none, ← (written_never (field 0 (fields s)))) h

pub not_allowed : (s : List ℕ) (minus_allowed : Bool) → minus_allowed ≡ false → (r : Option Number) → r ≡ number_in false (field 0 (fields s)) → r ≡ number_in minus_allowed (field 0 (fields s))
not_allowed s minus_allowed ea r h = rw ea h

pub number_long : (s : List ℕ) (n : Number) → Some n ≡ number_in false (field 0 (fields s)) → n.length ≤ length s
number_long s n e = omega (arith, ap (λ (m : Number). m.length) (digits (field 0 (fields s)) n e).1, ap length (first_field s), before_le s)

-- the number in the field that begins at a place of a line
none_written : (minus_allowed : Bool) → is_written minus_allowed (field 0 (fields [])) ≡ false
unfolding fields is_written
none_written minus_allowed = refl

-- past the line's end no number is well written
pub past_written : (s : List ℕ) (at : ℕ) (minus_allowed : Bool) → length s < at → is_written minus_allowed (field 0 (fields (drop at s))) ≡ false
past_written s at minus_allowed past =
    let le : length s ≤ at = omega arith in
    rw (drop_of_length-le s le) (none_written minus_allowed)

pub past_end : (s : List ℕ) (at : ℕ) (minus_allowed : Bool) → length s < at → None ≡ number_in minus_allowed (field 0 (fields (drop at s)))
past_end s at minus_allowed past = no_number minus_allowed (field 0 (fields (drop at s))) (past_written s at minus_allowed past)

-- where a tab ends the digits, they are the whole field
module _ (s : List ℕ) (minus_allowed : Bool) (d : Digits) (e : Some d ≡ digits_to_tab s) where
  tab_is : is_plain (leading s) ≡ true → Some (without_sign d) ≡ number_in minus_allowed (field 0 (fields s))
  tab_is p = plain_read s d (ended s d e).0 (without_sign d) refl minus_allowed p (ended s d e).1

  tab_none : is_plain (leading s) ≡ false → None ≡ number_in minus_allowed (field 0 (fields s))
  tab_none p =
      let whole = field_whole s (ended s d e).1 in
      let none : has_minus (field 0 (fields s)) ≡ false = rw whole (leading_minus s) in
      no_number minus_allowed (field 0 (fields s)) (written_plain minus_allowed (field 0 (fields s)) none ∙ rw whole p)

  tab_by_plain : (t : Bool) → t ≡ is_plain (leading s) → then_some t (without_sign d) ≡ number_in minus_allowed (field 0 (fields s))
  tab_by_plain true et = tab_is (sym et)
  tab_by_plain false et = tab_none (sym et)

pub tab_at : (s : List ℕ) (at : ℕ) (minus_allowed : Bool) (d : Digits) → Some d ≡ digits_to_tab (take (length s - at) (drop at s)) → (t : Bool) → t ≡ is_plain (leading (take (length s - at) (drop at s)))
    → (n : Number) → n ≡ without_sign d → (r : Option Number) → r ≡ then_some t n → r ≡ number_in minus_allowed (field 0 (fields (drop at s)))
tab_at s at minus_allowed d e t et n en r q =
    q ∙ rw (en, ← rest_whole s at) (tab_by_plain (take (length s - at) (drop at s)) minus_allowed d e t et)
