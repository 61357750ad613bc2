-- A line of two parts, cut to the bytes that are kept.
-- Assumes nothing.
use mathlib.Core.List.{List, [], ◌∷◌, ◌++◌, append_assoc, append-nil}
use mathlib.Core.Path.{◌≡◌, refl, sym, ap, ◌∙◌}
use Prim.Native.Nat.{ℕ, zero, suc, ◌+◌, ◌-◌, ◌≤◌}
use native.Mathlib.Omega.{arith}
use lib.ListN.{length, take, drop, replicate, length-append, length-replicate, drop_of_length-le}
use lib.Seq.{take_at, drop_at, take_all, length-take-le}
use Rattle.pieces.specs.declared.line.OpenLine.{OpenLine}
use Rattle.pieces.specs.Progress.{kept_bytes}
use Rattle.pieces.specs.Feed.{bytes_of, open_line}

-- the front of two lists
take_parts : (n : ℕ) (xs ys : List ℕ) → take n (xs ++ ys) ≡ take n xs ++ take (n - length (take n xs)) ys
take_parts zero xs ys = refl
take_parts (suc n) [] ys =
    let none : suc n - 0 ≡ suc n = omega arith in
    rw none
take_parts (suc n) (x ∷ xs) ys =
    let less : suc n - suc (length (take n xs)) ≡ n - length (take n xs) = omega arith in
    rw (take_parts n xs ys, less)

drop_same : (z n m : ℕ) → drop n (replicate m z) ≡ replicate (m - n) z
drop_same z zero m = let e : m - 0 ≡ m = omega arith in rw e
drop_same z (suc n) zero = let e : 0 - suc n ≡ 0 = omega arith in rw e
drop_same z (suc n) (suc m) = let e : suc m - suc n ≡ m - n = omega arith in rw e (drop_same z n m)

-- two parts are put into so many zeros, for any number of them: the second into the slice after the first
module _ (n : ℕ) where
  abbrev zeros : List ℕ
  zeros = replicate n 0

  abbrev filled : List ℕ → OpenLine
  filled line = record { bytes = line ++ replicate (n - length line) 0; count = length line }

  parts_in : (begun more middle : List ℕ) (first : ℕ) → first ≡ length (take n begun) → middle ≡ take n begun ++ drop first zeros
      → (slice later : List ℕ) (second : ℕ) → slice ≡ take (n - first) (drop first middle) → second ≡ length (take (length slice) more) → later ≡ take (length slice) more ++ drop second slice
      → record { bytes = take first middle ++ (later ++ drop (n - first) (drop first middle)); count = first + second } ≡ filled (take n (begun ++ more))
  parts_in begun more middle first ef em slice later second el es eb =
      let start : List ℕ = take n begun in
      let rest : List ℕ = take (n - first) more in
      let front : take first middle ≡ start = ap (take first) em ∙ take_at start (drop first zeros) first (sym ef) in
      let room : List ℕ = replicate (n - first) 0 in
      let size : length room ≡ n - first = length-replicate {A = ℕ} (n - first) 0 in
      let back : drop first middle ≡ room = ap (drop first) em ∙ drop_at start (drop first zeros) first (sym ef) ∙ drop_same 0 first n in
      let lent : slice ≡ room = el ∙ ap (take (n - first)) back ∙ take_all (n - first) room (omega (arith, size)) in
      let end : drop (n - first) (drop first middle) ≡ [] = ap (drop (n - first)) back ∙ drop_of_length-le room (omega (arith, size)) in
      let zeros_left : drop second slice ≡ replicate (n - (first + second)) 0 = ap (drop second) lent ∙ drop_same 0 second (n - first) ∙ ap (λ (k : ℕ). replicate k 0) (omega arith) in
      let fits : take (length slice) more ≡ rest = ap (λ (l : List ℕ). take (length l) more) lent ∙ ap (λ (k : ℕ). take k more) size in
      let put : later ≡ rest ++ replicate (n - (first + second)) 0 = eb ∙ rw (fits, zeros_left) in
      let parts : start ++ rest ≡ take n (begun ++ more) = ap (λ (k : ℕ). start ++ take (n - k) more) ef ∙ sym (take_parts n begun more) in
      let counted : first + second ≡ length (start ++ rest) = omega (arith, ef, es, ap length fits, length-append start rest) in
      rw (front, put, end, append-nil (rest ++ replicate (n - (first + second)) 0), ← (append_assoc start rest (replicate (n - (first + second)) 0)), counted, parts)

pub two_parts : (begun more middle : List ℕ) (first : ℕ) → first ≡ length (take kept_bytes begun) → middle ≡ take kept_bytes begun ++ drop first (zeros kept_bytes)
    → (slice later : List ℕ) (second : ℕ) → slice ≡ take (kept_bytes - first) (drop first middle) → second ≡ length (take (length slice) more) → later ≡ take (length slice) more ++ drop second slice
    → record { bytes = take first middle ++ (later ++ drop (kept_bytes - first) (drop first middle)); count = first + second } ≡ open_line (take kept_bytes (begun ++ more))
two_parts = parts_in kept_bytes

-- the bytes of an open line are the line so far
pub open_bytes : (line : OpenLine) (bytes : List ℕ) → line ≡ open_line bytes → bytes_of line ≡ bytes
open_bytes line bytes e = rw e (take_at bytes (replicate (kept_bytes - length bytes) 0) (length bytes) refl)

-- a front of a list, by its length
pub front_length : (n : ℕ) (l : List ℕ) → n ≤ length l → n ≡ length (take n l)
front_length n l le = sym (length-take-le n l le)
