-- The search for a byte 10: the blocks that are passed, and the one that the line ends in.
-- Assumes nothing.
use Rattle.std.specs.Prelude.{if◌then◌else◌}
use Rattle.std.specs.List.{prefix_len}
use Rattle.std.specs.Simd.{first_chunks}
use mathlib.Core.Bool.{Bool, true, false, not, cond}
use mathlib.Core.List.{List}
use mathlib.Core.Path.{◌≡◌, refl, sym, ap, ◌∙◌}
use Prim.Native.Nat.{ℕ, zero, suc, ◌+◌, ◌-◌, ◌*◌, ◌/◌, ◌≤◌, ◌<◌}
use native.Mathlib.Omega.{arith}
use lib.ListN.{length, take, drop, length-take, length-drop, drop_of_length-le, take-append-drop}
use lib.Seq.{drop-drop, take_all}
use Rattle.line_end.specs.Index.{index_of}
use Rattle.model.specs.Basics.{among}
use Rattle.line_end.specs.Scan.{EndsAt, EndsIn}
use Rattle.line_end.proofs.First.{index_none, first_within, index_joined}

-- the start is past the input
pub past_end : (input : List ℕ) (start : ℕ) → length input < start → EndsAt input start start
past_end input start lt =
    let le : length input ≤ start = omega arith in
    let none : index_of 10 (drop start input) ≡ 0 = rw (drop_of_length-le input le) index_none in
    record { place = omega (arith, none); within = omega arith }

-- fewer bytes than a block are left
rest_whole : (input : List ℕ) (at : ℕ) → length input - at < 16 → take 16 (drop at input) ≡ drop at input
rest_whole input at lt = take_all 16 (drop at input) (rw length-drop (omega arith))

-- the block, or the rest, that starts at place i of what starts at place `at`
at_later : (i at : ℕ) (input : List ℕ) → index_of 10 (take 16 (drop i (drop at input))) ≡ index_of 10 (take 16 (drop (at + i) input))
at_later i at input = ap (λ (l : List ℕ). index_of 10 (take 16 l)) (drop-drop i at input)

-- no byte 10 is in the first n blocks, and the line ends in the next block, or in the rest
record Skipped (bytes : List ℕ) (n : ℕ) : Type 0 where
  inside : 16 * n ≤ length bytes
  place : index_of 10 bytes ≡ 16 * n + index_of 10 (take 16 (drop (16 * n) bytes))

-- no byte of a block is 10
abbrev pub unended : List ℕ → Bool
unended block = not (among 10 block)

-- of n blocks
abbrev unended_of : ℕ → List ℕ → ℕ
unended_of n bytes = prefix_len unended (first_chunks 16 n bytes)

module _ (bytes : List ℕ) (room : 16 ≤ length bytes) where
  by_block : (found : Bool) → among 10 (take 16 bytes) ≡ found → index_of 10 bytes ≡ (if found then index_of 10 (take 16 bytes) else 16 + index_of 10 (drop 16 bytes))
  by_block found e =
      let sized : length (take 16 bytes) ≡ 16 = rw length-take (omega arith) in
      ap (index_of 10) (sym (take-append-drop 16 bytes)) ∙ index_joined (take 16 bytes) (drop 16 bytes) ∙ rw (e, sized)

  skipped_by : (n : ℕ) → Skipped (drop 16 bytes) n → (found : Bool) → among 10 (take 16 bytes) ≡ found → Skipped bytes (cond (not found) (1 + n) 0)
  skipped_by n more true e = record { inside = omega arith; place = by_block true e ∙ omega arith }
  skipped_by n more false e =
      let left : length (drop 16 bytes) ≡ length bytes - 16 = length-drop 16 bytes in
      let later : 16 + 16 * n ≡ 16 * (1 + n) = omega arith in
      record { inside = omega (arith, more.inside, left); place = rw (← later) (omega (arith, by_block false e, more.place, at_later (16 * n) 16 bytes)) }

skipped : (blocks : ℕ) (bytes : List ℕ) → 16 * blocks ≤ length bytes → length bytes < 16 * blocks + 16 → Skipped bytes (unended_of blocks bytes)
skipped zero bytes le lt = record { inside = omega arith; place = ap (index_of 10) (sym (take_all 16 bytes (omega arith))) ∙ (omega arith) }
skipped (suc blocks) bytes le lt =
    let left : length (drop 16 bytes) ≡ length bytes - 16 = length-drop 16 bytes in
    skipped_by bytes (omega arith) (unended_of blocks (drop 16 bytes)) (skipped blocks (drop 16 bytes) (omega (arith, left)) (omega (arith, left))) (among 10 (take 16 bytes)) refl

pub ends_in : (input : List ℕ) (start : ℕ) (blocks : List (List ℕ)) → start ≤ length input → blocks ≡ first_chunks 16 (length (drop start input) / 16) (drop start input) → EndsIn input start (start + 16 * prefix_len unended blocks)
ends_in input start blocks le e =
    let left : length (drop start input) ≡ length input - start = length-drop start input in
    let s : Skipped (drop start input) (prefix_len unended blocks) = rw e (skipped (length (drop start input) / 16) (drop start input) (omega arith) (omega arith)) in
    record { after_start = omega arith; inside = omega (arith, s.inside, left); place = omega (arith, s.place, at_later (16 * prefix_len unended blocks) start input) }

-- the first byte 10 of the block, or of the rest, gives the line's end
module _ (input : List ℕ) (start at : ℕ) (b : EndsIn input start at) where
  ends_at : (first : ℕ) → first ≡ index_of 10 (take 16 (drop at input)) → at + first ≤ length input → EndsAt input start (at + first)
  ends_at first e le = record { place = omega (arith, e, b.place, b.after_start); within = omega (arith, b.after_start) }

  module _ (end first : ℕ) (e : end ≡ at + 16) (room : 16 ≤ length input - at) (ef : first ≡ index_of 10 (take (end - at) (drop at input))) where
    pub block_inside : at + first ≤ length input
    block_inside = omega (arith, first_within (drop at input) (end - at) first ef)

    pub end_in_block : EndsAt input start (at + first)
    end_in_block =
        let sixteen : end - at ≡ 16 = omega arith in
        ends_at first (ef ∙ rw sixteen) block_inside

  module _ (first : ℕ) (ef : first ≡ index_of 10 (take (length input - at) (drop at input))) where
    pub rest_inside : at + first ≤ length input
    rest_inside = omega (arith, first_within (drop at input) (length input - at) first ef, b.inside)

    pub end_in_rest : length input - at < 16 → EndsAt input start (at + first)
    end_in_rest lt =
        let all : take (length input - at) (drop at input) ≡ drop at input = take_all (length input - at) (drop at input) (rw length-drop (omega arith)) in
        ends_at first (ef ∙ ap (index_of 10) (all ∙ sym (rest_whole input at lt))) rest_inside
