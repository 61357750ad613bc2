-- THE LAW. Cells written into a store: the piece that they are holds them, and every piece apart from them is as it was.
-- Assumes nothing.
use mathlib.Core.Path.{◌≡◌, refl}
use mathlib.Core.List.{List, [], ◌∷◌, ◌++◌, append_assoc}
use mathlib.Core.Logic.{◌⊎◌, inl, inr, ⊎_elim}
use Prim.Native.Nat.{ℕ, zero, suc, ◌+◌, ◌-◌, ◌≤◌, ◌<◌}
use native.Mathlib.Omega.{arith}
use native.Mathlib.Nat.{eq-zero-or-pos}
use native.Mathlib.Numerals.{add-one}
use borrow.Rule.Slice.PartMut.{put_mid}
use lib.ListN.{length, take, drop, get_or, set, replicate, length-append, length-drop, take-append-drop}
use lib.Seq.{length-take-le, take_at, drop_at, take-append-le, drop-append-le, drop-drop, drop-cons, get_or-take, get_or-drop, set_at, set_split}
use Rattle.state.specs.Store.{piece, written}

-- a cell of a piece, read where it lies
pub cell : (store : List ℕ) (at n j : ℕ) → j < n → get_or (piece store at n) j 0 ≡ get_or store (at + j) 0
unfolding piece
cell store at n j lt = rw (get_or-take n (drop at store) j 0 lt) (get_or-drop at store j 0)

-- two places that differ: one comes first
pub first_or_later : (a b : ℕ) → (a ≡ b → ⊥) → (a < b) ⊎ (b < a)
first_or_later a b differ =
    ⊎_elim
    (λ (z : a - b ≡ 0). ⊎_elim (λ (y : b - a ≡ 0). absurd (differ (omega arith))) (λ (h : 0 < b - a). inl (omega arith)) (eq-zero-or-pos (b - a)))
    (λ (h : 0 < a - b). inr (omega arith))
    (eq-zero-or-pos (a - b))

module _ (store cells : List ℕ) (at : ℕ) (room : at + length cells ≤ length store) where
  front : length (take at store) ≡ at
  front = length-take-le at store (omega arith)

  pub here : (n : ℕ) → length cells ≡ n → piece (written store at cells) at n ≡ cells
  unfolding piece written
  here n l = rw (drop_at (take at store) (cells ++ drop (at + length cells) store) at front) (take_at cells (drop (at + length cells) store) n l)

  pub before : (from n : ℕ) → from + n ≤ at → piece (written store at cells) from n ≡ piece store from n
  unfolding piece written
  before from n le =
      let kept : List ℕ = take at store in
      let rest : List ℕ = cells ++ drop (at + length cells) store in
      let l : n ≤ length (drop from kept) = rw length-drop (omega (arith, front)) in
      rw (
        drop-append-le from kept rest (omega (arith, front)),
        take-append-le n (drop from kept) rest l,
        ← (take-append-le n (drop from kept) (drop at store) l),
        ← (drop-append-le from kept (drop at store) (omega (arith, front))),
        take-append-drop at store,
      )

  pub after : (from n : ℕ) → at + length cells ≤ from → piece (written store at cells) from n ≡ piece store from n
  unfolding piece written
  after from n le =
      let m : ℕ = length cells in
      let k : ℕ = from - (at + m) in
      let e : from ≡ at + m + k = omega arith in
      let all : List ℕ = take at store ++ (cells ++ drop (at + m) store) in
      rw (
        e,
        ← (drop-drop k (at + m) store),
        ← (drop-drop k (at + m) all),
        ← (drop-drop m at all),
        drop_at (take at store) (cells ++ drop (at + m) store) at front,
        drop_at cells (drop (at + m) store) m refl,
      )

  pub long : length (written store at cells) ≡ length store
  unfolding written
  long = rw (length-append, length-append, front, length-drop) (omega arith)

-- as code writes one cell, alone or after others
pub one_cell : (store : List ℕ) (at v : ℕ) → at < length store → set store at v ≡ written store at (v ∷ [])
unfolding written
one_cell store at v lt = rw (set_split store at v lt, add-one at)

pub one_more_cell : (store cells : List ℕ) (at v : ℕ) → at + length cells < length store → set (written store at cells) (at + length cells) v ≡ written store at (cells ++ (v ∷ []))
unfolding written
one_more_cell store cells at v lt =
    let n : ℕ = length cells in
    let rest : List ℕ = drop (suc (at + n)) store in
    let first : length (take at store ++ cells) ≡ at + n = rw (length-append, length-take-le at store (omega arith)) in
    let end : at + length (cells ++ (v ∷ [])) ≡ suc (at + n) = rw length-append (omega arith) in
    rw (
      drop-cons store (at + n) 0 lt,
      ← (append_assoc (take at store) cells (get_or store (at + n) 0 ∷ rest)),
      set_at (take at store ++ cells) (get_or store (at + n) 0) rest v (at + n) first,
      end,
    )
    (simp append_assoc)

-- as code copies cells over a part of the store
pub written_over : (store cells : List ℕ) (at : ℕ) (middle : List ℕ) → middle ≡ cells → put_mid at (at + length cells - at) store middle ≡ written store at cells
unfolding written
written_over store cells at middle e =
    let n : at + length cells - at ≡ length cells = omega arith in
    rw (e, n, drop-drop (length cells) at store)

-- a cell of zeros, and one past their end
pub zero_cell : (n i : ℕ) → get_or {A = ℕ} (replicate n 0) i 0 ≡ 0
zero_cell zero i = refl
zero_cell (suc n) zero = refl
zero_cell (suc n) (suc i) = zero_cell n i
