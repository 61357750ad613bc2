-- The walk's steps over the lists: where no age is left, and one age back.
-- Assumes nothing.
use mathlib.Core.Path.{◌≡◌, sym, ap, ◌∙◌}
use mathlib.Core.List.{List, [], ◌∷◌, ◌++◌, append-nil}
use Prim.Native.Nat.{ℕ, ◌+◌, ◌<◌}
use native.Mathlib.Omega.{arith}
use native.Mathlib.Numerals.{add-one}
use lib.ListN.{length, take, drop, get_or, set}
use lib.Seq.{drop-length, take-length, take-suc, length-take-le, append_snoc, set_at}
use Rattle.model.specs.Pattern.{unpaid}
use Rattle.model.specs.Factor.{worked_back, factor, factors}
use Rattle.model.proofs.Lists.{drop_next}
use Rattle.model.proofs.FactorBounds.{factor_at_most}
use Rattle.factor.specs.Walk.{Weighable, Walkable, Walked}

-- no age is left
pub done : (pay : List ℕ) (at half rate : ℕ) (out : List ℕ) → Walkable pay at out → at ≡ length pay → Walked pay at half rate out out 0 half
unfolding factor factors
done pay at half rate out g e =
    let n : drop at pay ≡ [] = ap (λ (k : ℕ). drop k pay) e ∙ drop-length pay in
    let m : take at out ≡ out = ap (λ (k : ℕ). take k out) (e ∙ sym g.same) ∙ take-length out in
    record { left = rw n; here = rw n; all = rw (n, m, append-nil) }

-- one more: what is unpaid from a place on is the payment there and what is unpaid after it
module _ (pay : List ℕ) (at : ℕ) (out : List ℕ) (g : Walkable pay at out) (lt : at < length pay) where
  split : unpaid (drop at pay) ≡ get_or pay at 0 + unpaid (drop (at + 1) pay)
  split = ap unpaid (drop_next pay at 0 lt)

  pub walkable_next : Walkable pay (at + 1) out
  walkable_next = record { inside = omega arith; same = g.same; part = omega (arith, split, g.part) }

  -- what the walk from at + 1 on left, with the store at `at`
  stored : (fs : List ℕ) (f : ℕ) → set (take (at + 1) out ++ fs) at f ≡ take at out ++ f ∷ fs
  stored fs f =
      let o : at < length out = omega (arith, g.same) in
      rw (add-one, take-suc out at 0 o, append_snoc) (set_at (take at out) (get_or out at 0) fs f at (length-take-le at out (omega arith)))

  pub walked_back : (half rate : ℕ) (after : List ℕ) (u f : ℕ) → Walked pay (at + 1) half rate out after u f
      → Walked pay at half rate out (set after at f) (get_or pay at 0 + u) (worked_back half (10000 + rate) (get_or pay at 0) u f)
  unfolding factor factors
  walked_back half rate after u f w =
      record {
        left = rw (drop_next pay at 0 lt, w.left);
        here = rw (drop_next pay at 0 lt, w.left, w.here);
        all = rw (drop_next pay at 0 lt, w.all, w.here) (stored (factors half (10000 + rate) (drop (at + 1) pay)) (factor half (10000 + rate) (drop (at + 1) pay)));
      }

  pub weighable : (half rate : ℕ) (after : List ℕ) (u f : ℕ) → Walked pay (at + 1) half rate out after u f → Weighable (get_or pay at 0) u f half
  weighable half rate after u f w =
      record {
        part = omega (arith, split, g.part, w.left);
        small_next = omega (arith, w.here, factor_at_most half (10000 + rate) (omega arith) (drop (at + 1) pay));
      }
