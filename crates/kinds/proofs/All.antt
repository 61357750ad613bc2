-- The loop that puts a test to every element of a list: how far it is, and what it answers.
-- Assumes nothing.
use mathlib.Core.Path.{◌≡◌, refl, sym, ◌∙◌}
use mathlib.Core.Bool.{Bool, true, false}
use mathlib.Core.List.{List}
use Prim.Native.Nat.{ℕ, ◌+◌, ◌≤◌, ◌<◌}
use native.Mathlib.Omega.{arith}
use native.Mathlib.Numerals.{add-one}
use lib.ListN.{length, drop, get_or, drop_of_length-le}
use lib.Seq.{drop-cons}
use Rattle.std.specs.List.{list_all}

-- the elements before place i pass
pub record Passing {A : Type 0} (test : A → Bool) (list : List A) (i : ℕ) : Type 0 where
  pub inside : i ≤ length list
  pub rest : list_all test list ≡ list_all test (drop i list)

pub start : {A : Type 0} (test : A → Bool) (list : List A) → Passing test list 0
start test list = record { inside = omega arith; rest = refl }

pub on : {A : Type 0} (test : A → Bool) (list : List A) (i : ℕ) (d : A) → Passing test list i → i < length list → test (get_or list i d) ≡ true → Passing test list (i + 1)
on test list i d p lt t =
    record {
      inside = omega arith;
      rest = p.rest ∙ rw (add-one, drop-cons list i d lt, t);
    }

pub stop : {A : Type 0} (test : A → Bool) (list : List A) (i : ℕ) (d : A) → Passing test list i → i < length list → test (get_or list i d) ≡ false → false ≡ list_all test list
stop test list i d p lt t = sym (p.rest ∙ rw (drop-cons list i d lt, t))

pub end : {A : Type 0} (test : A → Bool) (list : List A) (i : ℕ) → Passing test list i → length list ≤ i → true ≡ list_all test list
end test list i p le = sym (p.rest ∙ rw (drop_of_length-le list le))
