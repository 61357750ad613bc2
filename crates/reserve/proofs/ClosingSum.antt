-- The sum of the discounted rows, as the loop has it: how far it is, that it fits, and what it is in the end.
-- Assumes nothing.
use Rattle.std.specs.Prelude.{Option, Some, None}
use borrow.Author.Tests.{leb-true}
use mathlib.Core.Bool.{true, ◌&&◌}
use mathlib.Core.Path.{◌≡◌, sym, ◌∙◌}
use mathlib.Core.List.{List}
use Prim.Native.Nat.{ℕ, suc, ◌+◌, ◌*◌, ◌≤◌, ◌<◌}
use native.Mathlib.Omega.{arith}
use native.Mathlib.Numerals.{add-one}
use lib.ListN.{length, take, drop, get_or, length-take, drop_of_length-le}
use lib.Seq.{drop-cons, get_or-take}
use mir.Syntax.{w64}
use mir.Val.{Fits}
use Rattle.model.specs.Basics.{sum}
use Rattle.std.specs.List.{list_all}
use Rattle.model.specs.Kind.{is_amount}
use Rattle.kinds.specs.Factor.{is_factor}
use Rattle.kinds.specs.Within.{within}
use Rattle.money.specs.Closing.{is_closing}
use Rattle.kinds.proofs.All as all_of
use Rattle.kinds.proofs.All.{Passing}
use Rattle.reserve.specs.Lists.{ReserveLists, stated_rows}
use Rattle.reserve.specs.Closing.{discounted_rows, closing_at, are_factors, row_of, closing_in}
use Rattle.reserve.proofs.Rows.{row_in, row_out}
use Rattle.reserve.proofs.Conjunctions.{three, any_no}

-- the rows before place k are in the sum s, and their numbers within their limits
pub record Summed (unpaid tabular factors : List ℕ) (s k : ℕ) : Type 0 where
  pub unpaid_passing : Passing is_amount unpaid k
  pub tabular_passing : Passing is_amount tabular k
  pub factors_passing : Passing is_factor (take (length unpaid) factors) k
  pub size : s ≤ 10000000000 * k
  pub rest : s + sum (discounted_rows factors k (stated_rows (drop k unpaid) (drop k tabular))) ≡ closing_at factors (stated_rows unpaid tabular)

pub start : (unpaid tabular factors : List ℕ) → Summed unpaid tabular factors 0 0
start unpaid tabular factors =
    record {
      unpaid_passing = all_of.start is_amount unpaid;
      tabular_passing = all_of.start is_amount tabular;
      factors_passing = all_of.start is_factor (take (length unpaid) factors);
      size = omega arith;
      rest = omega arith;
    }

module _ (unpaid tabular factors : List ℕ) (s k : ℕ) (given : ReserveLists unpaid tabular factors) (so : Summed unpaid tabular factors s k) where
  factors_long : length (take (length unpaid) factors) ≡ length unpaid
  factors_long = omega (arith, length-take (length unpaid) factors, given.enough)

  pub end : (r : Option ℕ) → r ≡ within is_closing s → length unpaid ≤ k → r ≡ closing_in unpaid tabular factors
  unfolding closing_in
  end r er le =
      let total : s ≡ closing_at factors (stated_rows unpaid tabular) = (let t = rw (drop_of_length-le unpaid le) at so.rest in omega arith) in
      let amounts = sym (all_of.end is_amount unpaid k so.unpaid_passing le) in
      let disclosed = sym (all_of.end is_amount tabular k so.tabular_passing (omega (arith, given.same))) in
      let kept = sym (all_of.end is_factor (take (length unpaid) factors) k so.factors_passing (omega (arith, factors_long))) in
      er ∙ rw (total, amounts, disclosed, kept)

  module _ (lt : k < length unpaid) where
    inside_tabular : k < length tabular
    inside_tabular = omega (arith, given.same)

    -- the row at place k
    module _ (x : Option ℕ) (ex : x ≡ row_of (get_or unpaid k 0) (get_or tabular k 0) (get_or factors k 0)) where
      pub stop : x ≡ None → None ≡ closing_in unpaid tabular factors
      unfolding closing_in
      stop e =
          let no =
          any_no (is_amount (get_or unpaid k 0)) (is_amount (get_or tabular k 0)) (is_factor (get_or factors k 0)) (list_all is_amount unpaid) (list_all is_amount tabular) (are_factors unpaid factors)
          (λ z. sym (all_of.stop is_amount unpaid k 0 so.unpaid_passing lt z))
          (λ z. sym (all_of.stop is_amount tabular k 0 so.tabular_passing inside_tabular z))
          (λ z. sym (all_of.stop is_factor (take (length unpaid) factors) k 0 so.factors_passing (omega (arith, factors_long)) (rw (get_or-take (length unpaid) factors k 0 lt) z)))
          (row_out (get_or unpaid k 0) (get_or tabular k 0) (get_or factors k 0) (sym ex ∙ e)) in
          rw no

      module _ (v : ℕ) (ev : x ≡ Some v) (d : ℕ) (ed : d ≡ v) (small : is_amount d ≡ true) where
        all_within : is_amount (get_or unpaid k 0) && is_amount (get_or tabular k 0) && is_factor (get_or factors k 0) ≡ true
        all_within = (row_in (get_or unpaid k 0) (get_or tabular k 0) (get_or factors k 0) v (sym ex ∙ ev)).0

        on_rest : (s + d) + sum (discounted_rows factors (suc k) (stated_rows (drop (suc k) unpaid) (drop (suc k) tabular))) ≡ closing_at factors (stated_rows unpaid tabular)
        on_rest =
            let row = ed ∙ (row_in (get_or unpaid k 0) (get_or tabular k 0) (get_or factors k 0) v (sym ex ∙ ev)).1 in
            let r = rw (drop-cons unpaid k 0 lt, drop-cons tabular k 0 inside_tabular) at so.rest in
            omega (arith, row, r)

        pub fits : Fits w64 (s + d)
        fits = record { fits = omega (arith, so.size, given.few, leb-true d 10000000000 small) }

        pub on : Summed unpaid tabular factors (s + d) (k + 1)
        on =
            let t = three (is_amount (get_or unpaid k 0)) (is_amount (get_or tabular k 0)) (is_factor (get_or factors k 0)) all_within in
            record {
              unpaid_passing = all_of.on is_amount unpaid k 0 so.unpaid_passing lt t.0;
              tabular_passing = all_of.on is_amount tabular k 0 so.tabular_passing inside_tabular t.1;
              factors_passing = all_of.on is_factor (take (length unpaid) factors) k 0 so.factors_passing (omega (arith, factors_long)) (rw (get_or-take (length unpaid) factors k 0 lt) t.2);
              size = omega (arith, so.size, leb-true d 10000000000 small);
              rest = rw add-one on_rest;
            }
