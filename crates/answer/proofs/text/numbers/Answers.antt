-- `numbers`: the goals that the check leaves.
use Rattle.std.proofs.Common.{rules, List, ℕ, ◌∷◌, ◌++◌, ap, ◌∙◌, refl}
use Rattle.answer.proofs.Listing.{list_start, list_on, line_end}
use Rattle.answer.proofs.Texts.{decimal_is}
use Rattle.answer.proofs.text.numbers.Goals as goal

pub loop-number-init : goal.loop-number-init
loop-number-init c = search (list_start, rules)

pub loop-number-preserved : goal.loop-number-preserved
loop-number-preserved c =
    list_on _ _ _ _ c.loop-number.invariant (search rules) _ refl _ (c.put_number.ensures.bytes ∙ ap (λ (digits : List ℕ). c.loop-number.text.items ++ (9 ∷ digits)) (decimal_is _ (search rules))) c.put_number.ensures.short

pub returns : goal.returns
returns c = search (line_end, rules)
