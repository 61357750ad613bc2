-- `has_end`: the goals that the check leaves.
use Rattle.std.proofs.Common.{rules, tests, ◌≡◌, refl, subst}
use Rattle.std.proofs.lemmas.Fn.{fold_over, slice_gives, fronts}
use Rattle.model.specs.Basics.{among}
use Rattle.line_end.proofs.Blocks.{among_more}
use Rattle.line_end.proofs.scan.has_end.Goals as goal

pub returns : goal.returns
returns c =
    subst (λ l. c.fold.result ≡ among 10 l) c.iter.ensures.rest
    (fold_over fronts (λ y. y.now) _ (λ ys found. found ≡ among 10 ys) _ (λ ys a x b f' j k. let more = among_more ys x.now in search (rules, tests))
    _ _ _ _ (slice_gives c.iter.result) refl c.fold.ensures.ran)
