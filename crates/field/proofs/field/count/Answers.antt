-- `field::field::count` meets its contract: the goals that the check leaves. Assumes nothing.
use Rattle.std.proofs.Common.{rules, tests, ℕ, ap, ◌∙◌, ◌+◌}
use Rattle.std.proofs.lemmas.Iterator.{YieldsList-from_slice}
use Rattle.std.proofs.lemmas.Iterator.Consumers.{YieldsList-from_filter, count_from_yields_List}
use Rattle.field.proofs.Scan.{is_tab}
use Rattle.field.proofs.Fields.{tabs}
use Rattle.field.proofs.field.count.Goals as goal

pub returns : goal.returns
returns c =
    ap (λ (n : ℕ). n + 1) (count_from_yields_List c.filter.result c.count.result c.count.ensures.ran (YieldsList-from_filter _ is_tab (YieldsList-from_slice c.args.line.now cc) c.filter.ensures.closure (λ x b q k. search (rules, tests)))) ∙ tabs c.args.line.now
