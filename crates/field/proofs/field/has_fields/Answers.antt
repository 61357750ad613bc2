-- `field::field::has_fields` meets its contract: the goals that the check leaves. Assumes nothing.
use Rattle.std.proofs.Common.{rules, tests}
use Rattle.std.proofs.lemmas.Iterator.{YieldsList-from_slice, YieldsList-from_take}
use Rattle.std.proofs.lemmas.Iterator.Consumers.{YieldsList-at, YieldsList-from_filter, count_from_yields_List}
use Rattle.field.proofs.Scan.{is_tab}
use Rattle.field.proofs.Fields.{as_many}
use Rattle.field.proofs.field.has_fields.Goals as goal

pub returns : goal.returns
returns c =
    as_many c.args.line.now c.args.expected c.count-tabs.result (count_from_yields_List c.take.result c.count-tabs.result c.count-tabs.ensures.ran (YieldsList-from_take c.args.expected (YieldsList-at c.take.ensures.source (YieldsList-from_filter _ is_tab (YieldsList-from_slice c.args.line.now cc) c.filter.ensures.closure (λ x b q k. search (rules, tests)))) cc))
