-- `field::field::first_tab` meets its contract: the goals that the check leaves. Assumes nothing.
use Rattle.std.proofs.Common.{rules, tests}
use Rattle.std.proofs.lemmas.Iterator.{YieldsList-from_slice}
use Rattle.std.proofs.lemmas.Iterator.Search.{position_from_yields_List}
use Rattle.field.proofs.Scan.{is_tab}
use Rattle.field.proofs.field.first_tab.Goals as goal

pub returns : goal.returns
returns c =
    position_from_yields_List is_tab _ _ _ c.position.ensures.ran (YieldsList-from_slice c.args.rest.now cc) (λ x b q k. search (rules, tests))
