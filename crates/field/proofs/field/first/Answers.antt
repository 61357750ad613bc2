-- `field::field::first` meets its contract: the goals that the check leaves. Assumes nothing.
use Rattle.field.proofs.Scan.{first_is, first_whole}
use Rattle.field.proofs.field.first.Goals as goal

pub returns-in-Some : goal.returns-in-Some
returns-in-Some c = first_is c.args.rest.now c.in-Some.tab c.in-Some.ensures

pub returns-in-None : goal.returns-in-None
returns-in-None c = first_whole c.args.rest.now c.in-None.ensures
