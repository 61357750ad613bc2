-- `journal::apply::apply_pattern` meets its contract: the goals that the check leaves. Assumes nothing.
use borrow.Author.Rules.{rules}
use Rattle.journal.proofs.Columns.{ages_few}
use Rattle.journal.proofs.apply.apply_pattern.Goals as goal

pub column-paid-requires : goal.column-paid-requires
column-paid-requires c = search (ages_few, rules)

pub column-incurred-requires : goal.column-incurred-requires
column-incurred-requires c = search (ages_few, rules)
