-- `journal::column::column` meets its contract: the goals that the check leaves. Assumes nothing.
use borrow.Author.Rules.{rules}
use Rattle.record.specs.Column.{size_at}
use Rattle.journal.proofs.Columns.{each_of}
use Rattle.journal.proofs.column.column.Goals as goal

pub returns : goal.returns
returns c = each_of _ (size_at c.args.sizes.now) (λ at x gives. search rules) _ _ _ _ c.column_of.ensures
