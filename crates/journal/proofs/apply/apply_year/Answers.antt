-- `journal::apply::apply_year` meets its contract: the goals that the check leaves. Assumes nothing.
use native.Mathlib.Omega.{arith}
use borrow.Author.Rules.{rules}
use Rattle.model.proofs.Ages.{ages_small}
use Rattle.journal.proofs.Columns.{rows_few, rows_low}
use Rattle.journal.proofs.apply.apply_year.Goals as goal

pub overflow_add-n : goal.overflow_add-n
overflow_add-n c = omega (arith, ages_small c.args.letter)

pub payments-paid-requires : goal.payments-paid-requires
payments-paid-requires c = search (rows_few, rows_low)

pub column-unpaid-requires : goal.column-unpaid-requires
column-unpaid-requires c = search (rows_few, rules)

pub column-tabular-requires : goal.column-tabular-requires
column-tabular-requires c = search (rows_few, rules)
