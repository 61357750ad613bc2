-- `journal::column::column_of`: what its loop keeps. Assumes nothing.
use Rattle.std.proofs.Common.{◌≡◌}
use Rattle.arrayvec.specs.ArrayVec.{array_vec_len}
use Rattle.journal.specs.ColumnOf.{ColumnOf}
use Rattle.journal.proofs.column.column_of.Given as goal

abbrev pub invariant-loop-i : goal.invariant-loop-i
invariant-loop-i g l = ColumnOf (goal.F-post g l.number) l.place l.step l.i l.list.items × (array_vec_len l.list ≡ l.i)
