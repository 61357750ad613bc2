-- `record::gather::gather` meets its contract: the goals that the check leaves. Assumes nothing.
use native.Mathlib.Omega.{arith}
use Rattle.reader.proofs.Places.{ends}
use Rattle.record.proofs.Gathers.{gather_ill, gather_none, gather_on, gather_end}
use Rattle.record.proofs.gather.gather.Goals as goal

pub returns-in_default : goal.returns-in_default
returns-in_default c = gather_none _ _ _ _ _ _ c.requires c.in_default.ensures

pub returns-in_default-read_number : goal.returns-in_default-read_number
returns-in_default-read_number c = gather_ill _ _ _ _ _ _ _ _ _ _ c.loop-k.invariant (omega arith) _ c.allows_minus.ensures c.in_default-read_number.ensures

pub overflow_add-at : goal.overflow_add-at
overflow_add-at c = omega (arith, c.well_formed, ends c.args.line.now c.loop-k.at c.allows_minus.result c.in-Some-read_number.number c.in-Some-read_number.ensures)

pub overflow_add-at-in-loop-k : goal.overflow_add-at-in-loop-k
overflow_add-at-in-loop-k c = omega (arith, c.well_formed, ends c.args.line.now c.loop-k.at c.allows_minus.result c.in-Some-read_number.number c.in-Some-read_number.ensures)

pub loop-k-preserved : goal.loop-k-preserved
loop-k-preserved c = gather_on _ _ _ _ _ _ _ _ _ _ c.loop-k.invariant (omega arith) _ c.allows_minus.ensures c.in-Some-read_number.number c.in-Some-read_number.ensures

pub returns : goal.returns
returns c = search gather_end
