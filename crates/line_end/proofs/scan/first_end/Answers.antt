-- `line_end::scan::first_end` meets its contract: the goals that the check leaves. Assumes nothing.
use native.Mathlib.Omega.{arith}
use Rattle.line_end.proofs.First.{search_start, search_found, search_on}
use Rattle.line_end.proofs.scan.first_end.Goals as goal

pub loop-i-init : goal.loop-i-init
loop-i-init c = search_start c.args.bytes.now

pub loop-i-preserved-then-bytes-i-eq10 : goal.loop-i-preserved-then-bytes-i-eq10
loop-i-preserved-then-bytes-i-eq10 c = search_found _ _ _ c.loop-i.invariant (omega arith) (omega arith) c.if-bytes-i-eq10.true

pub loop-i-preserved : goal.loop-i-preserved
loop-i-preserved c = search_on _ _ _ c.loop-i.invariant (omega arith) (omega arith) c.if-bytes-i-eq10.false
