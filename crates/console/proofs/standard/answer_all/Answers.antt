-- `answer_all`: the goals that the check leaves.
use Rattle.std.proofs.KnownBytes.{Consumes-nil}
use Rattle.console.proofs.Through.{answering_start, answering_on, answering_end, told_written}
use Rattle.console.proofs.standard.answer_all.Goals as goal
use Rattle.console.proofs.standard.answer_all.Goals.{else-loop-test, then-loop-test+in-Ok-eq0, then-loop-test+in-Err}

pub loop-init : goal.loop-init
loop-init g c = search answering_start

pub loop-preserved : goal.loop-preserved
loop-preserved g c =
    (answering_on _ _ _ _ _ _ c.loop.invariant.0 _ _ _ _ _ c.in-Ok-take_piece.ensures.takes c.in-Ok.ensures.bytes c.in-Ok-take_piece.ensures.written, c.loop.invariant.1)

pub returns-clause-written : goal.returns-clause-written
returns-clause-written g c = λ written.
    let all = told_written _ _ _ c.is_ok-written.ensures.value written c.finish.ensures in
    elim c.loop-test.branch [
      | else-loop-test w ↦ rw w.input-is (answering_end _ _ _ _ _ _ c.loop.invariant.0 _ _ (Consumes-nil _) all)
      | then-loop-test+in-Ok-eq0 w ↦ rw w.input-is (answering_end _ _ _ _ _ _ c.loop.invariant.0 _ _ (rw w.in-Ok-eq0.field-0-test at w.in-Ok-eq0.ensures.bytes) all)
      | then-loop-test+in-Err w ↦ rw w.input-is (answering_end _ _ _ _ _ _ c.loop.invariant.0 _ _ w.in-Err.ensures.failed all)
    ]
