-- The loop of `answer_all`: some input led here, and what it is answered was written; no read has ended the input yet.
use Rattle.std.proofs.Common.{◌≡◌, false}
use Rattle.console.proofs.Through.{Answering}
use Rattle.console.proofs.standard.answer_all.Given as goal

abbrev pub invariant-loop : goal.invariant-loop
invariant-loop g l =
    Answering (g.R.Read.remaining l.fn.input) (g.R.Read.remaining l.input) (g.W.Write.contents l.fn.output) (g.W.Write.contents l.output) l.so_far l.store × (l.read ≡ false)
