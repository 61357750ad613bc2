-- The loop of `numbers`: the numbers before this one are put.
use Rattle.answer.proofs.Listing.{Listing}
use Rattle.answer.proofs.text.numbers.Given as goal

abbrev pub invariant-loop-number : goal.invariant-loop-number
invariant-loop-number l = Listing l.list l.word l.text.items l.number-index
