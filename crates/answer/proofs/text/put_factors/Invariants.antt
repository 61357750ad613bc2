-- The loop of `put_factors`: the factors of the ages before this one are put.
use Rattle.answer.proofs.Listing.{Listing}
use Rattle.answer.proofs.Factors.{factors}
use Rattle.answer.proofs.text.put_factors.Given as goal

abbrev pub invariant-loop-place : goal.invariant-loop-place
invariant-loop-place l = Listing (factors l.store l.letter l.year) l.initial.out.items l.out.items l.place
