-- `take_part`: the goals that the check leaves.
use Rattle.std.proofs.Common.{rules}
use Rattle.console.proofs.Taking.{part_exact, part_inside, part_put, takes_part, part_failed, told_failed}
use Rattle.console.proofs.standard.take_part.Goals as goal

pub slice_bounds-asked-end : goal.slice_bounds-asked-end
slice_bounds-asked-end g c = search part_exact

pub shared_ref_as_front-write_text : goal.shared_ref_as_front-write_text
shared_ref_as_front-write_text g c = search (part_inside, rules)

pub write_text-requires : goal.write_text-requires
write_text-requires g c = search part_put

pub returns-clause-takes : goal.returns-clause-takes
returns-clause-takes g c = search (takes_part, rules)

pub returns-clause-written : goal.returns-clause-written
returns-clause-written g c = rw (part_put _ _ _ _ _ _ _ c.feed-fed.ensures) at c.in_ok-write_text.ensures

pub returns-in_err-write_text-clause-failed : goal.returns-in_err-write_text-clause-failed
returns-in_err-write_text-clause-failed g c = told_failed _ _ (part_failed _ _ _ _ _ _ _ c.feed-fed.ensures (search rules))
