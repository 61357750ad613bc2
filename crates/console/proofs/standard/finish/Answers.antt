-- `finish`: what is handed to the two writes.
use Rattle.std.proofs.Common.{rules}
use Rattle.console.proofs.Taking.{last_inside, last_put, done_inside, done_put}
use Rattle.console.proofs.Through.{both_written}
use Rattle.console.proofs.standard.finish.Goals as goal

pub shared_ref_as_front-write_text : goal.shared_ref_as_front-write_text
shared_ref_as_front-write_text g c = search (last_inside, rules)

pub write_text-requires : goal.write_text-requires
write_text-requires g c = search last_put

pub shared_ref_as_front-write_text-2 : goal.shared_ref_as_front-write_text-2
shared_ref_as_front-write_text-2 g c = search (done_inside, rules)

pub write_text-requires-2 : goal.write_text-requires-2
write_text-requires-2 g c = search done_put

pub returns : goal.returns
returns g c =
    both_written _ _ _ _ _ _ _ _ (last_put _ _ _ _ _ _ c.close-last.ensures) (done_put _ _ _ _ _ _ c.close-last.ensures _ _ _ c.done-put.ensures) c.in_ok-write_text.ensures c.write_text-2.ensures
