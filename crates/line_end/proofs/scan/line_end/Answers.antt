-- `line_end::scan::line_end` meets its contract: the goals that the check leaves. Assumes nothing.
use Prim.Native.Nat.{◌+◌, ◌≤◌}
use lib.ListN.{length}
use native.Mathlib.Omega.{arith}
use Rattle.line_end.proofs.Passing.{past_end, block_inside, end_in_block, rest_inside, end_in_rest}
use Rattle.line_end.proofs.scan.line_end.Goals as goal

pub returns-then-start-input : goal.returns-then-start-input
returns-then-start-input c = search past_end

pub overflow_add-result : goal.overflow_add-result
overflow_add-result c =
    let input = c.args.input.now in
    let at = c.skip_blocks-at.result in
    let inside : at + c.first_end.result ≤ length input = search block_inside in
    omega arith

pub returns-then-input-at-ge-BLOCK : goal.returns-then-input-at-ge-BLOCK
returns-then-input-at-ge-BLOCK c = search end_in_block

pub overflow_add-result-2 : goal.overflow_add-result-2
overflow_add-result-2 c =
    let input = c.args.input.now in
    let at = c.skip_blocks-at.result in
    let inside : at + c.first_end-2.result ≤ length input = search rest_inside in
    omega arith

pub returns : goal.returns
returns c = search end_in_rest
