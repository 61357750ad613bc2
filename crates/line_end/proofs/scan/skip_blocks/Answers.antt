-- `line_end::scan::skip_blocks` meets its contract: the goals that the check leaves. Assumes nothing.
use Rattle.std.proofs.Common.{rules, tests}
use mathlib.Core.Path.{◌≡◌, ◌∙◌}
use lib.ListN.{length, take, drop, length-drop}
use lib.Seq.{take_all}
use Prim.Native.Nat.{◌-◌, ◌/◌}
use native.Mathlib.Omega.{arith}
use Rattle.std.specs.Simd.{first_chunks}
use Rattle.std.proofs.lemmas.Iterator.{YieldsList-from_slice}
use Rattle.std.proofs.lemmas.Iterator.Consumers.{YieldsList-at, count_from_yields_List}
use Rattle.std.proofs.lemmas.Iterator.Search.{YieldsList-from_take_while}
use Rattle.std.proofs.lemmas.List.Folds.{length-prefix_len}
use Rattle.line_end.proofs.Passing.{unended, ends_in}
use Rattle.line_end.proofs.scan.skip_blocks.Goals as goal

pub returns : goal.returns
returns c =
    let input = c.args.input.now in
    let start = c.args.start in
    let blocks = c.as_chunks.result.0.now in
    let whole : take (length input - start) (drop start input) ≡ drop start input = take_all _ _ (rw length-drop (omega arith)) in
    let front : blocks ≡ first_chunks 16 (length (drop start input) / 16) (drop start input) = search (rules, tests, whole) in
    let counted = count_from_yields_List c.take_while.result c.count-passed.result c.count-passed.ensures.ran (YieldsList-from_take_while _ unended (YieldsList-at c.take_while.ensures.source (YieldsList-from_slice blocks cc)) c.take_while.ensures.closure c.take_while.ensures.done (λ x b q k. search (rules, tests))) in
    rw (counted ∙ length-prefix_len unended blocks) (ends_in input start blocks c.requires front)
