-- `closings::rows::have_patterns` meets its contract: the goals that the check leaves. Assumes nothing.
use borrow.Author.Rules.{rules}
use mathlib.Core.Bool.{not}
use mathlib.Core.Path.{sym, ◌∙◌}
use Prim.Native.Nat.{ℕ}
use lib.Dec.{ltb}
use Rattle.std.proofs.lemmas.Iterator.{YieldsList-from_slice, YieldsList-from_zip, YieldsList-from_take}
use Rattle.std.proofs.lemmas.Iterator.Adapters.{YieldsList-from_skip}
use Rattle.std.proofs.lemmas.Iterator.Search.{all_from_yields_List}
use Rattle.model.specs.Row.{stated, gross}
use Rattle.closings.proofs.RowLoops.{have_patterns_of}
use Rattle.closings.proofs.rows.have_patterns.Goals as goal

pub returns : goal.returns
returns c =
    all_from_yields_List (λ (p : ℕ × ℕ). not (ltb 0 (gross (stated p.0 p.1)))) c.all.new.self _ _ c.all.ensures.ran
    (YieldsList-from_skip c.args.patterns.count (YieldsList-from_take c.ages.result (YieldsList-from_zip (YieldsList-from_slice c.args.unpaid.now cc) (YieldsList-from_slice c.args.tabular.now cc)) cc) cc)
    (λ x b q k. search rules)
    ∙ rw (← c.ages.ensures) (sym (have_patterns_of _ _ _ _))
