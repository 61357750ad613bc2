-- `payments::payment::has_incurred` meets its contract: the goals that the check leaves. Assumes nothing.
use borrow.Author.Rules.{rules}
use mathlib.Core.Path.{◌∙◌}
use Prim.Native.Nat.{ℕ}
use Rattle.std.proofs.lemmas.Iterator.{YieldsList-from_slice, YieldsList-from_zip}
use Rattle.std.proofs.lemmas.Iterator.Search.{all_from_yields_List}
use Rattle.model.specs.Pattern.{age}
use Rattle.model.specs.Question.{is_incurred}
use Rattle.payments.proofs.Ages.{have_incurred}
use Rattle.payments.proofs.payment.has_incurred.Goals as goal

pub returns : goal.returns
returns c =
    all_from_yields_List (λ (p : ℕ × ℕ). is_incurred (age p.0 p.1)) c.all.new.self _ _ c.all.ensures.ran
    (YieldsList-from_zip (YieldsList-from_slice c.args.paid.now cc) (YieldsList-from_slice c.args.incurred.now cc))
    (λ x b q k. search rules)
    ∙ have_incurred c.args.paid.now c.args.incurred.now
