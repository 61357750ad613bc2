-- `empty` meets its contract: the goals that the check leaves. Assumes nothing.
use mathlib.Core.Path.{◌≡◌, refl, ap, ◌∙◌}
use Prim.Native.Nat.{ℕ}
use lib.ListN.{length, replicate}
use Rattle.std.proofs.Common.{rules}
use Rattle.state.specs.Store.{size}
use Rattle.state.proofs.book.empty.Goals as goal

pub returns : goal.returns
returns c =
    let long : length c.args.store.now ≡ size = search rules in
    (refl, c.fill.ensures.after (λ y e. e) ∙ ap (λ n. replicate {A = ℕ} n 0) long)
