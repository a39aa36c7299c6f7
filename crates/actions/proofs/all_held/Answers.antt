-- `all_held` of lib.rt meets its contract: r ≡ actions_held (now acts.entry) n.
use mathlib.Core.Bool.{true, false}
use mathlib.Core.Path.{refl}
use native.Mathlib.Omega.{arith}
use borrow.Author.Tests.{tests}
use Rattle.std.proofs.Common.{rules}
use Rattle.std.proofs.lemmas.Iterator.{cases_from_all, YieldsList-from_range}
use Rattle.actions.proofs.Held.{IsHeld, held_found}
use Rattle.actions.proofs.all_held.Goals as goal

pub returns : goal.returns
returns c =
    let acts = c.args.acts.now in
    held_found acts c.args.n c.all.result
    (cases_from_all _ _ _ (IsHeld acts true) (IsHeld acts false) c.all.ensures.ran (YieldsList-from_range 0 c.args.n c.args.n refl (omega arith))
    (λ x q k. search (rules, tests)) (λ x q k. search (rules, tests)))
