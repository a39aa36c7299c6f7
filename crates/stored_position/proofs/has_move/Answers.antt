use mathlib.Core.Path.{sym, ap, ◌∙◌}
use mathlib.Core.Bool.{Bool, ◌||◌}
use Prim.Native.Nat.{ℕ, ◌+◌}
use lib.Dec.{eqb}
use Rattle.answer.specs.Numbers.{among}
use Rattle.stored_position.proofs.Listing.{moves_left}
use Rattle.stored_position.proofs.Blocks.{look_turn, look_end}
use Rattle.stored_position.proofs.has_move.Goals as goal

pub loop-i-preserved : goal.loop-i-preserved
loop-i-preserved c =
    let a = c.args in
    let s = a.s.now in
    let i = c.loop-i.i in
    let found = c.loop-i.found in
    let left = among a.m (moves_left s a.entries (i + 1)) in
    ap (λ (t : Bool). t || left) (c.either-found.ensures ∙ ap (λ (x : ℕ). found || eqb x a.m) c.entry.ensures)
    ∙ look_turn s a.m a.entries i found c.loop-i-test.true
    ∙ c.loop-i.invariant

pub returns : goal.returns
returns c =
    sym (look_end c.args.s.now c.args.m c.args.entries c.loop-i.i c.loop-i.found c.loop-i-test.false) ∙ c.loop-i.invariant
