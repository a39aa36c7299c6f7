-- `rights_after` of lib.rt meets its contract: r ≡ rights_after color rights source dest.
use mathlib.Core.Path.{ap, ◌∙◌}
use Prim.Native.Nat.{ℕ}
use Rattle.move_rules.specs.After.{rights_after, rights_without}
use Rattle.board_after.proofs.rights_after.Goals as goal

pub returns : goal.returns
unfolding rights_after
returns c =
    let a = c.args in
    c.rights_without-2.ensures ∙ ap (λ (x : ℕ). rights_without a.color x a.way.dest) c.rights_without.ensures
