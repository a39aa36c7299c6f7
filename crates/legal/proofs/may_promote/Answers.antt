-- `may_promote` of lib.rt meets its contract: r ≡ may_promote (now squares.entry) side.
use native.Mathlib.Omega.{arith}
use mathlib.Core.Path.{◌≡◌, ap, ap₂, ◌∙◌}
use Prim.Native.Nat.{ℕ, ◌+◌, ◌-◌}
use lib.Dec.{eqb}
use lib.ListN.{take, drop}
use Rattle.std.specs.List.{list_any}
use Rattle.legal.specs.CodeList.{pawn_from, may_promote}
use Rattle.legal.proofs.Promoting.{pawns_any, seventh_under}
use Rattle.legal.proofs.may_promote.Goals as goal

pub returns : goal.returns
unfolding may_promote
returns c =
    let l = c.args.squares.now in
    let first = c.pick-first.result in
    let man = c.man.result in
    let eight : first + 8 - first ≡ 8 = omega arith in
    let z = seventh_under c.args.side.number in
    c.contains.ensures.value
    ∙ ap (λ (n : ℕ). list_any (λ (y : ℕ). eqb y man) (take n (drop first l))) eight
    ∙ pawns_any l man first 8 (omega (arith, c.pick-first.ensures, z))
    ∙ ap₂ (λ (x y : ℕ). pawn_from l x y 8) c.man.ensures c.pick-first.ensures
