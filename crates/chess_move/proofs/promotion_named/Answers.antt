-- `promotion_named` of lib.rt meets its contract: the promotion that the byte names, where it names one.
use borrow.Author.Tests.{ne_eqb}
use mathlib.Core.Path.{◌≡◌, sym}
use native.Mathlib.Omega.{arith}
use Rattle.chess_move.specs.Coordinate.{promotion_named}
use Rattle.chess_move.proofs.promotion_named.Goals as goal

pub returns-in-113 : goal.returns-in-113
unfolding promotion_named
returns-in-113 c = let e : promotion_named c.args.b ≡ 5 = simp c.in-113.is in (omega arith, sym e)

pub returns-in-114 : goal.returns-in-114
unfolding promotion_named
returns-in-114 c = let e : promotion_named c.args.b ≡ 4 = simp c.in-114.is in (omega arith, sym e)

pub returns-in-110 : goal.returns-in-110
unfolding promotion_named
returns-in-110 c = let e : promotion_named c.args.b ≡ 2 = simp c.in-110.is in (omega arith, sym e)

pub returns-in-98 : goal.returns-in-98
unfolding promotion_named
returns-in-98 c = let e : promotion_named c.args.b ≡ 3 = simp c.in-98.is in (omega arith, sym e)

pub returns-in_default : goal.returns-in_default
unfolding promotion_named
returns-in_default c =
    let rest = c.in_default.in_default-own.rest in
    let e : promotion_named c.args.b ≡ 0 = simp (ne_eqb _ _ rest.0.0.0.1, ne_eqb _ _ rest.0.0.1, ne_eqb _ _ rest.0.1, ne_eqb _ _ rest.1) in
    λ h. omega (arith, h)
