-- `side` of token.rt meets its contract: the side that the token says, where it says one.
use borrow.Author.Tests.{ne_eqb}
use mathlib.Core.Path.{◌≡◌, sym, ap, ◌∙◌}
use mathlib.Core.Logic.{⊎_elim, inl, inr}
use native.Mathlib.Omega.{arith}
use lib.ListN.{get_or}
use Rattle.fen_text.specs.Read.{side_byte, side_of}
use Rattle.fen_text.proofs.Tokens.{side_other, side_one}
use Rattle.fen_reader.proofs.token.side.Goals as goal

pub returns-then-token-ne1 : goal.returns-then-token-ne1
returns-then-token-ne1 c = λ h. omega (arith, h, side_other c.args.token.now c.if-token-ne1.true)

pub returns-in-119 : goal.returns-in-119
returns-in-119 c =
    let s = c.args.token.now in
    let one = side_one s c.if-token-ne1.false in
    let says : side_of s ≡ 0 = ⊎_elim (λ e. one ∙ ap side_byte e) (λ e. one ∙ ap side_byte e) c.in-119.is in
    (omega arith, sym says)

pub returns-in-98 : goal.returns-in-98
returns-in-98 c =
    let s = c.args.token.now in
    let one = side_one s c.if-token-ne1.false in
    let says : side_of s ≡ 1 = ⊎_elim (λ e. one ∙ ap side_byte e) (λ e. one ∙ ap side_byte e) c.in-98.is in
    (omega arith, sym says)

pub returns-in_default : goal.returns-in_default
returns-in_default c =
    let s = c.args.token.now in
    let rest = c.in_default.in_default-own.rest in
    let says : side_of s ≡ 2 =
    side_one s c.if-token-ne1.false
    ∙ simp (
      ne_eqb (get_or s 0 0) 119 (λ e. rest.0.1 (inr e)),
      ne_eqb (get_or s 0 0) 87 (λ e. rest.0.1 (inl e)),
      ne_eqb (get_or s 0 0) 98 (λ e. rest.1 (inr e)),
      ne_eqb (get_or s 0 0) 66 (λ e. rest.1 (inl e)),
    ) in
    λ h. omega (arith, h)
