-- `assemble` of lib.rt meets its contract: r ≡ sided at pieces (side_of (now side.entry)) (now castling.entry) (now ep.entry).
use mathlib.Core.Path.{ap, ◌∙◌}
use native.Mathlib.Omega.{arith}
use Prim.Native.Nat.{ℕ}
use Rattle.fen_text.specs.Read.{sided}
use Rattle.fen_reader.specs.declared.token.Sides.{Sides}
use Rattle.fen_reader.proofs.Placing.{made, no_side_lem}
use Rattle.fen_reader.proofs.assemble.Goals as goal

pub returns-in_default : goal.returns-in_default
returns-in_default c =
    let a = c.args in
    c.refused_at.ensures ∙ no_side_lem a.at a.pieces _ a.castling.now a.ep.now (omega (arith, c.in_default.ensures))

pub returns : goal.returns
returns c =
    let a = c.args in
    let side = c.in-Some.ensures in
    let white = ap (λ (r : Sides). r.white) c.rights-rights.ensures in
    let black = ap (λ (r : Sides). r.black) c.rights-rights.ensures in
    made a.at a.pieces _ c.rights-rights.result.white c.rights-rights.result.black c.en_passant-en_passant.result
    a.castling.now a.ep.now (omega (arith, side.0, side.1)) white black c.en_passant-en_passant.ensures
    ∙ ap (λ (s : ℕ). sided a.at a.pieces s a.castling.now a.ep.now) side.1
