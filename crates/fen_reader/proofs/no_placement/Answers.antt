-- `no_placement` of lib.rt meets its contract: r ≡ read_fen (now text.entry).
use mathlib.Core.Path.{sym, ap, ◌∙◌}
use native.Mathlib.Omega.{arith}
use Prim.Native.Nat.{◌≤◌, ◌<◌}
use lib.ListN.{length}
use Rattle.answer.specs.Answer.{bad_placement}
use Rattle.fen_text.specs.Token.{tokens}
use Rattle.fen_text.specs.Placement.{first_bad}
use Rattle.fen_text.specs.Read.{refused_at}
use Rattle.fen_text.proofs.Faults.{few_read}
use Rattle.fen_reader.proofs.Placing.{bad_first}
use Rattle.fen_reader.proofs.no_placement.Goals as goal

pub returns-then-spaces-lt3 : goal.returns-then-spaces-lt3
returns-then-spaces-lt3 c =
    let s = c.args.text.now in
    let few : length (tokens s) < 4 = omega (arith, c.if-spaces-lt3.true, c.spaces.ensures) in
    c.refused_at.ensures ∙ sym (few_read s few)

pub returns : goal.returns
returns c =
    let a = c.args in
    let s = a.text.now in
    let enough : 4 ≤ length (tokens s) = omega (arith, c.if-spaces-lt3.false, c.spaces.ensures) in
    c.refused_at-2.ensures
    ∙ ap (refused_at bad_placement) (c.first_bad.ensures ∙ ap first_bad c.front.ensures)
    ∙ sym (bad_first s a.end c.requires enough)
