use mathlib.Core.Path.{sym, ap, ◌∙◌}
use mathlib.Core.Bool.{not, ◌||◌}
use Prim.Native.Nat.{ℕ, ◌+◌}
use lib.Bits.{bit_or}
use lib.Dec.{eqb}
use lib.ListN.{drop, get_or}
use Rattle.answer.specs.Numbers.{among}
use Rattle.fen_reader.proofs.Blocks.{found_turn, found_end}
use Rattle.fen_reader.proofs.Seen.{one_of}
use Rattle.fen_reader.proofs.lines.has.Goals as goal

pub loop-x-preserved : goal.loop-x-preserved
loop-x-preserved c =
    let at-loop = c.loop-x in
    let a = c.args in
    let s = a.block.now in
    let i = at-loop.x-index in
    ap (λ (x : ℕ). not (eqb (bit_or at-loop.hit x) 0) || among a.b (drop (i + 1) s)) (c.from-hit.ensures ∙ one_of (eqb (get_or s i 0) a.b))
    ∙ found_turn a.b s at-loop.hit i c.loop-x-test.true
    ∙ at-loop.invariant

pub returns : goal.returns
returns c =
    let at-loop = c.loop-x in
    sym (found_end c.args.b c.args.block.now at-loop.hit at-loop.x-index c.loop-x-test.false) ∙ at-loop.invariant
