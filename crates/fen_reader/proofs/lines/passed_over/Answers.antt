use mathlib.Core.Path.{sym, ap, ◌∙◌}
use mathlib.Core.List.{List}
use Prim.Native.Nat.{ℕ, ◌/◌, ◌<◌}
use native.Mathlib.Omega.{arith}
use lib.ListN.{length, get_or}
use Rattle.fen_reader.proofs.Blocks.{block_at, passed_over_lem}
use Rattle.fen_reader.proofs.lines.passed_over.Goals as goal

pub loop-k-preserved : goal.loop-k-preserved
loop-k-preserved c =
    let s = c.args.text.now in
    let k = c.loop-k.k in
    let h : k < length s / 16 = omega (arith, c.loop-k-test.true, c.as_chunks.ensures.front_len) in
    let block = ap (λ (l : List (List ℕ)). get_or l k _) c.as_chunks.ensures.front ∙ block_at 16 (length s / 16) k s _ h in
    passed_over_lem c.args.b s _ k (omega arith) block (sym c.has.ensures ∙ c.if-has.false) c.loop-k.invariant
