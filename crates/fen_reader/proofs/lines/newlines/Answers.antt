use borrow.Author.Rules.{rules}
use mathlib.Core.Path.{◌≡◌, sym, ap, ◌∙◌}
use Prim.Native.Nat.{ℕ, ◌*◌, ◌/◌, ◌<◌}
use native.Mathlib.Omega.{arith}
use mathlib.Core.List.{List}
use lib.ListN.{length, get_or, drop}
use Rattle.fen_text.proofs.Lines.{ended_at_most}
use Rattle.fen_reader.proofs.Blocks.{block_at, counted_turn, counted_end}
use Rattle.fen_reader.proofs.lines.newlines.Goals as goal

pub overflow_add-n : goal.overflow_add-n
overflow_add-n c =
    let s = c.args.text.now in
    let i = c.loop-block.block-index in
    let h : i < length s / 128 = omega (arith, c.loop-block-test.true, c.as_chunks.ensures.front_len) in
    let block = ap (λ (l : List (List ℕ)). get_or l i _) c.as_chunks.ensures.front ∙ block_at 128 (length s / 128) i s _ h in
    let turn = counted_turn s _ i c.loop-block.n c.newlines_in.result c.from-n.result block c.newlines_in.ensures c.from-n.ensures c.loop-block.invariant in
    let long : length s < 18446744073709551616 = search rules in
    omega (arith, turn, ended_at_most s)

pub loop-block-preserved : goal.loop-block-preserved
loop-block-preserved c =
    let s = c.args.text.now in
    let i = c.loop-block.block-index in
    let h : i < length s / 128 = omega (arith, c.loop-block-test.true, c.as_chunks.ensures.front_len) in
    let block = ap (λ (l : List (List ℕ)). get_or l i _) c.as_chunks.ensures.front ∙ block_at 128 (length s / 128) i s _ h in
    counted_turn s _ i c.loop-block.n c.newlines_in.result c.from-n.result block c.newlines_in.ensures c.from-n.ensures c.loop-block.invariant

pub overflow_add-result : goal.overflow_add-result
overflow_add-result c =
    let s = c.args.text.now in
    let blocks = c.as_chunks.ensures.front_len in
    let i : c.loop-block.block-index ≡ length s / 128 = omega (arith, c.loop-block-test.false, blocks, c.loop-block.auto.block-index-end) in
    let left = c.as_chunks.ensures.back ∙ ap (λ (k : ℕ). drop (k * 128) s) (sym i) in
    let end = counted_end s _ c.loop-block.block-index c.loop-block.n c.newlines_in-2.result c.from.result left c.newlines_in-2.ensures c.from.ensures
    c.loop-block.invariant in
    let long : length s < 18446744073709551616 = search rules in
    omega (arith, end, ended_at_most s)
