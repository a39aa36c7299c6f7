use native.Mathlib.Omega.{arith}
use Rattle.fen_text.specs.Lines.{line_feed}
use Rattle.fen_reader.proofs.Blocks.{end_within}
use Rattle.fen_reader.proofs.Paging.{bounds, turned, done}
use Rattle.fen_reader.proofs.page.read_lines.Goals as goal

pub slice_bounds-read_fen-end : goal.slice_bounds-read_fen-end
slice_bounds-read_fen-end c =
    let a = c.args in
    let at-loop = c.loop-at in
    omega (arith, c.line_end-end.ensures, end_within line_feed a.text.now at-loop.at at-loop.invariant.within)

pub put_record-requires : goal.put_record-requires
put_record-requires c =
    let at_pre = c.requires in
    let at-loop = c.loop-at in
    let at-loop-test = c.loop-at-test in
    let at-line-end = c.line_end-end in
    let at-read-fen = c.read_fen-fen in
    (bounds _ _ _ _ _ at-loop.at at-loop.line at-line-end.result at-read-fen.result at_pre.text_in_bounds at_pre.text_in_bounds_2 at-loop.invariant
    at-loop-test.true
    at-line-end.ensures at-read-fen.ensures).0

pub put_told-requires : goal.put_told-requires
put_told-requires c =
    let at_pre = c.requires in
    let at-loop = c.loop-at in
    let at-loop-test = c.loop-at-test in
    let at-line-end = c.line_end-end in
    let at-read-fen = c.read_fen-fen in
    (bounds _ _ _ _ _ at-loop.at at-loop.line at-line-end.result at-read-fen.result at_pre.text_in_bounds at_pre.text_in_bounds_2 at-loop.invariant
    at-loop-test.true
    at-line-end.ensures at-read-fen.ensures).1

pub loop-at-preserved : goal.loop-at-preserved
loop-at-preserved c =
    let at_pre = c.requires in
    let at-loop = c.loop-at in
    let at-loop-test = c.loop-at-test in
    let at-line-end = c.line_end-end in
    let at-read-fen = c.read_fen-fen in
    let at-put-record = c.put_record in
    let at-put-told = c.put_told in
    turned _ _ _ _ _ at-loop.at at-loop.line at-line-end.result at-read-fen.result at_pre.text_in_bounds at_pre.text_in_bounds_2 at-loop.invariant
    at-loop-test.true
    at-line-end.ensures at-read-fen.ensures c.past-at.result _ _ at-put-record.ensures at-put-told.ensures c.past-at.ensures

pub returns : goal.returns
returns c = let whole = done _ _ _ _ _ c.loop-at.at c.loop-at.line c.loop-at-test.false c.loop-at.invariant in record { records = whole.0; told = whole.1 }
