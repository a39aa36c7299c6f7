-- `read_text_in` of text.rt meets its contract: r ≡ formOf standard .read (now s.entry).
use Rattle.san_reader.proofs.Fronts.{reads_king, reads_queen, reads_piece}
use mathlib.Core.Path.{◌∙◌, sym}
use Rattle.san_reader.proofs.text.read_text_in.Goals as goal

pub returns-then-is_castling : goal.returns-then-is_castling
returns-then-is_castling c =
    let a = c.args in
    let at-is-king-side = c.is_castling in
    reads_king a.standard a.s.now (sym at-is-king-side.ensures ∙ c.if-is_castling.true)

pub returns-then-is_castling-2 : goal.returns-then-is_castling-2
returns-then-is_castling-2 c =
    let a = c.args in
    let at-is-king-side = c.is_castling in
    let at-if1 = c.if-is_castling in
    let at-is-queen-side = c.is_castling-2 in
    reads_queen a.standard a.s.now (sym at-is-king-side.ensures ∙ at-if1.false) (sym at-is-queen-side.ensures ∙ c.if-is_castling-2.true)

pub returns : goal.returns
returns c =
    let a = c.args in
    let at-is-king-side = c.is_castling in
    let at-if1 = c.if-is_castling in
    let at-is-queen-side = c.is_castling-2 in
    let at-if2 = c.if-is_castling-2 in
    c.read_piece.ensures
    ∙ reads_piece a.standard a.s.now (sym at-is-king-side.ensures ∙ at-if1.false) (sym at-is-queen-side.ensures ∙ at-if2.false)
