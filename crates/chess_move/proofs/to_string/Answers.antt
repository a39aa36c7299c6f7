-- `to_string` of lib.rt meets its contract: r ≡ write_answer (move_check n) (move_text n) (length (now out.entry)); now out.exit ≡ write_bytes (move_check
-- n) (move_text n) (now out.entry).
use borrow.Author.Tests.{le-leb, lt-leb}
use mathlib.Core.Path.{◌≡◌, sym, ap, ◌∙◌}
use native.Mathlib.Omega.{arith}
use Rattle.answer.proofs.Writes.{write_refused}
use Rattle.chess_move.specs.declared.ChessMove.{ChessMove}
use Rattle.chess_move.specs.Coordinate.{move_text, move_check}
use Rattle.chess_move.specs.Number.{source_of, dest_of, promotion_of}
use Rattle.chess_move.proofs.Ways.{text_four, text_five}
use Rattle.chess_move.proofs.to_string.Goals as goal

pub returns-then-n-gt-LAST_MOVE : goal.returns-then-n-gt-LAST_MOVE
returns-then-n-gt-LAST_MOVE c =
    let a = c.args in
    let k : move_check a.n ≡ 6 = simp (lt-leb _ _ c.if-n-gt-LAST_MOVE.true) in
    let w = write_refused 6 (move_text a.n) a.out.now (λ e. omega arith) in
    record { answer = rw k (c.refused.ensures ∙ w.answer); bytes = rw k (w.bytes) }

pub returns-then-m-eq0 : goal.returns-then-m-eq0
returns-then-m-eq0 c =
    let a = c.args in
    let m = c.from_number-m in
    let k : move_check a.n ≡ 0 = simp (le-leb _ _ c.if-n-gt-LAST_MOVE.false) in
    let s : m.result.source ≡ source_of a.n = ap (λ (x : ChessMove). x.source) m.ensures in
    let d : m.result.dest ≡ dest_of a.n = ap (λ (x : ChessMove). x.dest) m.ensures in
    let p : m.result.promotion ≡ promotion_of a.n = ap (λ (x : ChessMove). x.promotion) m.ensures in
    record {
      answer = rw (k, text_four a.n (sym p ∙ c.if-m-eq0.true), ← s, ← d) (c.write_text.ensures.answer);
      bytes = rw (k, text_four a.n (sym p ∙ c.if-m-eq0.true), ← s, ← d) (c.write_text.ensures.bytes);
    }

pub returns : goal.returns
returns c =
    let a = c.args in
    let m = c.from_number-m in
    let k : move_check a.n ≡ 0 = simp (le-leb _ _ c.if-n-gt-LAST_MOVE.false) in
    let s : m.result.source ≡ source_of a.n = ap (λ (x : ChessMove). x.source) m.ensures in
    let d : m.result.dest ≡ dest_of a.n = ap (λ (x : ChessMove). x.dest) m.ensures in
    let p : m.result.promotion ≡ promotion_of a.n = ap (λ (x : ChessMove). x.promotion) m.ensures in
    let some : promotion_of a.n ≡ 0 → ⊥ = λ e. c.if-m-eq0.false (p ∙ e) in
    record {
      answer = rw (k, text_five a.n some, ← s, ← d, ← p, ← c.letter_of_piece.ensures) (c.write_text-2.ensures.answer);
      bytes = rw (k, text_five a.n some, ← s, ← d, ← p, ← c.letter_of_piece.ensures) (c.write_text-2.ensures.bytes);
    }
