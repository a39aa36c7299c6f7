-- `fen_settled` of lib.rt meets its contract: r ≡ settled_key (now text.entry) (length (now out.entry));
-- now out.exit ≡ settled_room (now text.entry) (now out.entry).
use mathlib.Core.Path.{◌∙◌}
use Rattle.settled.proofs.Calling.{text_refused, text_read}
use Rattle.settled.proofs.fen_settled.Goals as goal

pub returns-then-fen-ne-ACCEPTED : goal.returns-then-fen-ne-ACCEPTED
returns-then-fen-ne-ACCEPTED c =
    let a = c.args in
    let fen = c.read_fen-fen in
    let w = text_refused a.text.now a.out.now fen.result fen.ensures c.if-fen-ne-ACCEPTED.true in
    record { answer = c.fault_at.ensures ∙ w.0; bytes = w.1 }

pub returns : goal.returns
returns c =
    let a = c.args in
    let fen = c.read_fen-fen in
    let at-if1 = c.if-fen-ne-ACCEPTED in
    let settled = c.board_settled-settled in
    let key = c.write_fen-key in
    let whole = text_read a.text.now a.out.now fen.result fen.ensures at-if1.false settled.result settled.ensures key.result _
    key.ensures.answer key.ensures.bytes in record { answer = whole.0; bytes = whole.1 }
