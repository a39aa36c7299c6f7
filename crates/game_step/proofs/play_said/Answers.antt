-- `play_said` of lib.rt meets its contract: r ≡ step_read start size board (length (now out.entry))
-- (from_san_standard board (now moves.entry) (now said.entry)); now out.exit ≡ bytes_read board (now out.entry)
-- (from_san_standard board (now moves.entry) (now said.entry)).
use Rattle.game_step.proofs.Laws.{play_refused, play_short, play_done}
use Rattle.game_step.proofs.play_said.Goals as goal

pub returns-then-read-ne-ACCEPTED : goal.returns-then-read-ne-ACCEPTED
returns-then-read-ne-ACCEPTED c =
    let a = c.args in
    let at-from-san-standard = c.from_san_standard-read in
    let at-if1 = c.if-read-ne-ACCEPTED in
    let whole = play_refused a.start a.size a.board a.moves.now a.out.now a.said.now at-from-san-standard.result at-from-san-standard.ensures
    at-if1.true c.refused.result c.refused.ensures in record { answer = whole.0; bytes = whole.1 }

pub returns-then-key-ne-ACCEPTED : goal.returns-then-key-ne-ACCEPTED
returns-then-key-ne-ACCEPTED c =
    let a = c.args in
    let at-from-san-standard = c.from_san_standard-read in
    let at-if1 = c.if-read-ne-ACCEPTED in
    let at-board-after = c.board_after-after in
    let at-write-fen = c.write_fen-key in
    let at-if2 = c.if-key-ne-ACCEPTED in
    let whole = play_short a.start a.size a.board a.moves.now a.out.now a.said.now at-from-san-standard.result at-from-san-standard.ensures
    at-if1.false at-board-after.result at-board-after.ensures at-write-fen.result _ at-write-fen.ensures.answer at-write-fen.ensures.bytes
    at-if2.true c.refused-then-key-ne-ACCEPTED.result c.refused-then-key-ne-ACCEPTED.ensures in record { answer = whole.0; bytes = whole.1 }

pub returns : goal.returns
returns c =
    let a = c.args in
    let at-from-san-standard = c.from_san_standard-read in
    let at-if1 = c.if-read-ne-ACCEPTED in
    let at-board-after = c.board_after-after in
    let at-write-fen = c.write_fen-key in
    let at-if2 = c.if-key-ne-ACCEPTED in
    let whole = play_done a.start a.size a.board a.moves.now a.out.now a.said.now at-from-san-standard.result at-from-san-standard.ensures
    at-if1.false at-board-after.result at-board-after.ensures at-write-fen.result _ at-write-fen.ensures.answer at-write-fen.ensures.bytes
    at-if2.false c.stepped.result c.stepped.ensures in record { answer = whole.0; bytes = whole.1 }
