-- `play` of lib.rt meets its contract: r ≡ play_answer (now text.entry) board (now moves.entry) (length (now out.entry));
-- now out.exit ≡ play_bytes (now text.entry) board (now moves.entry) (now out.entry).
use Rattle.game_step.proofs.Laws.{play_whole}
use Rattle.game_step.proofs.play.Goals as goal

pub returns : goal.returns
returns c =
    let a = c.args in
    let at-play-said = c.play_said in
    let whole = play_whole a.text.now a.board a.moves.now a.out.now at-play-said.result _ at-play-said.ensures.answer at-play-said.ensures.bytes in
    record { answer = whole.0; bytes = whole.1 }
