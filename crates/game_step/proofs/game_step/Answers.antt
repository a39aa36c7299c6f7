-- `game_step` of lib.rt meets its contract: r ≡ game_step (now text.entry) offset board (now moves.entry) (length (now out.entry));
-- now out.exit ≡ game_step_bytes (now text.entry) offset board (now moves.entry) (now out.entry).
use Rattle.game_step.proofs.Laws.{step_ends, step_plays}
use Rattle.game_step.proofs.game_step.Goals as goal

pub returns-then-place-eq0 : goal.returns-then-place-eq0
returns-then-place-eq0 c =
    let a = c.args in
    let at-next-main = c.next_main-place in
    let at-if1 = c.if-place-eq0 in
    let whole = step_ends a.text.now a.offset a.board a.moves.now a.out.now at-next-main.result at-next-main.ensures at-if1.true
    c.ended.result c.ended.ensures in record { answer = whole.0; bytes = whole.1 }

pub returns : goal.returns
returns c =
    let a = c.args in
    let at-next-main = c.next_main-place in
    let at-if1 = c.if-place-eq0 in
    let at_part = c.part-said in
    let at-play-said = c.play_said in
    let whole = step_plays a.text.now a.offset a.board a.moves.now a.out.now at-next-main.result at-next-main.ensures at-if1.false _
    at_part.ensures at-play-said.result _ at-play-said.ensures.answer at-play-said.ensures.bytes in record { answer = whole.0; bytes = whole.1 }
