-- `start` of lib.rt meets its contract: r ≡ counts (start_answer limits (now acts.entry) (now ps.entry) (position_given b in_check (now (list
-- .entry)))) 0 0; now ps.exit ≡ positions_begun (start_answer limits (now acts.entry) (now ps.entry) (position_given b in_check (now list.entry)))
-- (now ps.entry) (position_given b in_check (now list.entry)).
use native.Mathlib.Omega.{arith}
use Rattle.answer.specs.Answer.{part_too_short}
use Rattle.position.specs.Layout.{Position}
use Rattle.stored_position.specs.Bytes.{position_given}
use Rattle.game_rules.specs.Limits.{limits}
use Rattle.game_rules.specs.Calls.{start_answer}
use Rattle.game.proofs.Ways as ways
use Rattle.game.proofs.start.Goals as goal

pub returns-then-acts-lt-ACTIONS_LENGTH : goal.returns-then-acts-lt-ACTIONS_LENGTH
returns-then-acts-lt-ACTIONS_LENGTH c =
    let a = c.args in
    let q : Position = position_given a.b a.in_check a.list.now in
    let whole = ways.start_refused (start_answer limits a.acts.now a.ps.now q) part_too_short a.ps.now q c.counts.result
    (ways.start_no_actions a.acts.now a.ps.now q c.if-acts-lt-ACTIONS_LENGTH.true) (λ z. omega (arith, z)) c.counts.ensures in record
    { counts = whole.0; positions = whole.1 }

pub returns-then-ps-lt-POSITIONS_LENGTH : goal.returns-then-ps-lt-POSITIONS_LENGTH
returns-then-ps-lt-POSITIONS_LENGTH c =
    let a = c.args in
    let q : Position = position_given a.b a.in_check a.list.now in
    let whole = ways.start_refused (start_answer limits a.acts.now a.ps.now q) part_too_short a.ps.now q c.counts-then-ps-lt-POSITIONS_LENGTH.result
    (ways.start_no_positions a.acts.now a.ps.now q c.if-acts-lt-ACTIONS_LENGTH.false c.if-ps-lt-POSITIONS_LENGTH.true) (λ z. omega (arith, z))
    c.counts-then-ps-lt-POSITIONS_LENGTH.ensures in record { counts = whole.0; positions = whole.1 }

pub returns : goal.returns
returns c =
    let a = c.args in
    let at-if1 = c.if-acts-lt-ACTIONS_LENGTH in
    let at-if2 = c.if-ps-lt-POSITIONS_LENGTH in
    let at-to-bytes = c.to_bytes-put in
    let q : Position = position_given a.b a.in_check a.list.now in
    let whole = ways.start_put a.acts.now a.ps.now q at-if1.false at-if2.false at-to-bytes.result _ c.counts-2.result
    at-to-bytes.ensures.answer at-to-bytes.ensures.bytes c.counts-2.ensures in record { counts = whole.0; positions = whole.1 }
