-- `follows` of lib.rt meets its contract: r ≡ same (now q.entry) (record_after (now p.entry) m).
use mathlib.Core.Path.{sym, ◌∙◌}
use native.Mathlib.Omega.{arith}
use Rattle.board_after.proofs.Tests.{not_side, not_rights, not_file, so_by_squares}
use Rattle.board_after.proofs.follows.Goals as goal

pub returns-then-q-side_after : goal.returns-then-q-side_after
returns-then-q-side_after c =
    let a = c.args in
    not_side a.p.now a.q.now a.m (omega arith) (omega arith) _ c.side_after.ensures c.if-q-side_after.true

pub returns-then-not-rights_follow : goal.returns-then-not-rights_follow
returns-then-not-rights_follow c =
    let a = c.args in
    let step = c.of-step.ensures in
    let rights = rw (step.source, step.dest) at c.rights_follow.ensures in
    not_rights a.p.now a.q.now a.m (omega arith) (omega arith) (sym rights ∙ c.if-not-rights_follow.true)

pub returns-then-q-file_after : goal.returns-then-q-file_after
returns-then-q-file_after c =
    let a = c.args in
    let step = c.of-step.ensures in
    let file = rw (c.squares_of-old.ensures, step.source, step.dest) at c.file_after.ensures in
    not_file a.p.now a.q.now a.m (omega arith) (omega arith) _ file c.if-q-file_after.true

pub returns : goal.returns
returns c =
    let a = c.args in
    let step = c.of-step.ensures in
    let rights = rw (step.source, step.dest) at c.rights_follow.ensures in
    let file = rw (c.squares_of-old.ensures, step.source, step.dest) at c.file_after.ensures in
    let squares = rw (c.squares_of-old.ensures, c.squares_of.ensures, step.source, step.dest, step.promotion) at c.squares_follow.ensures in
    squares
    ∙ so_by_squares a.p.now a.q.now a.m (omega arith) (omega arith) _ _ c.side_after.ensures c.if-q-side_after.false
    (sym rights ∙ c.if-not-rights_follow.false) file c.if-q-file_after.false
