-- `line_count` of lines.rt meets its contract: r ≡ line_count (now text.entry).
use borrow.Author.Rules.{rules}
use mathlib.Core.Path.{◌≡◌, sym, ◌∙◌}
use Prim.Native.Nat.{◌+◌, ◌<◌}
use native.Mathlib.Omega.{arith}
use lib.ListN.{length}
use borrow.Author.Tests.{eq-eqb, ne_eqb}
use Rattle.fen_text.specs.Lines.{lines, ended_lines}
use Rattle.fen_text.proofs.Lines.{count_by_last, lines_at_most, ended_at_most}
use Rattle.fen_reader.proofs.lines.line_count.Goals as goal

pub returns-then-text-eq0 : goal.returns-then-text-eq0
returns-then-text-eq0 c =
    let a = c.args in
    let at-newlines = c.newlines-n in
    omega (arith, at-newlines.ensures, lines_at_most a.text.now, ended_at_most a.text.now, c.if-text-eq0.true)

pub returns-then-text-eq-LINE_FEED : goal.returns-then-text-eq-LINE_FEED
returns-then-text-eq-LINE_FEED c =
    let s = c.args.text.now in
    let some : 0 < length s = omega (arith, c.if-text-eq0.false) in
    c.newlines-n.ensures ∙ sym (count_by_last s some ∙ simp (eq-eqb _ _ c.if-text-eq-LINE_FEED.true) (omega arith))

pub overflow_add-result : goal.overflow_add-result
overflow_add-result c =
    let s = c.args.text.now in
    let some : 0 < length s = omega (arith, c.if-text-eq0.false) in
    let all : length (lines s) ≡ length (ended_lines s) + 1 = count_by_last s some ∙ simp (ne_eqb _ _ c.if-text-eq-LINE_FEED.false) in
    let long : length s < 18446744073709551616 = search rules in
    omega (arith, c.newlines-n.ensures, lines_at_most s)

pub returns : goal.returns
returns c =
    let s = c.args.text.now in
    let some : 0 < length s = omega (arith, c.if-text-eq0.false) in
    let all : length (lines s) ≡ length (ended_lines s) + 1 = count_by_last s some ∙ simp (ne_eqb _ _ c.if-text-eq-LINE_FEED.false) in
    omega (arith, c.newlines-n.ensures)
