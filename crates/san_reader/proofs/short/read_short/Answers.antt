-- `read_short` of short.rt meets its contract: r ≡ short_text (now s.entry).
use mathlib.Core.Path.{sym, ◌∙◌}
use Rattle.san_reader.proofs.Shorts.{short_empty, short_checked, short_plain}
use Rattle.san_reader.proofs.short.read_short.Goals as goal

pub returns-then-n-eq0 : goal.returns-then-n-eq0
returns-then-n-eq0 c = short_empty c.args.s.now c.if-n-eq0.true

pub returns-then-is_check : goal.returns-then-is_check
returns-then-is_check c =
    let a = c.args in
    let at-is-check = c.is_check in
    let at-if2 = c.if-is_check in
    c.read_first.ensures ∙ short_checked a.s.now (sym at-is-check.ensures ∙ at-if2.true)

pub returns : goal.returns
returns c =
    let a = c.args in
    let at-is-check = c.is_check in
    let at-if2 = c.if-is_check in
    c.read_first-2.ensures ∙ short_plain a.s.now (sym at-is-check.ensures ∙ at-if2.false)
