-- `judge` of lib.rt meets its contract: r ≡ judgement owed given (now legal.entry) (now list.entry).
use mathlib.Core.Path.{◌∙◌}
use Rattle.judge.proofs.Found.{told_stray, told_again, told_missing, told_byte, told_right}
use Rattle.judge.proofs.judge.Goals as goal

pub returns-in-Some : goal.returns-in-Some
returns-in-Some c =
    let a = c.args in
    c.finding.ensures ∙ told_stray a.owed a.given a.legal.now a.list.now c.in-Some.stray c.in-Some.ensures

pub returns-in-Some-twice : goal.returns-in-Some-twice
returns-in-Some-twice c =
    let a = c.args in
    c.finding-in-Some-twice.ensures
    ∙ told_again a.owed a.given a.legal.now a.list.now c.in_default.ensures c.in-Some-twice.again c.in-Some-twice.ensures

pub returns-in-Some-outside : goal.returns-in-Some-outside
returns-in-Some-outside c =
    let a = c.args in
    c.finding-in-Some-outside.ensures
    ∙ told_missing a.owed a.given a.legal.now a.list.now c.in_default.ensures c.in_default-twice.ensures
    c.in-Some-outside.missing c.in-Some-outside.ensures

pub returns-then-given-owed : goal.returns-then-given-owed
returns-then-given-owed c =
    let a = c.args in
    c.finding-then-given-owed.ensures
    ∙ told_byte a.owed a.given a.legal.now a.list.now c.in_default.ensures c.in_default-twice.ensures c.in_default-outside.ensures
    c.if-given-owed.true

pub returns : goal.returns
returns c =
    let a = c.args in
    c.finding-2.ensures
    ∙ told_right a.owed a.given a.legal.now a.list.now c.in_default.ensures c.in_default-twice.ensures c.in_default-outside.ensures
    c.if-given-owed.false
