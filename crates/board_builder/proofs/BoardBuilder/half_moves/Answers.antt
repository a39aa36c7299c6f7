-- `BoardBuilder::half_moves` of lib.rt meets its contract: r ≡ set_half_moves self count.
use borrow.Author.Tests.{le-leb, lt-leb}
use mathlib.Core.Path.{◌≡◌, ◌∙◌, sym}
use mathlib.Core.Bool.{true, false}
use native.Mathlib.Omega.{arith}
use Rattle.board_builder.specs.BoardBuilder.{last_count, in_range}
use Rattle.board_builder.proofs.Stepping.{step_record, step_refused_lem, step_made}
use Rattle.board_builder.proofs.BoardBuilder.half_moves.Goals as goal

pub returns-then-not-in_range : goal.returns-then-not-in_range
returns-then-not-in_range c =
    let a = c.args in
    let test = c.in_range in
    let bad : in_range a.self ≡ false = sym test.ensures ∙ c.if-not-in_range.true in
    c.stepped.ensures ∙ step_record _ _ _ bad

pub returns-then-count-gt-LAST_COUNT : goal.returns-then-count-gt-LAST_COUNT
returns-then-count-gt-LAST_COUNT c =
    let a = c.args in
    let test = c.in_range in
    let good : in_range a.self ≡ true = sym test.ensures ∙ c.if-not-in_range.false in
    c.stepped-then-count-gt-LAST_COUNT.ensures ∙ step_refused_lem _ _ _ good (simp (lt-leb a.count last_count (omega (arith, c.if-count-gt-LAST_COUNT.true))))

pub returns : goal.returns
returns c =
    let a = c.args in
    let test = c.in_range in
    let good : in_range a.self ≡ true = sym test.ensures ∙ c.if-not-in_range.false in
    c.stepped-2.ensures ∙ step_made _ _ _ good (simp (le-leb a.count last_count (omega (arith, c.if-count-gt-LAST_COUNT.false))))
