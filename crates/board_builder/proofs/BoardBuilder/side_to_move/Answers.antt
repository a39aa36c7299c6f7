-- `BoardBuilder::side_to_move` of lib.rt meets its contract: r ≡ set_side self color.
use borrow.Author.Tests.{le-leb, lt-leb}
use mathlib.Core.Path.{◌≡◌, ◌∙◌, sym}
use mathlib.Core.Bool.{true, false}
use Rattle.board_builder.specs.BoardBuilder.{in_range}
use Rattle.board_builder.proofs.Stepping.{step_record, step_refused_lem, step_made}
use Rattle.board_builder.proofs.BoardBuilder.side_to_move.Goals as goal

pub returns-then-not-in_range : goal.returns-then-not-in_range
returns-then-not-in_range c =
    let a = c.args in
    let test = c.in_range in
    let bad : in_range a.self ≡ false = sym test.ensures ∙ c.if-not-in_range.true in
    c.stepped.ensures ∙ step_record _ _ _ bad

pub returns-then-color-gt1 : goal.returns-then-color-gt1
returns-then-color-gt1 c =
    let a = c.args in
    let test = c.in_range in
    let good : in_range a.self ≡ true = sym test.ensures ∙ c.if-not-in_range.false in
    c.stepped-then-color-gt1.ensures ∙ step_refused_lem _ _ _ good (simp (lt-leb _ _ c.if-color-gt1.true))

pub returns : goal.returns
returns c =
    let a = c.args in
    let test = c.in_range in
    let good : in_range a.self ≡ true = sym test.ensures ∙ c.if-not-in_range.false in
    c.stepped-2.ensures ∙ step_made _ _ _ good (simp (le-leb _ _ c.if-color-gt1.false))
