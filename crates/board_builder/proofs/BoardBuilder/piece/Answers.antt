-- `BoardBuilder::piece` of lib.rt meets its contract: r ≡ set_piece self square code.
use borrow.Author.Tests.{le-leb, lt-leb, eq-eqb, ne_eqb}
use mathlib.Core.Path.{◌≡◌, ◌∙◌, sym}
use mathlib.Core.Bool.{true, false}
use Rattle.board_builder.specs.BoardBuilder.{in_range}
use Rattle.board_builder.proofs.Stepping.{step_record, step_refused_lem, step_made}
use Rattle.board_builder.proofs.BoardBuilder.piece.Goals as goal

pub returns-then-not-in_range : goal.returns-then-not-in_range
returns-then-not-in_range c =
    let a = c.args in
    let test = c.in_range in
    let bad : in_range a.self ≡ false = sym test.ensures ∙ c.if-not-in_range.true in
    c.stepped.ensures ∙ step_record _ _ _ bad

pub returns-then-square-gt63 : goal.returns-then-square-gt63
returns-then-square-gt63 c =
    let a = c.args in
    let test = c.in_range in
    let good : in_range a.self ≡ true = sym test.ensures ∙ c.if-not-in_range.false in
    c.stepped-then-square-gt63.ensures ∙ step_refused_lem _ _ _ good (simp (lt-leb _ _ c.if-square-gt63.true))

pub returns-then-code-eq0 : goal.returns-then-code-eq0
returns-then-code-eq0 c =
    let a = c.args in
    let test = c.in_range in
    let good : in_range a.self ≡ true = sym test.ensures ∙ c.if-not-in_range.false in
    c.stepped-then-code-eq0.ensures ∙ step_refused_lem _ _ _ good (simp (le-leb _ _ c.if-square-gt63.false, eq-eqb _ _ c.if-code-eq0.true))

pub returns-then-code-gt12 : goal.returns-then-code-gt12
returns-then-code-gt12 c =
    let a = c.args in
    let test = c.in_range in
    let good : in_range a.self ≡ true = sym test.ensures ∙ c.if-not-in_range.false in
    let square = c.if-square-gt63.false in
    let some = c.if-code-eq0.false in
    c.stepped-then-code-gt12.ensures ∙ step_refused_lem _ _ _ good (simp (le-leb _ _ square, ne_eqb _ _ some, lt-leb _ _ c.if-code-gt12.true))

pub returns : goal.returns
returns c =
    let a = c.args in
    let test = c.in_range in
    let good : in_range a.self ≡ true = sym test.ensures ∙ c.if-not-in_range.false in
    let square = c.if-square-gt63.false in
    let some = c.if-code-eq0.false in
    c.stepped-2.ensures ∙ step_made _ _ _ good (simp (le-leb _ _ square, ne_eqb _ _ some, le-leb _ _ c.if-code-gt12.false))
