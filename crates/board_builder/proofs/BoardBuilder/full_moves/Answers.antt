-- `BoardBuilder::full_moves` of lib.rt meets its contract: r ≡ set_full_moves self count.
use borrow.Author.Tests.{le-leb, lt-leb, eq-eqb, ne_eqb}
use mathlib.Core.Path.{◌≡◌, ◌∙◌, sym}
use mathlib.Core.Bool.{true, false}
use Rattle.board_builder.specs.BoardBuilder.{in_range}
use Rattle.board_builder.proofs.Stepping.{step_record, step_refused_lem, step_made}
use Rattle.board_builder.proofs.BoardBuilder.full_moves.Goals as goal

pub returns-then-not-in_range : goal.returns-then-not-in_range
returns-then-not-in_range c =
    let a = c.args in
    let test = c.in_range in
    let bad : in_range a.self ≡ false = sym test.ensures ∙ c.if-not-in_range.true in
    c.stepped.ensures ∙ step_record _ _ _ bad

pub returns-then-count-eq0 : goal.returns-then-count-eq0
returns-then-count-eq0 c =
    let a = c.args in
    let test = c.in_range in
    let good : in_range a.self ≡ true = sym test.ensures ∙ c.if-not-in_range.false in
    c.stepped-then-count-eq0.ensures ∙ step_refused_lem _ _ _ good (simp (eq-eqb _ _ c.if-count-eq0.true))

pub returns-then-count-gt-LAST_COUNT : goal.returns-then-count-gt-LAST_COUNT
returns-then-count-gt-LAST_COUNT c =
    let a = c.args in
    let test = c.in_range in
    let good : in_range a.self ≡ true = sym test.ensures ∙ c.if-not-in_range.false in
    c.stepped-then-count-gt-LAST_COUNT.ensures ∙ step_refused_lem _ _ _ good (simp (ne_eqb _ _ c.if-count-eq0.false, lt-leb _ _ c.if-count-gt-LAST_COUNT.true))

pub returns : goal.returns
returns c =
    let a = c.args in
    let test = c.in_range in
    let good : in_range a.self ≡ true = sym test.ensures ∙ c.if-not-in_range.false in
    c.stepped-2.ensures ∙ step_made _ _ _ good (simp (ne_eqb _ _ c.if-count-eq0.false, le-leb _ _ c.if-count-gt-LAST_COUNT.false))
