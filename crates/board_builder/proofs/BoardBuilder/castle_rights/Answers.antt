-- `BoardBuilder::castle_rights` of lib.rt meets its contract: r ≡ set_rights self color rights.
use borrow.Author.Tests.{le-leb, lt-leb, eq-eqb, ne_eqb}
use mathlib.Core.Path.{◌≡◌, ◌∙◌, sym}
use mathlib.Core.Bool.{true, false}
use Rattle.board_builder.specs.BoardBuilder.{in_range}
use Rattle.board_builder.proofs.Stepping.{step_record, step_refused_lem, step_made}
use Rattle.board_builder.proofs.BoardBuilder.castle_rights.Goals as goal

pub returns-then-not-in_range : goal.returns-then-not-in_range
returns-then-not-in_range c =
    let a = c.args in
    let test = c.in_range in
    let bad : in_range a.self ≡ false = sym test.ensures ∙ c.if-not-in_range.true in
    c.stepped.ensures ∙ step_record _ _ _ bad

pub returns-then-rights-gt3 : goal.returns-then-rights-gt3
returns-then-rights-gt3 c =
    let a = c.args in
    let test = c.in_range in
    let good : in_range a.self ≡ true = sym test.ensures ∙ c.if-not-in_range.false in
    c.stepped-then-rights-gt3.ensures ∙ step_refused_lem _ _ _ good (simp (lt-leb _ _ c.if-rights-gt3.true))

pub returns-then-color-gt1 : goal.returns-then-color-gt1
returns-then-color-gt1 c =
    let a = c.args in
    let test = c.in_range in
    let good : in_range a.self ≡ true = sym test.ensures ∙ c.if-not-in_range.false in
    c.stepped-then-color-gt1.ensures ∙ step_refused_lem _ _ _ good (simp (le-leb _ _ c.if-rights-gt3.false, lt-leb _ _ c.if-color-gt1.true))

pub returns-then-color-eq0 : goal.returns-then-color-eq0
returns-then-color-eq0 c =
    let a = c.args in
    let test = c.in_range in
    let good : in_range a.self ≡ true = sym test.ensures ∙ c.if-not-in_range.false in
    let rights = c.if-rights-gt3.false in
    let colour = c.if-color-gt1.false in
    c.stepped-then-color-eq0.ensures ∙ simp (eq-eqb _ _ c.if-color-eq0.true) (step_made _ _ _ good (simp (le-leb _ _ rights, le-leb _ _ colour)))

pub returns : goal.returns
returns c =
    let a = c.args in
    let test = c.in_range in
    let good : in_range a.self ≡ true = sym test.ensures ∙ c.if-not-in_range.false in
    let rights = c.if-rights-gt3.false in
    let colour = c.if-color-gt1.false in
    c.stepped-2.ensures ∙ simp (ne_eqb _ _ c.if-color-eq0.false) (step_made _ _ _ good (simp (le-leb _ _ rights, le-leb _ _ colour)))
