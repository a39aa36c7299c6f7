-- `BoardBuilder::en_passant` of lib.rt meets its contract: r ≡ set_en_passant self file.
use borrow.Author.Tests.{le-leb, lt-leb}
use mathlib.Core.Path.{◌≡◌, ◌∙◌, sym}
use mathlib.Core.Bool.{true, false}
use native.Mathlib.Omega.{arith}
use Rattle.board_builder.specs.BoardBuilder.{in_range}
use Rattle.board_builder.proofs.Stepping.{step_record, step_refused_lem, step_made}
use Rattle.board_builder.proofs.BoardBuilder.en_passant.Goals as goal

pub returns-then-not-in_range : goal.returns-then-not-in_range
returns-then-not-in_range c =
    let a = c.args in
    let test = c.in_range in
    let bad : in_range a.self ≡ false = sym test.ensures ∙ c.if-not-in_range.true in
    c.stepped.ensures ∙ step_record _ _ _ bad

pub returns-then-file-gt8 : goal.returns-then-file-gt8
returns-then-file-gt8 c =
    let a = c.args in
    let test = c.in_range in
    let good : in_range a.self ≡ true = sym test.ensures ∙ c.if-not-in_range.false in
    c.stepped-then-file-gt8.ensures ∙ step_refused_lem _ _ _ good (simp (lt-leb a.file 8 (omega (arith, c.if-file-gt8.true))))

pub returns : goal.returns
returns c =
    let a = c.args in
    let test = c.in_range in
    let good : in_range a.self ≡ true = sym test.ensures ∙ c.if-not-in_range.false in
    c.stepped-2.ensures ∙ step_made _ _ _ good (simp (le-leb a.file 8 (omega (arith, c.if-file-gt8.false))))
