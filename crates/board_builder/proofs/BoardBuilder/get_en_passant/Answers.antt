-- `BoardBuilder::get_en_passant` of lib.rt meets its contract: r ≡ en_passant_square self.
use mathlib.Core.Path.{◌≡◌, ◌∙◌, sym}
use mathlib.Core.Bool.{true}
use Rattle.board_builder.specs.BoardBuilder.{in_range}
use native.Mathlib.Omega.{arith}
use Rattle.board_builder.proofs.Ranges.{in_range_lem}
use Rattle.board_builder.proofs.BoardBuilder.get_en_passant.Goals as goal

pub overflow_add-file : goal.overflow_add-file
overflow_add-file c =
    let a = c.args in
    let test = c.in_range in
    let good : in_range a.self ≡ true = sym test.ensures ∙ c.if-not-in_range.false in
    let h = (in_range_lem a.self good).file in omega arith

pub overflow_add-file-2 : goal.overflow_add-file-2
overflow_add-file-2 c =
    let a = c.args in
    let test = c.in_range in
    let good : in_range a.self ≡ true = sym test.ensures ∙ c.if-not-in_range.false in
    let h = (in_range_lem a.self good).file in omega arith
