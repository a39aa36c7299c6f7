-- `numbers_in_range` of lib.rt meets its contract: r ≡ numbers_in_range (now numbers.entry).
use native.Mathlib.Omega.{arith}
use mathlib.Core.Path.{◌≡◌, ◌∙◌, sym}
use lib.ListN.{length, take, length-take}
use borrow.Author.Tests.{eq-eqb, ne_eqb, le-leb, lt-leb}
use Rattle.board_builder.specs.BoardBuilder.{numbers_in_range, in_range}
use Rattle.board_builder.proofs.numbers_in_range.Goals as goal

pub returns-then-numbers-ne-RECORD_SIZE : goal.returns-then-numbers-ne-RECORD_SIZE
unfolding numbers_in_range in_range
returns-then-numbers-ne-RECORD_SIZE c = simp (ne_eqb _ _ c.if-numbers-ne-RECORD_SIZE.true)

pub returns-then-numbers-gt1 : goal.returns-then-numbers-gt1
unfolding numbers_in_range in_range
returns-then-numbers-gt1 c =
    let a = c.args in
    let n = a.numbers.now in
    let w : length n ≡ 68 = c.if-numbers-ne-RECORD_SIZE.false in
    let ws : length (take 64 n) ≡ 64 = simp length-take (omega arith) in
    simp (eq-eqb _ _ w, eq-eqb _ _ ws, lt-leb _ _ c.if-numbers-gt1.true)

pub returns-then-numbers-gt3 : goal.returns-then-numbers-gt3
unfolding numbers_in_range in_range
returns-then-numbers-gt3 c =
    let a = c.args in
    let n = a.numbers.now in
    let w : length n ≡ 68 = c.if-numbers-ne-RECORD_SIZE.false in
    let ws : length (take 64 n) ≡ 64 = simp length-take (omega arith) in
    simp (eq-eqb _ _ w, eq-eqb _ _ ws, le-leb _ _ c.if-numbers-gt1.false, lt-leb _ _ c.if-numbers-gt3.true)

pub returns-then-numbers-gt3-2 : goal.returns-then-numbers-gt3-2
unfolding numbers_in_range in_range
returns-then-numbers-gt3-2 c =
    let a = c.args in
    let n = a.numbers.now in
    let w : length n ≡ 68 = c.if-numbers-ne-RECORD_SIZE.false in
    let ws : length (take 64 n) ≡ 64 = simp length-take (omega arith) in
    let side = c.if-numbers-gt1.false in
    let white = c.if-numbers-gt3.false in
    simp (eq-eqb _ _ w, eq-eqb _ _ ws, le-leb _ _ side, le-leb _ _ white, lt-leb _ _ c.if-numbers-gt3-2.true)

pub returns-then-numbers-gt8 : goal.returns-then-numbers-gt8
unfolding numbers_in_range in_range
returns-then-numbers-gt8 c =
    let a = c.args in
    let n = a.numbers.now in
    let w : length n ≡ 68 = c.if-numbers-ne-RECORD_SIZE.false in
    let ws : length (take 64 n) ≡ 64 = simp length-take (omega arith) in
    let side = c.if-numbers-gt1.false in
    let white = c.if-numbers-gt3.false in
    let black = c.if-numbers-gt3-2.false in
    simp (eq-eqb _ _ w, eq-eqb _ _ ws, le-leb _ _ side, le-leb _ _ white, le-leb _ _ black, lt-leb _ _ c.if-numbers-gt8.true)

pub slice_bounds-all_at_most-end : goal.slice_bounds-all_at_most-end
slice_bounds-all_at_most-end c = simp length-take (omega arith)

pub returns : goal.returns
unfolding numbers_in_range in_range
returns c =
    let a = c.args in
    let n = a.numbers.now in
    let w : length n ≡ 68 = c.if-numbers-ne-RECORD_SIZE.false in
    let ws : length (take 64 n) ≡ 64 = simp length-take (omega arith) in
    let side = c.if-numbers-gt1.false in
    let white = c.if-numbers-gt3.false in
    let black = c.if-numbers-gt3-2.false in
    let file = c.if-numbers-gt8.false in
    c.all_at_most.ensures
    ∙ sym (simp (eq-eqb _ _ w, eq-eqb _ _ ws, le-leb _ _ side, le-leb _ _ white, le-leb _ _ black, le-leb _ _ file))
