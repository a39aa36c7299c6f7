-- `BoardBuilder::in_range` of lib.rt meets its contract: r ≡ inRange self.
use borrow.Author.Rules.{rules}
use borrow.Author.Tests.{le-leb, lt-leb, eq-eqb}
use mathlib.Core.Path.{◌≡◌, refl, ◌∙◌, sym}
use mathlib.Core.Bool.{Bool, true, false, ◌&&◌}
use lib.Dec.{leb, eqb}
use Rattle.answer.specs.Numbers.{all_at_most}
use Rattle.board_builder.specs.declared.BoardBuilder.{BoardBuilder}
use Rattle.board_builder.specs.BoardBuilder.{squares, counters_in_range, in_range}
use lib.ListN.{length}
use Rattle.board_builder.proofs.BoardBuilder.in_range.Goals as goal

-- the numbers beside the counters, which the code judges first and the definition last
abbrev placed : BoardBuilder → Bool
placed b =
    eqb (length b.pieces) squares
    && (leb b.side_to_move 1
    && (leb b.white_castle_rights 3
    && (leb b.black_castle_rights 3
    && (leb b.en_passant 8
    && all_at_most 12 b.pieces))))

unplaced : (b : BoardBuilder) → placed b ≡ false → false ≡ in_range b
unfolding in_range
unplaced b e = go (counters_in_range b.half_moves b.full_moves)
  where
    go : (t : Bool) → false ≡ t && placed b
    go true = sym e
    go false = refl

pub returns-then-self-gt1 : goal.returns-then-self-gt1
returns-then-self-gt1 c =
    let a = c.args in
    let long : length a.self.pieces ≡ 64 = search rules in
    unplaced a.self (simp (eq-eqb _ _ long, lt-leb _ _ c.if-self-gt1.true))

pub returns-then-self-gt3 : goal.returns-then-self-gt3
returns-then-self-gt3 c =
    let a = c.args in
    let long : length a.self.pieces ≡ 64 = search rules in
    unplaced a.self (simp (eq-eqb _ _ long, le-leb _ _ c.if-self-gt1.false, lt-leb _ _ c.if-self-gt3.true))

pub returns-then-self-gt3-2 : goal.returns-then-self-gt3-2
returns-then-self-gt3-2 c =
    let a = c.args in
    let side = c.if-self-gt1.false in
    let white = c.if-self-gt3.false in
    let long : length a.self.pieces ≡ 64 = search rules in
    unplaced a.self (simp (eq-eqb _ _ long, le-leb _ _ side, le-leb _ _ white, lt-leb _ _ c.if-self-gt3-2.true))

pub returns-then-self-gt8 : goal.returns-then-self-gt8
returns-then-self-gt8 c =
    let a = c.args in
    let side = c.if-self-gt1.false in
    let white = c.if-self-gt3.false in
    let black = c.if-self-gt3-2.false in
    let long : length a.self.pieces ≡ 64 = search rules in
    unplaced a.self (simp (eq-eqb _ _ long, le-leb _ _ side, le-leb _ _ white, le-leb _ _ black, lt-leb _ _ c.if-self-gt8.true))

pub returns-then-not-counters_in_range : goal.returns-then-not-counters_in_range
unfolding in_range
returns-then-not-counters_in_range c = simp (sym c.counters_in_range.ensures ∙ c.if-not-counters_in_range.true)

pub returns : goal.returns
unfolding in_range
returns c =
    let a = c.args in
    let side = c.if-self-gt1.false in
    let white = c.if-self-gt3.false in
    let black = c.if-self-gt3-2.false in
    let file = c.if-self-gt8.false in
    let at-counters-in-range = c.counters_in_range in
    let counted = sym at-counters-in-range.ensures ∙ c.if-not-counters_in_range.false in
    let long : length a.self.pieces ≡ 64 = search rules in
    c.codes_in_range.ensures
    ∙ sym (simp (counted, eq-eqb _ _ long, le-leb _ _ side, le-leb _ _ white, le-leb _ _ black, le-leb _ _ file))
