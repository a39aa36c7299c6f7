-- `same_record` of lib.rt meets its contract: r ≡ same (numbers a) (numbers b).
use borrow.Author.Rules.{length_unmapped}
use mathlib.Core.Path.{◌≡◌, sym, ◌∙◌}
use Prim.Native.Nat.{ℕ}
use Rattle.board_builder.specs.BoardBuilder.{numbers}
use Rattle.move_rules.proofs.Records.{off_side, off_white, off_black, off_file, by_squares}
use Rattle.board_after.proofs.same_record.Goals as goal

both64 : (m n : ℕ) → m ≡ 64 → n ≡ 64 → m ≡ n
both64 m n e f = e ∙ sym f

pub returns-then-a-b : goal.returns-then-a-b
unfolding numbers
returns-then-a-b c =
    let a = c.args.a.now in
    let b = c.args.b.now in
    off_side a.pieces _ _ _ _ b (both64 _ _ (search length_unmapped) (search length_unmapped)) c.if-a-b.true

pub returns-then-a-b-2 : goal.returns-then-a-b-2
unfolding numbers
returns-then-a-b-2 c =
    let a = c.args.a.now in
    let b = c.args.b.now in
    off_white a.pieces _ _ _ _ b (both64 _ _ (search length_unmapped) (search length_unmapped)) c.if-a-b-2.true

pub returns-then-a-b-3 : goal.returns-then-a-b-3
unfolding numbers
returns-then-a-b-3 c =
    let a = c.args.a.now in
    let b = c.args.b.now in
    off_black a.pieces _ _ _ _ b (both64 _ _ (search length_unmapped) (search length_unmapped)) c.if-a-b-3.true

pub returns-then-a-b-4 : goal.returns-then-a-b-4
unfolding numbers
returns-then-a-b-4 c =
    let a = c.args.a.now in
    let b = c.args.b.now in
    off_file a.pieces _ _ _ _ b (both64 _ _ (search length_unmapped) (search length_unmapped)) c.if-a-b-4.true

pub returns : goal.returns
unfolding numbers
returns c =
    let a = c.args.a.now in
    let b = c.args.b.now in
    c.same_bytes.ensures
    ∙ by_squares a.pieces _ _ _ _ b (both64 _ _ (search length_unmapped) (search length_unmapped))
    c.if-a-b.false c.if-a-b-2.false c.if-a-b-3.false c.if-a-b-4.false
