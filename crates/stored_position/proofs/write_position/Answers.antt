-- `write_position` of lib.rt meets its contract: now out.exit ≡ written (now out.entry) 0 (position_bytes (position_given b in_check (now (list
-- .entry)))).
use borrow.Author.Rules.{length_unmapped}
use mathlib.Core.Path.{◌≡◌, ap, ◌∙◌}
use native.Mathlib.Omega.{arith}
use Prim.Native.Nat.{ℕ, ◌+◌, ◌*◌, ◌-◌, ◌≤◌}
use lib.ListN.{length, take, drop, replicate, length-set, length-take, length-drop, length-replicate}
use Rattle.answer.specs.Parts.{written}
use Rattle.position.specs.Layout.{check_at, moves_at, position_size}
use Rattle.board_builder.specs.BoardBuilder.{squares, numbers}
use Rattle.stored_position.proofs.Checks.{length_numbers}
use Rattle.stored_position.proofs.Writes.{position_written, put_written, two_written}
use Rattle.stored_position.proofs.write_position.Goals as goal

pub returns : goal.returns
returns c =
    let a = c.args in
    let long : length a.b.pieces ≡ squares = search length_unmapped in
    let list = a.list.now in
    let to = moves_at + 2 * length list in
    let l₁ = c.write_record.new.out in
    let room : check_at + 2 ≤ length l₁ = omega (arith, c.write_record.auto.out, c.requires) in
    let w = c.write_moves.new.out in
    let wide : position_size ≤ length w = omega (arith, simp (length-set, length-set) at c.write_moves.auto.out, c.write_record.auto.out, c.requires) in
    let many : length (take (position_size - to) (drop to w)) ≡ position_size - to =
    length-take (position_size - to) (drop to w) ∙ omega (arith, length-drop to w) in
    let zeros : c.fill.new.self ≡ replicate (position_size - to) 0 = c.fill.ensures.after (λ y e. e) ∙ ap (λ (k : ℕ). replicate k 0) many in
    position_written a.out.now (numbers a.b) a.b.half_moves a.b.full_moves a.in_check list (length_numbers a.b long)
    c.requires.1 c.requires.0 l₁ _ w _
    c.write_record.ensures (two_written l₁ check_at a.in_check (length list) room) c.write_moves.ensures
    (put_written w c.fill.new.self to (position_size - to) (ap length zeros ∙ length-replicate (position_size - to) 0)
    ∙ ap (written w to) zeros)
