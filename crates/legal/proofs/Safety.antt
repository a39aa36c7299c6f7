-- Laws of legality: the record after a move in range, and what is asked of a move.
-- Assumes nothing.
use mathlib.Core.Path.{◌≡◌, ap, sym, ◌∙◌}
use mathlib.Core.Bool.{Bool, true, false, not, ◌&&◌}
use mathlib.Core.List.{List}
use Prim.Native.Nat.{ℕ, ◌/◌, ◌%◌, ◌≤◌, ◌<◌}
use native.Mathlib.Omega.{arith}
use borrow.Author.Tests.{le-leb}
use Rattle.board_builder.specs.declared.BoardBuilder.{BoardBuilder}
use Rattle.board_builder.specs.declared.Stepped.{Stepped}
use Rattle.board_builder.specs.BoardBuilder.{in_range}
use Rattle.board_builder.specs.Steps.{stepped}
use Rattle.board_builder.proofs.Ranges.{in_range_lem}
use Rattle.move_rules.specs.After.{squares_after, after_parts, board_after, after_answer}
use Rattle.move_laws.specs.Attack.{in_check}
use Rattle.move_laws.specs.Legal.{own_rights, goes, legal_parts, is_legal}

after_legal : (b : BoardBuilder) (m : ℕ) → in_range b ≡ true → m ≤ 28671 → after_answer b m ≡ stepped 0 (board_after b m)
unfolding after_answer
after_legal b m r h = simp (r, le-leb m 28671 h)

pub after_squares : (b : BoardBuilder) (m : ℕ) (x : Stepped) → in_range b ≡ true → m < 28672 → x ≡ after_answer b m
    → x.board.pieces ≡ squares_after b.pieces (m % 64) (m / 64 % 64) (m / 4096)
unfolding after_parts
after_squares b m x r h e = ap (λ (y : Stepped). y.board.pieces) (e ∙ after_legal b m r (omega (arith, h)))

pub side_under : (b : BoardBuilder) → in_range b ≡ true → b.side_to_move < 2
side_under b r = omega (arith, (in_range_lem b r).side)

pub not_gone : (b : BoardBuilder) (m : ℕ) (squares : List ℕ) (rights : ℕ) → squares ≡ b.pieces → rights ≡ own_rights b
    → goes squares b.side_to_move rights b.en_passant (m % 64) (m / 64 % 64) (m / 4096) ≡ false → false ≡ is_legal b m
unfolding is_legal legal_parts
not_gone b m squares rights p q e =
    sym (ap (λ (u : Bool). u && not (in_check (squares_after b.pieces (m % 64) (m / 64 % 64) (m / 4096)) b.side_to_move))
    (ap (λ (k : ℕ). goes b.pieces b.side_to_move k b.en_passant (m % 64) (m / 64 % 64) (m / 4096)) (sym q)
    ∙ ap (λ (l : List ℕ). goes l b.side_to_move rights b.en_passant (m % 64) (m / 64 % 64) (m / 4096)) (sym p)
    ∙ e))

pub gone : (b : BoardBuilder) (m : ℕ) (squares : List ℕ) (rights : ℕ) → squares ≡ b.pieces → rights ≡ own_rights b
    → goes squares b.side_to_move rights b.en_passant (m % 64) (m / 64 % 64) (m / 4096) ≡ true
    → not (in_check (squares_after b.pieces (m % 64) (m / 64 % 64) (m / 4096)) b.side_to_move) ≡ is_legal b m
unfolding is_legal legal_parts
gone b m squares rights p q e =
    sym (ap (λ (u : Bool). u && not (in_check (squares_after b.pieces (m % 64) (m / 64 % 64) (m / 4096)) b.side_to_move))
    (ap (λ (k : ℕ). goes b.pieces b.side_to_move k b.en_passant (m % 64) (m / 64 % 64) (m / 4096)) (sym q)
    ∙ ap (λ (l : List ℕ). goes l b.side_to_move rights b.en_passant (m % 64) (m / 64 % 64) (m / 4096)) (sym p)
    ∙ e))
