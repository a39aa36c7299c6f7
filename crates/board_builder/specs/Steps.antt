-- The builder's steps (document 01, "Port order" 2): each sets or clears a square, the side, the rights, the en passant file or a counter
-- (document 02, order 12); a step given any number out of range, its record's too, hands its record back with 5.
-- Assumes nothing.
use Rattle.std.specs.Prelude.{ℕ, Bool, cond, not, ◌&&◌, leb, eqb, set}
use Rattle.answer.specs.Answer.{out_of_range}
use Rattle.board_builder.specs.declared.BoardBuilder.{BoardBuilder}
use Rattle.board_builder.specs.declared.Stepped.{Stepped}
use Rattle.board_builder.specs.BoardBuilder.{board, with_counters, last_count, in_range}

abbrev pub stepped : ℕ → BoardBuilder → Stepped
stepped number b = record { number = number; board = b }

-- 0 and the new record where its own numbers and the step's are in range, otherwise 5 and the old record
unfoldable pub step : Bool → BoardBuilder → BoardBuilder → Stepped
step ok new old = cond (in_range old && ok) (stepped 0 new) (stepped out_of_range old)

-- another record with the counters of b
abbrev pub keeping : BoardBuilder → BoardBuilder → BoardBuilder
keeping b new = with_counters new b.half_moves b.full_moves

abbrev pub with_piece : BoardBuilder → ℕ → ℕ → BoardBuilder
with_piece b square code =
    keeping b (board (set b.pieces square code) b.side_to_move b.white_castle_rights b.black_castle_rights b.en_passant)

-- a man of code 1 to 12
abbrev pub set_piece : BoardBuilder → ℕ → ℕ → Stepped
set_piece b square code = step (leb square 63 && (not (eqb code 0) && leb code 12)) (with_piece b square code) b

abbrev pub clear_square : BoardBuilder → ℕ → Stepped
clear_square b square = step (leb square 63) (with_piece b square 0) b

abbrev pub set_side : BoardBuilder → ℕ → Stepped
set_side b colour =
    step (leb colour 1) (keeping b (board b.pieces colour b.white_castle_rights b.black_castle_rights b.en_passant)) b

-- white's rights for colour 0, black's for colour 1
abbrev pub with_rights : BoardBuilder → ℕ → ℕ → BoardBuilder
with_rights b colour rights =
    cond (eqb colour 0)
    (keeping b (board b.pieces b.side_to_move rights b.black_castle_rights b.en_passant))
    (keeping b (board b.pieces b.side_to_move b.white_castle_rights rights b.en_passant))

abbrev pub set_rights : BoardBuilder → ℕ → ℕ → Stepped
set_rights b colour rights = step (leb rights 3 && leb colour 1) (with_rights b colour rights) b

-- 0 clears, 1 to 8 sets files a to h
abbrev pub set_en_passant : BoardBuilder → ℕ → Stepped
set_en_passant b file =
    step (leb file 8) (keeping b (board b.pieces b.side_to_move b.white_castle_rights b.black_castle_rights file)) b

abbrev pub set_half_moves : BoardBuilder → ℕ → Stepped
set_half_moves b count = step (leb count last_count) (with_counters b count b.full_moves) b

abbrev pub set_full_moves : BoardBuilder → ℕ → Stepped
set_full_moves b count = step (not (eqb count 0) && leb count last_count) (with_counters b b.half_moves count) b
