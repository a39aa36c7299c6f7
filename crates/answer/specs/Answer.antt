-- Answers, as document 01, "Answer numbers", has them: a number of its table and a value. And what any writer of texts answers and leaves in its room.
-- Assumes nothing.
use Rattle.std.specs.Prelude.{ℕ, Bool, cond, ◌&&◌, List, ◌++◌, eqb, leb, length, drop}
use Rattle.answer.specs.declared.Answer.{Answer}
use Rattle.answer.specs.declared.Placed.{Placed}

-- 1: `InvalidFen`, no longer answered: order 2 put 18, 19 and 20 in its place
abbrev pub invalid_fen : ℕ
invalid_fen = 1

-- 2: `InvalidSquare`
abbrev pub invalid_square : ℕ
invalid_square = 2

-- 3: `InvalidUciMove`
abbrev pub invalid_uci_move : ℕ
invalid_uci_move = 3

-- 4: `InvalidSanMove`
abbrev pub invalid_san_move : ℕ
invalid_san_move = 4

-- 5: a record number, square, rank, file, colour, rights number or in-check byte out of range
abbrev pub out_of_range : ℕ
out_of_range = 5

-- 6: list over 255, or an entry (or the coordinate writer's move) over 28,671
abbrev pub bad_list : ℕ
bad_list = 6

-- 7: output too short
abbrev pub output_too_short : ℕ
output_too_short = 7

-- 8: no text names the move
abbrev pub no_name : ℕ
no_name = 8

-- 9: log not good, or a count over its limit
abbrev pub not_good : ℕ
not_good = 9

-- 10: game is over
abbrev pub game_over : ℕ
game_over = 10

-- 11: move not in the list
abbrev pub not_listed : ℕ
not_listed = 11

-- 12: next position has the wrong side to move
abbrev pub wrong_side : ℕ
wrong_side = 12

-- 13: the log has as many actions as it may have, or for a move as many moves
abbrev pub log_full : ℕ
log_full = 13

-- 14: no offer to accept
abbrev pub no_offer : ℕ
no_offer = 14

-- 15: no claim stands
abbrev pub no_claim : ℕ
no_claim = 15

-- 16: lent log part shorter than the limits ask
abbrev pub part_too_short : ℕ
part_too_short = 16

-- order 1: a roll cut short or too long, with a number not in its shortest form or out of range; bytes that are not actions
abbrev pub bad_roll : ℕ
bad_roll = 17

-- order 2: a FEN text of too few tokens
abbrev pub too_few_tokens : ℕ
too_few_tokens = 18

-- order 2: a byte in a FEN text's placement that may not stand there
abbrev pub bad_placement : ℕ
bad_placement = 19

-- order 2: a side token of a FEN text that is none of the four
abbrev pub bad_side : ℕ
bad_side = 20

-- order 8: a comment or bracket of PGN move text left open
abbrev pub left_open : ℕ
left_open = 21

-- order 8: brackets deeper than 8
abbrev pub too_deep : ℕ
too_deep = 22

-- order 8: an unknown token, a result in brackets, a stray closing bracket or an offset past the text
abbrev pub unknown_token : ℕ
unknown_token = 23

-- order 9: the record given with a move is not the one after it
abbrev pub wrong_record : ℕ
wrong_record = 24

-- order 12: a counter of a FEN text that is missing, not one to four digits, or a move number of 0
abbrev pub bad_counter : ℕ
bad_counter = 25

-- 0 and the answer
abbrev pub accepted : ℕ → Answer
accepted v = record { number = 0; value = v }

-- a number other than 0 and 7, with the value 0
abbrev pub refused : ℕ → Answer
refused n = record { number = n; value = 0 }

-- order 3: an accepted text, and one that is refused at an offset
abbrev pub read_as : ℕ → Placed
read_as v = record { number = 0; value = v; offset = 0 }

abbrev pub fault_at : ℕ → ℕ → Placed
fault_at n offset = record { number = n; value = 0; offset = offset }

-- 7 and the length needed
abbrev pub too_short : ℕ → Answer
too_short n = record { number = output_too_short; value = n }

-- the value where the test holds, and 5 where it does not
abbrev pub in_range_or5 : Bool → ℕ → Answer
in_range_or5 ok v = cond ok (accepted v) (refused out_of_range)

-- a copy of any list to the front of a room: 7 with the list's length where the room is shorter, which is then left as it was; otherwise 0 with that length
abbrev pub items_answer : ℕ → ℕ → Answer
items_answer needed room = cond (leb needed room) (accepted needed) (too_short needed)

abbrev pub items_written : {A : Type 0} → List A → List A → List A
items_written items out = cond (leb (length items) (length out)) (items ++ drop (length items) out) out

-- a writer whose checks before 7 gave `check` (0: all passed) and whose text is `text`: that refusal; 7 with the length of the text where the
-- room is shorter; otherwise 0 with that length
unfoldable pub write_answer : ℕ → List ℕ → ℕ → Answer
write_answer check text room = cond (eqb check 0) (cond (leb (length text) room) (accepted (length text)) (too_short (length text))) (refused check)

-- the text over the front of the room
abbrev pub overwrite : List ℕ → List ℕ → List ℕ
overwrite text out = text ++ drop (length text) out

-- refused calls write nothing; a writer changes exactly the bytes of its text
unfoldable pub write_bytes : ℕ → List ℕ → List ℕ → List ℕ
write_bytes check text out = cond (eqb check 0 && leb (length text) (length out)) (overwrite text out) out
