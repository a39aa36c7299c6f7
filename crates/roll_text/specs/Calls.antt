-- What the two calls answer and leave in the lent part or room.
-- Assumes nothing.
use Rattle.std.specs.Prelude.{ℕ, zero, suc, ◌*◌, Bool, true, false, cond, List, eqb, ltb, length, get_or}
use Rattle.answer.specs.Answer.{out_of_range, log_full, part_too_short, bad_roll, overwrite}
use Rattle.board_builder.specs.declared.BoardBuilder.{BoardBuilder}
use Rattle.board_builder.specs.BoardBuilder.{no_board, in_range}
use Rattle.action.specs.Layout.{action_size}
use Rattle.actions.specs.Part.{actions_held}
use Rattle.game_rules.specs.Limits.{Limits, actions_length}
use Rattle.roll_text.specs.declared.Fields.{Fields}
use Rattle.roll_text.specs.declared.Roll.{Roll}
use Rattle.roll_text.specs.Roll.{Front, stopped, front, Acts, halted, acts, Rolled, refusal, rolled, kind_at, colour_at, move_number_at}
use Rattle.roll_text.specs.Roll.{start_from, start_board, roll_text, read_by}

abbrev pub fields_at : List ℕ → Fields
fields_at bs = record { kind = kind_at bs; colour = colour_at bs; number = move_number_at bs }

-- ---- the reader

-- the refusal of each stage, 0 where it passes
unfoldable pub front_number : Front → ℕ
front_number (stopped k) = k
front_number (front numbers s) = 0

unfoldable pub acts_number : Acts → ℕ
acts_number (halted k) = k
acts_number (acts bs) = 0

-- actions are written over the front of the part, all or none
unfoldable pub acts_over : Acts → List ℕ → List ℕ
acts_over (halted k) part = part
acts_over (acts bs) part = overwrite bs part

unfoldable pub roll_answer : Rolled → Roll
roll_answer (refusal k) = record { number = k; actions = 0; board = no_board }
roll_answer (rolled st n bs) = record { number = 0; actions = n; board = start_board st }

unfoldable pub roll_over : Rolled → List ℕ → List ℕ
roll_over (refusal k) part = part
roll_over (rolled st n bs) part = overwrite bs part

-- 16 for a part that is too short, before the text is looked at
unfoldable pub judged_by : Bool → Limits → List ℕ → ℕ → Rolled
judged_by counted L s room = cond (ltb room (actions_length L)) (refusal part_too_short) (read_by counted L s)

abbrev pub judged : Limits → List ℕ → ℕ → Rolled
judged L s room = judged_by true L s room

abbrev pub judged_old : Limits → List ℕ → ℕ → Rolled
judged_old L s room = judged_by false L s room

-- ---- the writer: 16, 5, 13 for the count, then for the moves, 17; then 7, which any writer of texts has

-- how many of the first n actions are of kind 1: 13 stands before 17, so that what else a move's bytes say is not judged yet
unfoldable pub moves_by_kind : List ℕ → ℕ → ℕ
moves_by_kind part zero = 0
moves_by_kind part (suc i) = cond (eqb (get_or part (action_size * i) 0) 1) (suc (moves_by_kind part i)) (moves_by_kind part i)

unfoldable pub write_check : Limits → BoardBuilder → List ℕ → ℕ → ℕ
write_check L b part n =
    cond (ltb (length part) (actions_length L)) part_too_short
    (cond (in_range b)
    (cond (ltb L.most_actions n) log_full
    (cond (ltb L.most_moves (moves_by_kind part n)) log_full
    (cond (actions_held part n) 0 bad_roll)))
    out_of_range)

abbrev pub game_text : BoardBuilder → List ℕ → ℕ → List ℕ
game_text b part n = roll_text (start_from b) n part

-- no refusal
unfoldable pub is_acts : Acts → Bool
is_acts (halted k) = false
is_acts (acts bs) = true
