-- One step through a game's move text: the next move of level 0 from a place, read over a lent list, played, and the key of the record after it written.
-- The checks are those of four calls in turn: 22, 23, 21 of the walk; none left; 5, 6, 4 of the reader; 7 of the writer. A refused step hands its
-- record back.
-- Assumes nothing.
use Rattle.std.specs.Prelude.{ℕ, zero, suc, ◌+◌, cond, List, [], ◌∷◌, eqb, length}
use Rattle.answer.specs.declared.Answer.{Answer}
use Rattle.answer.specs.Answer.{write_answer, write_bytes}
use Rattle.board_builder.specs.declared.BoardBuilder.{BoardBuilder}
use Rattle.fen_text.specs.Write.{fen_text, fen_check}
use Rattle.pgn_text.specs.declared.PgnMove.{PgnMove}
use Rattle.pgn_text.specs.Walk.{part}
use Rattle.san_text.specs.Standard.{from_san_standard}
use Rattle.move_rules.specs.After.{board_after}
use Rattle.game_text.specs.declared.GameStep.{GameStep}
use Rattle.pgn_text.specs.Main.{next_main}
use Rattle.game_text.specs.Game.{Lends, Game, plays, over, refuses}

-- no move: none is left, or a refusal of the walk
abbrev pub step_end : ℕ → ℕ → BoardBuilder → GameStep
step_end number offset b = record { number = number; offset = offset; found = 0; start = 0; length = 0; played = 0; key = 0; board = b }

-- a move that is refused, or whose key does not fit the room
abbrev pub step_refused : ℕ → ℕ → ℕ → ℕ → BoardBuilder → GameStep
step_refused number start size needed b =
    record { number = number; offset = start; found = 1; start = start; length = size; played = 0; key = needed; board = b }

abbrev pub step_played : ℕ → ℕ → ℕ → ℕ → BoardBuilder → GameStep
step_played start size m key c = record { number = 0; offset = 0; found = 1; start = start; length = size; played = m; key = key; board = c }

-- by what the writer answers
unfoldable pub step_written : ℕ → ℕ → ℕ → BoardBuilder → BoardBuilder → Answer → GameStep
step_written start size m b c w = cond (eqb w.number 0) (step_played start size m w.value c) (step_refused w.number start size w.value b)

-- what the writer answers to a record
abbrev pub key_answer : BoardBuilder → ℕ → Answer
key_answer c room = write_answer (fen_check c) (fen_text c) room

-- by what the reader answers
unfoldable pub step_read : ℕ → ℕ → BoardBuilder → ℕ → Answer → GameStep
step_read start size b room a =
    cond (eqb a.number 0)
    (step_written start size a.value b (board_after b a.value) (key_answer (board_after b a.value) room))
    (step_refused a.number start size 0 b)

unfoldable pub bytes_read : BoardBuilder → List ℕ → Answer → List ℕ
bytes_read b out a =
    cond (eqb a.number 0) (write_bytes (fen_check (board_after b a.value)) (fen_text (board_after b a.value)) out) out

-- one move text, played from any record: the call of whoever plays variations
unfoldable pub play_answer : List ℕ → BoardBuilder → List ℕ → ℕ → GameStep
play_answer said b moves room = step_read 0 (length said) b room (from_san_standard b moves said)

unfoldable pub play_bytes : List ℕ → BoardBuilder → List ℕ → List ℕ → List ℕ
play_bytes said b moves out = bytes_read b out (from_san_standard b moves said)

-- by what the walk answers
abbrev pub read_at : List ℕ → BoardBuilder → List ℕ → PgnMove → Answer
read_at text b moves n = from_san_standard b moves (part text n.start n.length)

unfoldable pub step_from : List ℕ → BoardBuilder → List ℕ → ℕ → PgnMove → GameStep
step_from text b moves room n =
    cond (eqb n.found 0) (step_end n.number n.offset b) (step_read n.start n.length b room (read_at text b moves n))

unfoldable pub bytes_from : List ℕ → BoardBuilder → List ℕ → List ℕ → PgnMove → List ℕ
bytes_from text b moves out n = cond (eqb n.found 0) out (bytes_read b out (read_at text b moves n))

-- the call: what it answers, and what it leaves in the room
unfoldable pub game_step : List ℕ → ℕ → BoardBuilder → List ℕ → ℕ → GameStep
game_step text offset b moves room = step_from text b moves room (next_main text offset)

unfoldable pub game_step_bytes : List ℕ → ℕ → BoardBuilder → List ℕ → List ℕ → List ℕ
game_step_bytes text offset b moves out = bytes_from text b moves out (next_main text offset)

-- ---- stepping

abbrev pub Step : Type 0
Step = List ℕ → ℕ → BoardBuilder → List ℕ → ℕ → GameStep

-- n + 1 steps in a row, each but the first from where the one before ended and from its record, over the list that is lent for it
unfoldable pub stepping : Step → Lends → List ℕ → ℕ → ℕ → ℕ → BoardBuilder → List GameStep
stepping step lends text room zero offset b = step text offset b (lends b) room ∷ []
stepping step lends text room (suc n) offset b =
    let s = step text offset b (lends b) room in
    s ∷ stepping step lends text room n (s.start + s.length) s.board

-- the answers that a game asks for: one per move, and one for its end
unfoldable pub answers_of : BoardBuilder → Game → List GameStep
answers_of b (plays start size m c g) = step_played start size m (length (fen_text c)) c ∷ answers_of c g
answers_of b (over number offset) = step_end number offset b ∷ []
answers_of b (refuses number start size) = step_refused number start size 0 b ∷ []
