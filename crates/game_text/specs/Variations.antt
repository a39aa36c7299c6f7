-- The positions of a game with its variations. A move of a variation is played from the record before the last move of the sequence that the
-- variation stands in;
-- which variation a move belongs to is told by the brackets between it and the move before it.
-- Assumes nothing.
use Rattle.std.specs.Prelude.{ℕ, zero, suc, ◌+◌, ◌≡◌, List, [], ◌∷◌, drop}
use Prim.Native.String.{String}
use Rattle.answer.specs.Ascii.{ascii}
use Rattle.board_builder.specs.declared.BoardBuilder.{BoardBuilder}
use Rattle.board_builder.specs.BoardBuilder.{board, board_counted, empty_board}
use Rattle.move_rules.specs.AtSmallest.{two_men, move}
use Rattle.pgn_text.specs.declared.Crossed.{Crossed}
use Rattle.pgn_text.specs.Walk.{Walk, found, ended, walk_from, part}
use Rattle.pgn_text.specs.Between.{crossed_from}
use Rattle.san_text.specs.Standard.{from_san_standard}
use Rattle.game_text.specs.Game.{Lends, Game, plays, over, refuses, played_on}
use Rattle.game_text.specs.AtSmallest.{two_pawns, after_one, after_two}

-- a sequence that is being played: the record before its last move, and the one after it; both are its start as long as it has no move
pub data Line : Type 0 where
  line : BoardBuilder → BoardBuilder → Line

-- the open sequences, the innermost first
abbrev pub Lines : Type 0
Lines = List Line

-- brackets opened: each begins a sequence at the record before the last move of the one that it stands in
unfoldable pub entered : ℕ → Lines → Lines
entered zero ls = ls
entered (suc n) [] = []
entered (suc n) (line before now ∷ ls) = entered n (line before before ∷ line before now ∷ ls)

-- brackets closed, then opened
abbrev pub crossed_lines : Crossed → Lines → Lines
crossed_lines x ls = entered x.opened (drop x.closed ls)

-- the record that a move is played from, and the lines when it has been played
unfoldable pub plays_from : Lines → BoardBuilder
plays_from [] = empty_board
plays_from (line before now ∷ ls) = now

unfoldable pub moved_on : BoardBuilder → Lines → Lines
moved_on c [] = []
moved_on c (line before now ∷ ls) = line now c ∷ ls

-- the game with all its variations, from a place with the sequences that are open there
unfoldable pub variations_of : Lends → List ℕ → ℕ → Lines → Walk → Game
variations_of lends text place ls (ended number offset) = over number offset
variations_of lends text place ls (found start size level w) =
    let ks = crossed_lines (crossed_from text place) ls in
    played_on (from_san_standard (plays_from ks) (lends (plays_from ks)) (part text start size)) start size (plays_from ks)
    (λ c. variations_of lends text (start + size) (moved_on c ks) w)

abbrev pub whole_game : Lends → BoardBuilder → List ℕ → Game
whole_game lends b text = variations_of lends text 0 (line b b ∷ []) (walk_from text 0 0)

-- ---- at its smallest: two pawns, and a host that lends e2e4, e2e3, e7e5 and e7e6
abbrev pub lent_more : Lends
lent_more b = move 12 28 ∷ move 12 20 ∷ move 52 36 ∷ move 52 44 ∷ []

abbrev pub PlaysAll : String → Game → Type 0
PlaysAll text g = whole_game lent_more two_pawns (ascii text) ≡ g

-- after e3, after e3 e5, after e4 e6
abbrev pub slow : BoardBuilder
slow = board (two_men 20 1 52 7) 1 0 0 0

abbrev pub slow_answered : BoardBuilder
slow_answered = board_counted (two_men 20 1 36 7) 0 0 0 0 0 2

abbrev pub slow_answer : BoardBuilder
slow_answer = board_counted (two_men 28 1 44 7) 0 0 0 0 0 2

pub record VariationRows : Type 0 where
  -- a variation goes from the record before the move that it stands behind; behind it the sequence goes on
  pub from_before : PlaysAll "e4 (e3 e5) e5"
      (plays 0 2 (move 12 28) after_one (plays 4 2 (move 12 20) slow (plays 7 2 (move 52 36) slow_answered (plays 11 2 (move 52 36) after_two (over 0 0)))))
  -- two variations behind one move both go from the record before it; one with the same moves in a row does not
  pub two : PlaysAll "e4 (e3) (e3)" (plays 0 2 (move 12 28) after_one (plays 4 2 (move 12 20) slow (plays 9 2 (move 12 20) slow (over 0 0))))
  pub one : PlaysAll "e4 (e3 e3)" (plays 0 2 (move 12 28) after_one (plays 4 2 (move 12 20) slow (refuses 4 7 2)))
  -- a variation in a variation
  pub nested : PlaysAll "e4 e5 (e6 (e5))"
      (plays 0 2 (move 12 28) after_one (plays 3 2 (move 52 36) after_two (plays 7 2 (move 52 44) slow_answer (plays 11 2 (move 52 36) after_two (over 0 0)))))
