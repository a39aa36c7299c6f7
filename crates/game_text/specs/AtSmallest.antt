-- Games at their smallest: a white pawn on e2, a black one on e7, and a host that lends e2e4 and e7e5 for every record.
-- Assumes nothing.
use Prim.Native.String.{String}
use Rattle.std.specs.Prelude.{◌≡◌, [], ◌∷◌, ◌++◌, replicate}
use Rattle.answer.specs.Ascii.{ascii}
use Rattle.board_builder.specs.declared.BoardBuilder.{BoardBuilder}
use Rattle.board_builder.specs.BoardBuilder.{board, board_counted}
use Rattle.move_rules.specs.AtSmallest.{two_men, move}
use Rattle.game_text.specs.Game.{Lends, Game, plays, over, refuses, game, positions_of}
use Rattle.san_text.specs.Standard.{read_standard}
use Rattle.game_text.specs.Narrowed.{speaks_of, only}
use Rattle.game_text.specs.Step.{step_end, step_refused, step_played, play_answer, play_bytes, game_step, game_step_bytes}

abbrev pub two_pawns : BoardBuilder
two_pawns = board (two_men 12 1 52 7) 0 0 0 0

abbrev pub after_one : BoardBuilder
after_one = board (two_men 28 1 52 7) 1 0 0 0

abbrev pub after_two : BoardBuilder
after_two = board_counted (two_men 28 1 36 7) 0 0 0 0 0 2

abbrev pub lent : Lends
lent b = move 12 28 ∷ move 52 36 ∷ []

-- the game of a text from two pawns
abbrev pub Plays : String → Game → Type 0
Plays text g = game lent two_pawns (ascii text) ≡ g

pub record GameRows : Type 0 where
  -- each move of level 0 once, in order, each from the record after the one before; those of a variation are not played
  pub played : Plays "1. e4 (e5) e5 *" (plays 3 2 (move 12 28) after_one (plays 11 2 (move 52 36) after_two (over 0 0)))
  pub positions : positions_of (game lent two_pawns (ascii "e4 e5")) ≡ after_one ∷ after_two ∷ []
  pub nothing : Plays "1-0 e4" (over 0 0)
  -- a move that is refused ends the game, at its text; what the walk refuses ends it at its own offset
  pub refused : Plays "e4 d5 e5" (plays 0 2 (move 12 28) after_one (refuses 4 3 2))
  pub unknown : Plays "e4 (e5 % e5" (plays 0 2 (move 12 28) after_one (over 23 7))
  pub left_open_fact : Plays "e4 (e5" (plays 0 2 (move 12 28) after_one (over 21 3))
  -- the record is looked at with the first move
  pub out_of_range_fact : game lent (board [] 0 0 0 0) (ascii "e4") ≡ refuses 5 0 2
  pub not_looked_at : game lent (board [] 0 0 0 0) (ascii "") ≡ over 0 0

pub record StepRows : Type 0 where
  -- the move, the record after it, and its key in the room
  pub stepped : game_step (ascii "e4 (e4) e5") 2 after_one (lent after_one) 29 ≡ step_played 8 2 (move 52 36) 29 after_two
  pub key : game_step_bytes (ascii "e4 (e4) e5") 2 after_one (lent after_one) (replicate 30 0) ≡ ascii "8/8/8/4p3/4P3/8/8/8 w - - 0 1" ++ (0 ∷ [])
  -- the walk first, then whether a move is left; then 5, 6, 4, 7
  pub walk_first : game_step (ascii "e4 %") 2 (board [] 0 0 0 0) [] 0 ≡ step_end 23 3 (board [] 0 0 0 0)
  pub none_left_lem : game_step (ascii "e4 *") 2 (board [] 0 0 0 0) [] 0 ≡ step_end 0 0 (board [] 0 0 0 0)
  pub five : game_step (ascii "e4") 0 (board [] 0 0 0 0) (28672 ∷ []) 0 ≡ step_refused 5 0 2 0 (board [] 0 0 0 0)
  pub six : game_step (ascii "e3") 0 two_pawns (28672 ∷ []) 0 ≡ step_refused 6 0 2 0 two_pawns
  pub four : game_step (ascii "e3") 0 two_pawns (lent two_pawns) 0 ≡ step_refused 4 0 2 0 two_pawns
  pub seven : game_step (ascii "e4") 0 two_pawns (lent two_pawns) 28 ≡ step_refused 7 0 2 29 two_pawns
  -- a refused step writes nothing
  pub unwritten : game_step_bytes (ascii "e4") 0 two_pawns (lent two_pawns) (replicate 28 0) ≡ replicate 28 0

pub record PlayRows : Type 0 where
  -- the whole text is one move, from byte 0
  pub played : play_answer (ascii "e5") after_one (lent after_one) 29 ≡ step_played 0 2 (move 52 36) 29 after_two
  pub written : play_bytes (ascii "e5") after_one (lent after_one) (replicate 30 0) ≡ ascii "8/8/8/4p3/4P3/8/8/8 w - - 0 1" ++ (0 ∷ [])
  -- nothing before it or behind it is passed over
  pub blank : play_answer (ascii " e5") after_one (lent after_one) 29 ≡ step_refused 4 0 3 0 after_one
  pub two : play_answer (ascii "e5 e4") after_one (lent after_one) 29 ≡ step_refused 4 0 5 0 after_one
  pub nothing : play_answer [] after_one (lent after_one) 29 ≡ step_refused 4 0 0 0 after_one
  -- 5, 6, 4, 7
  pub five_first : play_answer (ascii "e3") (board [] 0 0 0 0) (28672 ∷ []) 0 ≡ step_refused 5 0 2 0 (board [] 0 0 0 0)
  pub six_next : play_answer (ascii "e3") two_pawns (28672 ∷ []) 0 ≡ step_refused 6 0 2 0 two_pawns
  pub four_then : play_answer (ascii "e3") two_pawns (lent two_pawns) 0 ≡ step_refused 4 0 2 0 two_pawns
  pub seven_last : play_answer (ascii "e4") two_pawns (lent two_pawns) 28 ≡ step_refused 7 0 2 29 two_pawns
  pub left_alone : play_bytes (ascii "e4") two_pawns (lent two_pawns) (replicate 28 0) ≡ replicate 28 0

pub record NarrowRows : Type 0 where
  -- of what is lent a text speaks of what fits: one entry, or none; equal entries each
  pub fitting : only (speaks_of two_pawns (read_standard (ascii "e4"))) (lent two_pawns) ≡ move 12 28 ∷ []
  pub none : only (speaks_of two_pawns (read_standard (ascii "Ke4"))) (lent two_pawns) ≡ []
  pub twice : only (speaks_of two_pawns (read_standard (ascii "e4"))) (lent two_pawns ++ lent two_pawns) ≡ move 12 28 ∷ move 12 28 ∷ []
  -- the castling text speaks of one move only
  pub castling : only (speaks_of two_pawns (read_standard (ascii "O-O"))) (move 4 6 ∷ move 4 2 ∷ []) ≡ move 4 6 ∷ []
