-- What is promised about settled records, each as a statement that can be read by itself.
-- Assumes nothing.
use Rattle.std.specs.Prelude.{◌≡◌, Bool, true, false, ◌&&◌, ◌||◌, List, ℕ, zero, suc, ◌-◌, ◌≤◌, eqb, ltb}
use Rattle.answer.specs.Answer.{out_of_range}
use Rattle.square.specs.Piece.{man_on}
use Rattle.square.specs.Square.{square_of}
use Rattle.board_builder.specs.declared.BoardBuilder.{BoardBuilder}
use Rattle.board_builder.specs.declared.Stepped.{Stepped}
use Rattle.board_builder.specs.BoardBuilder.{with_counters, in_range}
use Rattle.board_builder.specs.Steps.{stepped}
use Rattle.chess_move.specs.Number.{source_of, dest_of}
use Rattle.move_rules.specs.After.{rank, steps_twice, board_after, after_answer}
use Rattle.settled_rules.specs.Settled.{stepped_rank, own_pawn, usable, with_file, settled, settled_answer}

-- the rule by the squares looked at: on that rank, on "file f - 1 or f + 1" where there is such a file
abbrev pub pawn_beside : List ℕ → ℕ → ℕ → Bool
pawn_beside squares side file =
    (ltb 1 file && eqb (man_on squares (square_of (stepped_rank side) (file - 2))) (own_pawn side))
    || (ltb file 8 && eqb (man_on squares (square_of (stepped_rank side) file)) (own_pawn side))

abbrev pub UsableByTheSquaresBeside : Type 0
UsableByTheSquaresBeside = (squares : List ℕ) (side file : ℕ) → 1 ≤ file → file ≤ 8 → usable squares side file ≡ pawn_beside squares side file

-- settling twice is settling once
abbrev pub SettledIsSettled : Type 0
SettledIsSettled = (b : BoardBuilder) → settled (settled b) ≡ settled b

-- every other number stays, the counters too; the file stays or is cleared
pub record OnlyTheFile (b : BoardBuilder) : Type 0 where
  pub pieces : (settled b).pieces ≡ b.pieces
  pub side : (settled b).side_to_move ≡ b.side_to_move
  pub white : (settled b).white_castle_rights ≡ b.white_castle_rights
  pub black : (settled b).black_castle_rights ≡ b.black_castle_rights
  pub half : (settled b).half_moves ≡ b.half_moves
  pub full : (settled b).full_moves ≡ b.full_moves
  pub kept : usable b.pieces b.side_to_move b.en_passant ≡ true → settled b ≡ b
  pub cleared : usable b.pieces b.side_to_move b.en_passant ≡ false → (settled b).en_passant ≡ 0

abbrev pub OthersStay : Type 0
OthersStay = (b : BoardBuilder) → OnlyTheFile b

-- and the counters are not looked at
abbrev pub WhateverTheCounters : Type 0
WhateverTheCounters = (b : BoardBuilder) (half full : ℕ) → settled (with_counters b half full) ≡ with_counters (settled b) half full

-- a record in range stays in range
abbrev pub StaysInRange : Type 0
StaysInRange = (b : BoardBuilder) → in_range b ≡ true → in_range (settled b) ≡ true

-- two records that are alike but for their files settle to one if neither file can be used; and only then, or if the files are one
pub record FilesSettle (b : BoardBuilder) (f g : ℕ) : Type 0 where
  pub alike : usable b.pieces b.side_to_move f ≡ false → usable b.pieces b.side_to_move g ≡ false
      → settled (with_file b f) ≡ settled (with_file b g)
  pub told : usable b.pieces b.side_to_move f ≡ true → settled (with_file b f) ≡ settled (with_file b g) → f ≡ g

abbrev pub UnusableFilesSettleAlike : Type 0
UnusableFilesSettleAlike = (b : BoardBuilder) (f g : ℕ) → FilesSettle b f g

-- a move as chess has it, as far as the file goes: if it is a double step, it is one of the side to move's own pawn from its second rank, counted from 0.
-- Every legal move is.
unfoldable pub home_rank : ℕ → ℕ
home_rank zero = 1
home_rank (suc n) = 6

abbrev pub StepsFromHome : BoardBuilder → ℕ → Type 0
StepsFromHome b m =
    steps_twice (man_on b.pieces (source_of m)) (source_of m) (dest_of m) ≡ true
    → (man_on b.pieces (source_of m) ≡ own_pawn b.side_to_move) × (rank (source_of m) ≡ home_rank b.side_to_move)

-- the record after such a move is settled, so positions that are played need nothing
abbrev pub PlayedIsSettled : Type 0
PlayedIsSettled = (b : BoardBuilder) (m : ℕ) → in_range b ≡ true → StepsFromHome b m → settled (board_after b m) ≡ board_after b m

-- ---- the call

-- 5 for a record out of range, handed back; else the settled record, of which the call makes nothing else
pub record SettlesOrHandsBack (call : BoardBuilder → Stepped) : Type 0 where
  pub out_of_range_fact : (b : BoardBuilder) → in_range b ≡ false → call b ≡ stepped out_of_range b
  pub computed : (b : BoardBuilder) → in_range b ≡ true → call b ≡ stepped 0 (settled b)
  pub again : (b : BoardBuilder) → call (call b).board ≡ call b

abbrev pub CallSettles : Type 0
CallSettles = SettlesOrHandsBack settled_answer

-- to a record that the call for a move has handed out, after such a move, it answers as that call did
abbrev pub PlayedStaysAsItIs : Type 0
PlayedStaysAsItIs =
    (b : BoardBuilder) (m : ℕ) → (after_answer b m).number ≡ 0 → StepsFromHome b m → settled_answer (after_answer b m).board ≡ after_answer b m
