-- A form of SAN, and what any form's reader answers. Document 01 has one form; order 6 adds a second. What both share is said and proved once, over a form.
-- Assumes nothing.
use Rattle.std.specs.Prelude.{ℕ, Bool, cond, List, Some, None}
use Rattle.std.proofs.Math.Option.{Option}
use Rattle.answer.specs.declared.Answer.{Answer}
use Rattle.answer.specs.Answer.{refused, out_of_range, bad_list, invalid_san_move}
use Rattle.board_builder.specs.declared.BoardBuilder.{BoardBuilder}
use Rattle.board_builder.specs.BoardBuilder.{in_range}
use Rattle.move_list.specs.MoveList.{list_in_range}
use Rattle.san_text.specs.declared.San.{San}
use Rattle.san_text.specs.declared.SanText.TheVariants.{KingSide, QueenSide, Move}
use Rattle.san_text.specs.Text.{Said}
use Rattle.san_text.specs.Resolve.{fits, sole_that, castle}

-- how a text is read, the capture rule, on which boards a castling text is taken, the text of a move with or without the source's file and rank, and
-- the last resort by the castling text that there may be
pub record Form : Type 0 where
  pub read : List ℕ → Said
  pub captures : List ℕ → San → ℕ → Bool
  pub castles : BoardBuilder → Bool
  pub text : List ℕ → ℕ → Bool → Bool → List ℕ
  pub resort : Option (List ℕ) → Option (List ℕ)

-- castling to a file, where the form takes it
unfoldable pub castled : Form → BoardBuilder → List ℕ → ℕ → Answer
castled F b moves file = cond (F.castles b) (castle b.side_to_move moves file) (refused invalid_san_move)

-- what a text that was read resolves to
unfoldable pub resolved : Form → BoardBuilder → List ℕ → Said → Answer
resolved F b moves (Some KingSide) = castled F b moves 6
resolved F b moves (Some QueenSide) = castled F b moves 2
resolved F b moves (Some (Move t)) = sole_that (fits b.pieces t) (F.captures b.pieces t) moves
resolved F b moves None = refused invalid_san_move

-- the answer to a record, a list and a text: the checks 5, 6, then 4
unfoldable pub read_answer : Form → BoardBuilder → List ℕ → List ℕ → Answer
read_answer F b moves text =
    cond (in_range b) (cond (list_in_range moves) (resolved F b moves (F.read text)) (refused bad_list)) (refused out_of_range)
