-- The record after a move is a key: what the call of order 9 hands out, accepted or refused for its move, is written as one FEN that reads back.
-- Assumes nothing.
use Rattle.std.specs.Prelude.{◌≡◌, List, ℕ, ◌≤◌, length}
use Rattle.answer.specs.Answer.{out_of_range}
use Rattle.board_builder.specs.declared.BoardBuilder.{BoardBuilder}
use Rattle.fen_text.specs.Promises.{crate_pair, BackAgain}
use Rattle.move_rules.specs.After.{after_answer}

abbrev pub NextIsAKey : Type 0
NextIsAKey = (b : BoardBuilder) (m : ℕ) (out : List ℕ) → ((after_answer b m).number ≡ out_of_range → ⊥) → 85 ≤ length out
    → BackAgain crate_pair (after_answer b m).board out
