-- The record that the call hands out is in range unless the one given was not, and so reads back.
-- Assumes nothing.
use mathlib.Core.Path.{◌≡◌, refl, ap}
use mathlib.Core.Bool.{Bool, true, false, cond}
use Prim.Native.Nat.{ℕ}
use lib.Dec.{leb}
use borrow.Author.Tests.{leb-true}
use Rattle.answer.specs.Answer.{out_of_range, bad_list}
use Rattle.board_builder.specs.declared.BoardBuilder.{BoardBuilder}
use Rattle.board_builder.specs.declared.Stepped.{Stepped}
use Rattle.board_builder.specs.BoardBuilder.{in_range}
use Rattle.board_builder.specs.Steps.{stepped}
use Rattle.chess_move.specs.Number.{last_move}
use Rattle.fen_text.proofs.Hollow.{fen_reads_back}
use Rattle.move_rules.specs.After.{board_after, after_answer}
use Rattle.move_rules.proofs.Ranges.{after_in_range}
use Rattle.key_after.specs.Promises.{NextIsAKey}

abbrev answered : BoardBuilder → ℕ → Bool → Bool → Stepped
answered b m x y = cond x (cond y (stepped 0 (board_after b m)) (stepped bad_list b)) (stepped out_of_range b)

handed_in_range : (b : BoardBuilder) (m : ℕ) → ((after_answer b m).number ≡ out_of_range → ⊥) → in_range (after_answer b m).board ≡ true
unfolding after_answer
handed_in_range b m n = go (in_range b) refl (leb m last_move) refl n
  where
    go : (x : Bool) → in_range b ≡ x → (y : Bool) → leb m last_move ≡ y → ((answered b m x y).number ≡ out_of_range → ⊥)
        → in_range (answered b m x y).board ≡ true
    go true e true f n = after_in_range b m e (leb-true m last_move f)
    go true e false f n = e
    go false e y f n = absurd (n refl)

pub next_is_a_key : NextIsAKey
next_is_a_key b m out n long = fen_reads_back (after_answer b m).board out (handed_in_range b m n) long
