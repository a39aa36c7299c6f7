-- A reader of coordinate texts that always refuses keeps neither demand 2 nor the read-back: `e2e4` is read. And the lengths told for a move's text.
-- Assumes nothing.
use mathlib.Core.Path.{◌≡◌, refl, ap, ◌∙◌}
use mathlib.Core.List.{List}
use Prim.Native.Nat.{ℕ}
use native.Mathlib.Omega.{arith}
use lib.Dec.{leb, lit≤}
use lib.ListN.{replicate}
use Rattle.answer.specs.declared.Placed.{Placed}
use Rattle.answer.specs.Answer.{read_as, bad_list}
use Rattle.answer.specs.Ascii.{ascii}
use Rattle.square.specs.Square.{read_square}
use Rattle.answer.proofs.ItsText.{writers_keep_its_text, passed_or}
use Rattle.chess_move.specs.Number.{last_move}
use Rattle.chess_move.specs.Coordinate.{with_dest, with_source, read_move, move_text, move_check}
use Rattle.chess_move.specs.Promises.{RefusingReaderFails, MoveTellsItsLength}

-- e2 to e4, without promotion, and a room for any move
abbrev move : ℕ
move = 1804

abbrev room : List ℕ
room = replicate 5 0

reads : read_move (ascii "e2e4") ≡ read_as move
unfolding ascii read_square with_dest with_source read_move
reads = refl

number : (a : Placed) (n : ℕ) → a ≡ read_as n → a.number ≡ 0
number a n e = ap (λ (r : Placed). r.number) e

pub refusing_reader_fails : RefusingReaderFails
refusing_reader_fails read refuses =
    record {
      to_read = λ keeps. refuses (ascii "e2e4") (number (read (ascii "e2e4")) move (keeps (ascii "e2e4") ∙ reads));
      to_read_back = λ keeps. refuses _ (number _ move (keeps move room (lit≤ tt) (lit≤ tt)).back);
    }

pub move_tells_its_length : MoveTellsItsLength
move_tells_its_length n = writers_keep_its_text (move_check n) (move_text n) (passed_or (leb n last_move) bad_list (λ z. omega arith))
