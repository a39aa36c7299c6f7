-- What is promised about the legal moves, each as a statement that can be read by itself.
-- Assumes nothing.
use Rattle.std.specs.Prelude.{◌≡◌, Bool, true, false, ◌&&◌, List, [], ◌∷◌, ℕ, ◌≤◌, ltb}
use Rattle.answer.specs.Numbers.{among}
use Rattle.board_builder.specs.declared.BoardBuilder.{BoardBuilder}
use Rattle.chess_move.specs.Number.{last_move}
use Rattle.move_laws.specs.Legal.{is_legal, legal_moves, leaves_check}

-- a move is in the list exactly if it is legal
abbrev pub ListsLegal : Type 0
ListsLegal = (b : BoardBuilder) (m : ℕ) → m ≤ last_move → among m (legal_moves b) ≡ is_legal b m

-- no number over the last move is in it
abbrev pub ListsMoves : Type 0
ListsMoves = (b : BoardBuilder) (m : ℕ) → among m (legal_moves b) ≡ true → m ≤ last_move

-- each number is under the next, so that none is there twice
unfoldable pub rises_from : ℕ → List ℕ → Bool
rises_from m [] = true
rises_from m (x ∷ xs) = ltb m x && rises_from x xs

unfoldable pub rises : List ℕ → Bool
rises [] = true
rises (x ∷ xs) = rises_from x xs

abbrev pub ListRises : Type 0
ListRises = (b : BoardBuilder) → rises (legal_moves b) ≡ true

-- 3.9.2: the record after a legal move does not leave the mover's king attacked
abbrev pub KingSafe : Type 0
KingSafe = (b : BoardBuilder) (m : ℕ) → is_legal b m ≡ true → leaves_check b m ≡ false
