-- A lent list and a lent in-check byte, judged: what is owed, and the first thing that is wrong.
-- Assumes nothing.
use Rattle.std.specs.Prelude.{ℕ, ◌+◌, ◌-◌, cond, List, [], ◌∷◌, eqb, leb, length}
use Rattle.answer.specs.Answer.{out_of_range, bad_list}
use Rattle.answer.specs.Numbers.{among}
use Rattle.board_builder.specs.declared.BoardBuilder.{BoardBuilder}
use Rattle.board_builder.specs.BoardBuilder.{in_range}
use Rattle.move_list.specs.MoveList.{longest_list, list_in_range}
use Rattle.move_laws.specs.Legal.{legal_moves, check_byte}
use Rattle.move_laws.specs.declared.Judged.{Judged}

abbrev pub judged_as : ℕ → ℕ → ℕ → ℕ → ℕ → Judged
judged_as number byte entries wrong move = record { number = number; in_check = byte; entries = entries; wrong = wrong; named = move }

-- one more than the first entry that is not in a list, 0 if there is none
unfoldable pub outside_at : List ℕ → List ℕ → ℕ
outside_at list [] = 0
outside_at list (x ∷ xs) = cond (among x list) (outside_at list xs) (x + 1)

-- one more than the first entry that comes again, 0 if there is none
unfoldable pub twice_at : List ℕ → ℕ
twice_at [] = 0
twice_at (x ∷ xs) = cond (among x xs) (x + 1) (twice_at xs)

-- 1 an entry that is not legal, 2 an entry twice, 3 a legal move that is missing, 4 the byte, in this order; otherwise 0
unfoldable pub judgement : ℕ → ℕ → List ℕ → List ℕ → Judged
judgement owed given legal list =
    cond (eqb (outside_at legal list) 0)
    (cond (eqb (twice_at list) 0)
    (cond (eqb (outside_at list legal) 0)
    (cond (eqb given owed) (judged_as 0 owed (length legal) 0 0) (judged_as 0 owed (length legal) 4 0))
    (judged_as 0 owed (length legal) 3 (outside_at list legal - 1)))
    (judged_as 0 owed (length legal) 2 (twice_at list - 1)))
    (judged_as 0 owed (length legal) 1 (outside_at legal list - 1))

-- 5 for the record or the byte; 6 for the list, or for more legal moves than a list may have
unfoldable pub judged_answer : BoardBuilder → ℕ → List ℕ → Judged
judged_answer b byte list =
    cond (in_range b)
    (cond (leb byte 1)
    (cond (list_in_range list)
    (cond (leb (length (legal_moves b)) longest_list) (judgement (check_byte b) byte (legal_moves b) list) (judged_as bad_list 0 0 0 0))
    (judged_as bad_list 0 0 0 0))
    (judged_as out_of_range 0 0 0 0))
    (judged_as out_of_range 0 0 0 0)
