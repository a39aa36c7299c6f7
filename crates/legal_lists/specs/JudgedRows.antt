-- A judgement in numbers: the answer, the byte and the number of moves that are owed, what is wrong, and the move that is told. And what the writers of a list
-- and of the byte answer.
-- Assumes nothing.
use Rattle.std.specs.Prelude.{ℕ, ◌≡◌, true, false, [], ◌∷◌}
use Rattle.board_builder.specs.BoardBuilder.{no_board, empty_board}
use Rattle.move_laws.specs.declared.Judged.{Judged}
use Rattle.move_laws.specs.Judge.{outside_at, twice_at, judgement, judged_answer}
use Rattle.move_laws.specs.Legal.{kept_if, legal_from, leaves_check, list_check, check_byte, check_answer}
use Rattle.move_laws.specs.Promises.{rises_from, rises}
use Rattle.move_laws.specs.AtSmallest.{white, black, to}

abbrev pub judged_is : ℕ → ℕ → ℕ → ℕ → ℕ → Judged
judged_is number byte entries wrong move = record { number = number; in_check = byte; entries = entries; wrong = wrong; named = move }

pub record JudgedInNumbers : Type 0 where
  pub nothing_wrong : judgement 1 1 (7 ∷ 8 ∷ []) (8 ∷ 7 ∷ []) ≡ judged_is 0 1 2 0 0
  pub not_legal : judgement 1 0 (7 ∷ 8 ∷ []) (8 ∷ 6 ∷ []) ≡ judged_is 0 1 2 1 6
  pub twice : judgement 1 0 (7 ∷ 8 ∷ []) (8 ∷ 8 ∷ []) ≡ judged_is 0 1 2 2 8
  pub missing : judgement 1 0 (7 ∷ 8 ∷ []) (8 ∷ []) ≡ judged_is 0 1 2 3 7
  pub byte : judgement 1 0 (7 ∷ 8 ∷ []) (8 ∷ 7 ∷ []) ≡ judged_is 0 1 2 4 0
  pub no_record : judged_answer no_board 0 [] ≡ judged_is 5 0 0 0 0
  pub no_byte : judged_answer empty_board 2 [] ≡ judged_is 5 0 0 0 0
  pub no_list : judged_answer empty_board 1 (28672 ∷ []) ≡ judged_is 6 0 0 0 0
  -- one more than the entry, 0 for none
  pub outside : outside_at (7 ∷ 8 ∷ []) (8 ∷ 9 ∷ []) ≡ 10
  pub none_outside : outside_at (7 ∷ 8 ∷ []) (8 ∷ 7 ∷ []) ≡ 0
  pub again : twice_at (7 ∷ 8 ∷ 7 ∷ []) ≡ 8
  pub none_again : twice_at (7 ∷ 8 ∷ []) ≡ 0

-- a king on a1: a1b1 is 64, a1a2 is 512, a1b2 is 576
pub record ListsInNumbers : Type 0 where
  pub kept : kept_if true 7 (8 ∷ []) ≡ 7 ∷ 8 ∷ []
  pub left_out : kept_if false 7 (8 ∷ []) ≡ 8 ∷ []
  pub of_two : legal_from (white (0 ∷ 6 ∷ []) 0 0) 2 63 ≡ 64 ∷ []
  pub of_one : legal_from (white (0 ∷ 6 ∷ []) 0 0) 1 63 ≡ []
  pub no_record_listed : list_check no_board ≡ 5
  -- a rook on e8 gives check on e1, and none on d1
  pub in_check_fact : check_byte (white (4 ∷ 6 ∷ 60 ∷ 10 ∷ []) 0 0) ≡ 1
  pub in_no_check : check_byte (white (3 ∷ 6 ∷ 60 ∷ 10 ∷ []) 0 0) ≡ 0
  pub black_in_check : check_byte (black (60 ∷ 12 ∷ 4 ∷ 4 ∷ []) 0 0) ≡ 1
  pub said : check_answer (white (4 ∷ 6 ∷ 60 ∷ 10 ∷ []) 0 0) ≡ record { number = 0; value = 1 }
  pub not_said : check_answer no_board ≡ record { number = 5; value = 0 }
  pub leaves : leaves_check (white (4 ∷ 6 ∷ 60 ∷ 10 ∷ []) 0 0) (to 4 12) ≡ true
  pub leaves_not : leaves_check (white (4 ∷ 6 ∷ 60 ∷ 10 ∷ []) 0 0) (to 4 3) ≡ false
  pub rising : rises (7 ∷ 8 ∷ 10 ∷ []) ≡ true
  pub level : rises (7 ∷ 7 ∷ []) ≡ false
  pub falling : rises (7 ∷ 9 ∷ 8 ∷ []) ≡ false
  pub none : rises [] ≡ true
  pub rising_from : rises_from 7 (8 ∷ []) ≡ true
