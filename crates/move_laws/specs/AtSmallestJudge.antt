-- A lent list judged, at its smallest: what is wrong, in which order it is looked for, and which entry or move is told.
-- Assumes nothing.
use Rattle.std.specs.Prelude.{◌≡◌, [], ◌∷◌}
use Rattle.answer.specs.Answer.{out_of_range, bad_list}
use Rattle.board_builder.specs.BoardBuilder.{no_board, empty_board}
use Rattle.move_laws.specs.Judge.{judged_as, judgement, judged_answer}

pub record JudgeRows : Type 0 where
  -- nothing wrong: the legal moves in any order, and the byte that is owed
  pub right : judgement 1 1 (7 ∷ 8 ∷ []) (8 ∷ 7 ∷ []) ≡ judged_as 0 1 2 0 0
  -- 1: the first entry that is not legal, in the list's own order
  pub not_legal : judgement 0 0 (7 ∷ 8 ∷ []) (8 ∷ 7 ∷ 6 ∷ 5 ∷ []) ≡ judged_as 0 0 2 1 6
  -- 2: the first entry that comes again
  pub twice : judgement 0 0 (7 ∷ 8 ∷ []) (8 ∷ 7 ∷ 7 ∷ 8 ∷ []) ≡ judged_as 0 0 2 2 8
  -- 3: the smallest move that is missing
  pub missing : judgement 0 0 (7 ∷ 8 ∷ 9 ∷ []) (8 ∷ []) ≡ judged_as 0 0 3 3 7
  pub missing_last : judgement 0 0 (7 ∷ 8 ∷ 9 ∷ []) (8 ∷ 7 ∷ []) ≡ judged_as 0 0 3 3 9
  -- 4: the byte
  pub byte_not_owed : judgement 0 1 (7 ∷ []) (7 ∷ []) ≡ judged_as 0 0 1 4 0
  pub byte_owed : judgement 1 0 (7 ∷ []) (7 ∷ []) ≡ judged_as 0 1 1 4 0
  -- in this order
  pub not_legal_first : judgement 0 1 (7 ∷ []) (6 ∷ 6 ∷ []) ≡ judged_as 0 0 1 1 6
  pub twice_second : judgement 0 1 (7 ∷ 8 ∷ []) (8 ∷ 8 ∷ []) ≡ judged_as 0 0 2 2 8
  pub missing_third : judgement 0 1 (7 ∷ 8 ∷ []) (8 ∷ []) ≡ judged_as 0 0 2 3 7
  -- move 0 is told as any other
  pub move_0 : judgement 0 0 (0 ∷ 7 ∷ []) (7 ∷ []) ≡ judged_as 0 0 2 3 0
  -- 5 for the record, then for the byte; 6 for the list
  pub record_gives_5 : judged_answer no_board 2 (28672 ∷ []) ≡ judged_as out_of_range 0 0 0 0
  pub byte_gives_5 : judged_answer empty_board 2 (28672 ∷ []) ≡ judged_as out_of_range 0 0 0 0
  pub list_gives_6 : judged_answer empty_board 1 (28672 ∷ []) ≡ judged_as bad_list 0 0 0 0
