-- The rows of a lent list judged, each computed.
-- Assumes nothing.
use mathlib.Core.Path.{refl}
use Rattle.answer.specs.Numbers.{all_at_most, among}
use Rattle.board_builder.specs.BoardBuilder.{in_range}
use Rattle.move_list.specs.MoveList.{list_in_range}
use Rattle.move_laws.specs.Judge.{outside_at, twice_at, judgement, judged_answer}
use Rattle.move_laws.specs.AtSmallestJudge.{JudgeRows}

pub judge_rows : JudgeRows
unfolding all_at_most among in_range list_in_range outside_at twice_at judgement judged_answer
judge_rows = record {
  right = refl;
  not_legal = refl;
  twice = refl;
  missing = refl;
  missing_last = refl;
  byte_not_owed = refl;
  byte_owed = refl;
  not_legal_first = refl;
  twice_second = refl;
  missing_third = refl;
  move_0 = refl;
  record_gives_5 = refl;
  byte_gives_5 = refl;
  list_gives_6 = refl;
}
