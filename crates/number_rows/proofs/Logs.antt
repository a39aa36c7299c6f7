-- Logs: each row computed.
-- Assumes nothing.
use mathlib.Core.Path.{refl}
use Rattle.answer.specs.Numbers.{all_at_most, among, same}
use Rattle.board_builder.specs.BoardBuilder.{in_range, numbers, numbers_in_range}
use Rattle.move_list.specs.MoveList.{list_in_range}
use Rattle.action.specs.Layout.{action_bytes, action_check, action_of}
use Rattle.actions.specs.Part.{actions_held, last_action, moves_in}
use Rattle.position.specs.Layout.{moves_from, position_of, positions_from}
use Rattle.position.specs.Places.{equal_places, places_of}
use Rattle.position.specs.Repeats.{equal, equals_two_earlier, times}
use Rattle.stored_position.specs.Bytes.{is_position, is_position_with, lists_move, move_bytes, position_bytes, position_check}
use Rattle.number_rows.specs.Logs.{ActionsInBytes, BytesAsActions, ActionsOfAPart, PositionsInBytes, BytesAsPositions, PositionsOfAPart}

pub actions_in_bytes : ActionsInBytes
unfolding all_at_most among same in_range numbers numbers_in_range list_in_range action_bytes action_check action_of actions_held last_action moves_in
    moves_from position_of positions_from equal_places places_of equal equals_two_earlier times is_position is_position_with lists_move move_bytes
    position_bytes position_check
actions_in_bytes = record {
  size = refl;
  move = refl;
  offer = refl;
  acceptance = refl;
  declaration = refl;
  resignation = refl;
  move_good = refl;
  move_bad = refl;
  offer_black = refl;
  offer_2 = refl;
  accept_good = refl;
  declare_good = refl;
  resign_black = refl;
  resign_2 = refl;
}

pub bytes_as_actions : BytesAsActions
unfolding all_at_most among same in_range numbers numbers_in_range list_in_range action_bytes action_check action_of actions_held last_action moves_in
    moves_from position_of positions_from equal_places places_of equal equals_two_earlier times is_position is_position_with lists_move move_bytes
    position_bytes position_check
bytes_as_actions = record {
  move = refl;
  last_move_fact = refl;
  past_it = refl;
  move_with_colour = refl;
  offer_white = refl;
  offer_black = refl;
  offer_2 = refl;
  offer_with_low_byte = refl;
  offer_with_high_byte = refl;
  acceptance = refl;
  acceptance_with_colour = refl;
  acceptance_with_move = refl;
  declaration = refl;
  declaration_with_colour = refl;
  declaration_with_move = refl;
  resign_white = refl;
  resign_black = refl;
  resign_2 = refl;
  resign_with_move = refl;
  kind_0 = refl;
  kind_6 = refl;
  three_bytes = refl;
  five_bytes = refl;
}

pub actions_of_a_part : ActionsOfAPart
unfolding all_at_most among same in_range numbers numbers_in_range list_in_range action_bytes action_check action_of actions_held last_action moves_in
    moves_from position_of positions_from equal_places places_of equal equals_two_earlier times is_position is_position_with lists_move move_bytes
    position_bytes position_check
actions_of_a_part = record {
  second = refl;
  first_move = refl;
  offer_none = refl;
  nothing_none = refl;
  acceptance_none = refl;
  declaration_none = refl;
  resignation_none = refl;
  of_four = refl;
  of_three = refl;
  of_none = refl;
  two_held = refl;
  third_not = refl;
  nor_four = refl;
  none_held = refl;
  last_of_two = refl;
  last_of_none = refl;
}

pub positions_in_bytes : PositionsInBytes
unfolding all_at_most among same in_range numbers numbers_in_range list_in_range action_bytes action_check action_of actions_held last_action moves_in
    moves_from position_of positions_from equal_places places_of equal equals_two_earlier times is_position is_position_with lists_move move_bytes
    position_bytes position_check
positions_in_bytes = record {
  places = (refl, refl, refl, refl, refl);
  size = refl;
  read = refl;
  not_there = refl;
  half_a_move = refl;
  black_to_move = refl;
  no_side_lem = refl;
  written = refl;
  given = refl;
  good = refl;
  side_2 = refl;
  half_10000 = refl;
  full_0 = refl;
  check_2 = refl;
  move_28672 = refl;
}

pub bytes_as_positions : BytesAsPositions
unfolding all_at_most among same in_range numbers numbers_in_range list_in_range action_bytes action_check action_of actions_held last_action moves_in
    moves_from position_of positions_from equal_places places_of equal equals_two_earlier times is_position is_position_with lists_move move_bytes
    position_bytes position_check
bytes_as_positions = record {
  whole = refl;
  one_short = refl;
  one_more_lem = refl;
  check_2 = refl;
  rest_not_zero = refl;
  lists_both = (refl, refl);
  lists_no_other = refl;
  lists_one_short = refl;
  lists_one_more = refl;
  with_move = refl;
  without_move = refl;
  with_move_no_position = refl;
}

pub positions_of_a_part : PositionsOfAPart
unfolding all_at_most among same in_range numbers numbers_in_range list_in_range action_bytes action_check action_of actions_held last_action moves_in
    moves_from position_of positions_from equal_places places_of equal equals_two_earlier times is_position is_position_with lists_move move_bytes
    position_bytes position_check
positions_of_a_part = record {
  second = refl;
  newest_first = refl;
  none = refl;
  three_times = refl;
  last_three = refl;
  twice = refl;
  earlier = refl;
  not_whole = refl;
  places = refl;
  places_from_1 = refl;
  no_places = refl;
  places_not_whole = refl;
  used = refl;
}
