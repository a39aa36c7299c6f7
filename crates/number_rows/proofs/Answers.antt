-- Answers in numbers, each row computed.
-- Assumes nothing.
use mathlib.Core.Path.{refl}
use Rattle.answer.specs.Answer.{write_answer, write_bytes}
use Rattle.answer.specs.Ascii.{ascii}
use Rattle.answer.specs.Numbers.{all_at_most, among, largest, same}
use Rattle.number_rows.specs.Answers.{AnswerNumbers, OrderNumbers, AnswersInNumbers, TextsWritten, ListsOfNumbers, EqualLists, PartsOfBytes}

pub answer_numbers : AnswerNumbers
unfolding write_answer write_bytes ascii all_at_most among largest same
answer_numbers = record {
  invalid_fen_fact = refl;
  invalid_square_fact = refl;
  invalid_uci_move_fact = refl;
  invalid_san_move_fact = refl;
  out_of_range_fact = refl;
  bad_list_fact = refl;
  output_too_short_fact = refl;
  no_name_fact = refl;
  not_good_lem = refl;
  game_over_fact = refl;
  not_listed_fact = refl;
  wrong_side_fact = refl;
  log_full_fact = refl;
  no_offer_fact = refl;
  no_claim_fact = refl;
  part_too_short_fact = refl;
}

pub order_numbers : OrderNumbers
unfolding write_answer write_bytes ascii all_at_most among largest same
order_numbers = record {
  bad_roll_fact = refl;
  too_few_tokens_fact = refl;
  bad_placement_lem = refl;
  bad_side_fact = refl;
  left_open_fact = refl;
  too_deep_fact = refl;
  unknown_token_fact = refl;
  wrong_record_fact = refl;
  bad_counter_fact = refl;
  of_the_archive = refl;
}

pub answers_in_numbers : AnswersInNumbers
unfolding write_answer write_bytes ascii all_at_most among largest same
answers_in_numbers = record {
  zero_and_a_value = refl;
  a_refusal = refl;
  a_text_read = refl;
  a_text_refused = refl;
  too_short_fact = refl;
  in_range_lem = refl;
  out_of_it = refl;
}

pub texts_written : TextsWritten
unfolding write_answer write_bytes ascii all_at_most among largest same
texts_written = record {
  just_fits = refl;
  fits = refl;
  needs_three = refl;
  refused_before = refl;
  over_the_front = refl;
  written_whole = refl;
  written_exactly = refl;
  not_in_two = refl;
  not_refused = refl;
}

pub lists_of_numbers : ListsOfNumbers
unfolding write_answer write_bytes ascii all_at_most among largest same
lists_of_numbers = record {
  bytes = refl;
  at_most = refl;
  last_at_most = refl;
  first_over = refl;
  last_over = refl;
  largest_of_three = refl;
  largest_of_none = refl;
  at_a_place = refl;
  past_the_end = refl;
  under = refl;
  lowest = refl;
  highest = refl;
  above = refl;
}

pub equal_lists : EqualLists
unfolding write_answer write_bytes ascii all_at_most among largest same
equal_lists = record {
  nothing = refl;
  equal_texts = refl;
  first_larger = refl;
  first_smaller = refl;
  last_other = refl;
  second_longer = refl;
  first_longer = refl;
  among_none = refl;
  among_first = refl;
  among_last = refl;
  among_smaller = refl;
  among_larger = refl;
  left_holds = refl;
  right_holds = refl;
  neither = refl;
  both_hold = refl;
  left_alone = refl;
  right_alone = refl;
}

pub parts_of_bytes : PartsOfBytes
unfolding write_answer write_bytes ascii all_at_most among largest same
parts_of_bytes = record {
  second_item = refl;
  cut_short = refl;
  over_the_middle = refl;
  front = refl;
  rest = refl;
}
