-- Answers in numbers (document 01, "Answer numbers", and the orders of document 02), since a row that names a number follows a change of it; and what the
-- definitions that every crate uses make of lists, texts and rooms.
-- Assumes nothing.
use Rattle.std.specs.Prelude.{ℕ, ◌≡◌, true, false, [], ◌∷◌}
use Rattle.answer.specs.declared.Answer.{Answer}
use Rattle.answer.specs.declared.Placed.{Placed}
use Rattle.answer.specs.Answer.{invalid_fen, invalid_square, invalid_uci_move, invalid_san_move, out_of_range, bad_list, output_too_short, no_name, not_good}
use Rattle.answer.specs.Answer.{game_over}
use Rattle.answer.specs.Answer.{not_listed, wrong_side, log_full, no_offer, no_claim, part_too_short, bad_roll, too_few_tokens, bad_placement, bad_side}
use Rattle.answer.specs.Answer.{left_open, too_deep}
use Rattle.answer.specs.Answer.{unknown_token, wrong_record, bad_counter, accepted, refused, read_as, fault_at, too_short, in_range_or5}
use Rattle.answer.specs.Answer.{write_answer, overwrite, write_bytes}
use Rattle.answer.specs.Ascii.{ascii}
use Rattle.answer.specs.Numbers.{all_at_most, largest, number_at, between, same, among, either, both}
use Rattle.answer.specs.Parts.{item, written, front_of, rest_of}
use Rattle.version.specs.Version.{version}

-- a number and a value; and with an offset
abbrev pub says : ℕ → ℕ → Answer
says number value = record { number = number; value = value }

abbrev pub says_at : ℕ → ℕ → ℕ → Placed
says_at number value offset = record { number = number; value = value; offset = offset }

-- the table of document 01
pub record AnswerNumbers : Type 0 where
  pub invalid_fen_fact : invalid_fen ≡ 1
  pub invalid_square_fact : invalid_square ≡ 2
  pub invalid_uci_move_fact : invalid_uci_move ≡ 3
  pub invalid_san_move_fact : invalid_san_move ≡ 4
  pub out_of_range_fact : out_of_range ≡ 5
  pub bad_list_fact : bad_list ≡ 6
  pub output_too_short_fact : output_too_short ≡ 7
  pub no_name_fact : no_name ≡ 8
  pub not_good_lem : not_good ≡ 9
  pub game_over_fact : game_over ≡ 10
  pub not_listed_fact : not_listed ≡ 11
  pub wrong_side_fact : wrong_side ≡ 12
  pub log_full_fact : log_full ≡ 13
  pub no_offer_fact : no_offer ≡ 14
  pub no_claim_fact : no_claim ≡ 15
  pub part_too_short_fact : part_too_short ≡ 16

-- those of the orders, and the version, which rises with each landing that adds or changes a function
pub record OrderNumbers : Type 0 where
  pub bad_roll_fact : bad_roll ≡ 17
  pub too_few_tokens_fact : too_few_tokens ≡ 18
  pub bad_placement_lem : bad_placement ≡ 19
  pub bad_side_fact : bad_side ≡ 20
  pub left_open_fact : left_open ≡ 21
  pub too_deep_fact : too_deep ≡ 22
  pub unknown_token_fact : unknown_token ≡ 23
  pub wrong_record_fact : wrong_record ≡ 24
  pub bad_counter_fact : bad_counter ≡ 25
  pub of_the_archive : version ≡ 16

pub record AnswersInNumbers : Type 0 where
  pub zero_and_a_value : accepted 9 ≡ says 0 9
  pub a_refusal : refused 12 ≡ says 12 0
  pub a_text_read : read_as 9 ≡ says_at 0 9 0
  pub a_text_refused : fault_at 18 4 ≡ says_at 18 0 4
  pub too_short_fact : too_short 9 ≡ says 7 9
  pub in_range_lem : in_range_or5 true 9 ≡ says 0 9
  pub out_of_it : in_range_or5 false 9 ≡ says 5 0

-- a text of three bytes, in rooms of two to five
pub record TextsWritten : Type 0 where
  pub just_fits : write_answer 0 (ascii "abc") 3 ≡ says 0 3
  pub fits : write_answer 0 (ascii "abc") 5 ≡ says 0 3
  pub needs_three : write_answer 0 (ascii "abc") 2 ≡ says 7 3
  pub refused_before : write_answer 6 (ascii "abc") 5 ≡ says 6 0
  pub over_the_front : overwrite (ascii "abc") (ascii "vwxyz") ≡ ascii "abcyz"
  pub written_whole : write_bytes 0 (ascii "abc") (ascii "vwxyz") ≡ ascii "abcyz"
  pub written_exactly : write_bytes 0 (ascii "abc") (ascii "vwx") ≡ ascii "abc"
  pub not_in_two : write_bytes 0 (ascii "abc") (ascii "vw") ≡ ascii "vw"
  pub not_refused : write_bytes 6 (ascii "abc") (ascii "vwxyz") ≡ ascii "vwxyz"

pub record ListsOfNumbers : Type 0 where
  pub bytes : ascii "aB 1" ≡ 97 ∷ 66 ∷ 32 ∷ 49 ∷ []
  pub at_most : all_at_most 12 (12 ∷ 0 ∷ []) ≡ true
  pub last_at_most : all_at_most 12 (0 ∷ 12 ∷ []) ≡ true
  pub first_over : all_at_most 12 (13 ∷ 0 ∷ []) ≡ false
  pub last_over : all_at_most 12 (0 ∷ 13 ∷ []) ≡ false
  pub largest_of_three : largest (3 ∷ 9 ∷ 4 ∷ []) ≡ 9
  pub largest_of_none : largest [] ≡ 0
  pub at_a_place : number_at (3 ∷ 9 ∷ []) 1 ≡ 9
  pub past_the_end : number_at (3 ∷ 9 ∷ []) 2 ≡ 0
  pub under : between 3 5 2 ≡ false
  pub lowest : between 3 5 3 ≡ true
  pub highest : between 3 5 5 ≡ true
  pub above : between 3 5 6 ≡ false

pub record EqualLists : Type 0 where
  pub nothing : same [] [] ≡ true
  pub equal_texts : same (ascii "ab") (ascii "ab") ≡ true
  pub first_larger : same (ascii "bb") (ascii "ab") ≡ false
  pub first_smaller : same (ascii "ab") (ascii "bb") ≡ false
  pub last_other : same (ascii "ab") (ascii "ac") ≡ false
  pub second_longer : same [] (ascii "a") ≡ false
  pub first_longer : same (ascii "a") [] ≡ false
  pub among_none : among 5 [] ≡ false
  pub among_first : among 5 (5 ∷ 8 ∷ []) ≡ true
  pub among_last : among 5 (8 ∷ 5 ∷ []) ≡ true
  pub among_smaller : among 5 (3 ∷ 4 ∷ []) ≡ false
  pub among_larger : among 5 (6 ∷ 7 ∷ []) ≡ false
  pub left_holds : either true false ≡ true
  pub right_holds : either false true ≡ true
  pub neither : either false false ≡ false
  pub both_hold : both true true ≡ true
  pub left_alone : both true false ≡ false
  pub right_alone : both false true ≡ false

pub record PartsOfBytes : Type 0 where
  pub second_item : item 2 (ascii "abcdefg") 1 ≡ ascii "cd"
  pub cut_short : item 2 (ascii "abcdefg") 3 ≡ ascii "g"
  pub over_the_middle : written (ascii "abcdefg") 3 (ascii "xy") ≡ ascii "abcxyfg"
  pub front : front_of (ascii "abcde") 2 ≡ ascii "ab"
  pub rest : rest_of (ascii "abcde") 2 ≡ ascii "cde"
