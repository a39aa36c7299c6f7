-- Order 12's reader and writers at their smallest texts: 18, 19, 20 before 25, the fifth token before the sixth, which tokens are counters, and what either
-- pair makes of them.
-- Assumes nothing.
use Rattle.std.specs.Prelude.{ℕ, ◌≡◌, [], ◌∷◌, ◌++◌}
use Prim.Native.String.{String}
use Rattle.answer.specs.Answer.{out_of_range, too_few_tokens, bad_placement, bad_side, bad_counter}
use Rattle.answer.specs.Ascii.{ascii}
use Rattle.board_builder.specs.BoardBuilder.{empty_board, no_board, with_counters}
use Rattle.fen_text.specs.Read.{refused_at, fen_of, read_fen}
use Rattle.fen_text.specs.Write.{fen_text, full_text, fen_check}
use Rattle.fen_text.specs.Full.{read_full}

abbrev pub RefusedInFull : String → ℕ → ℕ → Type 0
RefusedInFull text number offset = read_full (ascii text) ≡ refused_at number offset

abbrev pub CountedAs : String → ℕ → ℕ → Type 0
CountedAs text half full = read_full (ascii text) ≡ fen_of (with_counters empty_board half full)

pub record FullAtSmallest : Type 0 where
  -- "25 after 20", and so after 18 and 19
  pub few_before_counter : RefusedInFull "8 w -" too_few_tokens 5
  pub placement_before_counter : RefusedInFull "9 w - - x" bad_placement 0
  pub side_before_counter : RefusedInFull "8 x - - x" bad_side 2
  -- "for a fifth, then a sixth token": the fifth is told where the sixth is missing or bad too
  pub no_fifth : RefusedInFull "8 w - -" bad_counter 7
  pub bad_fifth : RefusedInFull "8 w - - x" bad_counter 8
  pub both_bad : RefusedInFull "8 w - - x x" bad_counter 8
  pub empty_fifth : RefusedInFull "8 w - -  1" bad_counter 8
  pub space_behind_fourth : RefusedInFull "8 w - - " bad_counter 8
  pub no_sixth : RefusedInFull "8 w - - 0" bad_counter 9
  pub space_behind_fifth : RefusedInFull "8 w - - 0 " bad_counter 10
  pub bad_sixth : RefusedInFull "8 w - - 0 1x" bad_counter 10
  -- "one to four digits": no sign, no byte beside 0 to 9, no carriage return, no fifth digit; "or a move number of 0"
  pub long_fifth : RefusedInFull "8 w - - 00000 1" bad_counter 8
  pub signed_fifth : RefusedInFull "8 w - - +1 1" bad_counter 8
  pub minus_fifth : RefusedInFull "8 w - - -0 1" bad_counter 8
  pub before_0 : RefusedInFull "8 w - - / 1" bad_counter 8
  pub behind_9 : RefusedInFull "8 w - - : 1" bad_counter 8
  pub return_behind : read_full (ascii "8 w - - 0 1" ++ (13 ∷ [])) ≡ refused_at bad_counter 10
  pub long_sixth : RefusedInFull "8 w - - 0 10000" bad_counter 10
  pub long_1 : RefusedInFull "8 w - - 0 00001" bad_counter 10
  pub move_0 : RefusedInFull "8 w - - 0 0" bad_counter 10
  pub move_0000 : RefusedInFull "8 w - - 0 0000" bad_counter 10
  -- accepted: zeros in front count for nothing, tokens behind the sixth are ignored
  pub least : CountedAs "8 w - - 0 1" 0 1
  pub zeros : CountedAs "8 w - - 0000 0001" 0 1
  pub four_digits : CountedAs "8 w - - 1234 5678" 1234 5678
  pub largest : CountedAs "8 w - - 9999 9999" 9999 9999
  pub more_tokens : CountedAs "8 w - - 5 10 x" 5 10
  pub written : full_text (with_counters empty_board 5 10) ≡ ascii "8/8/8/8/8/8/8/8 w - - 5 10"
  pub written_largest : full_text (with_counters empty_board 9999 9999) ≡ ascii "8/8/8/8/8/8/8/8 w - - 9999 9999"

-- "The crate's FEN reader sets 0 and 1 and its writer still ends ` 0 1`"; either writer refuses a counter out of range
pub record CrateAtSmallest : Type 0 where
  pub sets_0_and_1 : read_fen (ascii "8 w - - 5 10") ≡ fen_of empty_board
  pub never_25 : read_fen (ascii "8 w - - x") ≡ fen_of empty_board
  pub ends_0_1 : fen_text (with_counters empty_board 5 10) ≡ ascii "8/8/8/8/8/8/8/8 w - - 0 1"
  pub clock_gives_5 : fen_check (with_counters empty_board 10000 1) ≡ out_of_range
  pub number_gives_5 : fen_check (with_counters empty_board 0 10000) ≡ out_of_range
  pub zeros_give_5 : fen_check no_board ≡ out_of_range
  pub largest_is_good : fen_check (with_counters empty_board 9999 9999) ≡ 0
