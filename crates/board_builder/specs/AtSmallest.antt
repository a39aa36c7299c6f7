-- The two counters at their bounds (document 02, order 12): "0 to 9,999 and 1 to 9,999". A step's number is never cut to the field's sixteen bits, in which
-- 65,536 would be 0 and 65,537 would be 1.
-- Assumes nothing.
use Rattle.std.specs.Prelude.{ℕ, ◌≡◌, Bool, true, false}
use Rattle.answer.specs.Answer.{out_of_range}
use Rattle.board_builder.specs.BoardBuilder.{with_counters, empty_board, in_range}
use Rattle.board_builder.specs.Steps.{stepped, set_half_moves, set_full_moves}

-- an empty board with these counters
abbrev pub counted_in_range : ℕ → ℕ → Bool
counted_in_range half full = in_range (with_counters empty_board half full)

pub record CountersAtBounds : Type 0 where
  pub clock_least : counted_in_range 0 1 ≡ true
  pub clock_most : counted_in_range 9999 1 ≡ true
  pub clock_over : counted_in_range 10000 1 ≡ false
  pub number_zero : counted_in_range 0 0 ≡ false
  pub number_most : counted_in_range 0 9999 ≡ true
  pub number_over : counted_in_range 0 10000 ≡ false

pub record CounterStepsAtBounds : Type 0 where
  pub half_least : set_half_moves empty_board 0 ≡ stepped 0 empty_board
  pub half_most : set_half_moves empty_board 9999 ≡ stepped 0 (with_counters empty_board 9999 1)
  pub half_over : set_half_moves empty_board 10000 ≡ stepped out_of_range empty_board
  pub half_not_cut : set_half_moves empty_board 65536 ≡ stepped out_of_range empty_board
  pub full_zero : set_full_moves empty_board 0 ≡ stepped out_of_range empty_board
  pub full_least : set_full_moves empty_board 1 ≡ stepped 0 empty_board
  pub full_most : set_full_moves empty_board 9999 ≡ stepped 0 (with_counters empty_board 0 9999)
  pub full_over : set_full_moves empty_board 10000 ≡ stepped out_of_range empty_board
  pub full_not_cut : set_full_moves empty_board 65537 ≡ stepped out_of_range empty_board
