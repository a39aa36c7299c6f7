-- The counters among a position's bytes at their smallest (document 02, order 12): "each as two bytes, low first, after the 68 old record bytes".
-- Assumes nothing.
use Rattle.std.specs.Prelude.{◌≡◌, true, false, [], ◌∷◌, ◌++◌, ℕ, length, take, drop, replicate}
use Rattle.answer.specs.Answer.{out_of_range}
use Rattle.board_builder.specs.BoardBuilder.{record_size}
use Rattle.position.specs.Layout.{Position, position_of}
use Rattle.stored_position.specs.Bytes.{position_bytes, position_check, is_position}

-- an empty board with these counters and no move
abbrev pub empty_counted : ℕ → ℕ → Position
empty_counted half full = record { board = replicate record_size 0; half = half; full = full; check = 1; moves = [] }

pub record BytesAtSmallest : Type 0 where
  -- 300 is 1 × 256 + 44, 513 is 2 × 256 + 1; then the in-check byte and the list's length
  pub low_first : take 6 (drop record_size (position_bytes (empty_counted 300 513))) ≡ 44 ∷ 1 ∷ 1 ∷ 2 ∷ 1 ∷ 0 ∷ []
  pub read_back : position_of (position_bytes (empty_counted 300 513)) ≡ empty_counted 300 513
  pub long : length (position_bytes (empty_counted 300 513)) ≡ 584
  -- zeros are no position, since no move has the number 0; with a 1 there they are
  pub zeros : is_position (replicate 584 0) ≡ false
  pub first_move : is_position (replicate 70 0 ++ (1 ∷ replicate 513 0)) ≡ true
  -- in range and out of it
  pub largest : position_check (empty_counted 9999 9999) ≡ 0
  pub clock_gives_5 : position_check (empty_counted 10000 1) ≡ out_of_range
  pub number_gives_5 : position_check (empty_counted 0 10000) ≡ out_of_range
  pub no_number_gives_5 : position_check (empty_counted 0 0) ≡ out_of_range
