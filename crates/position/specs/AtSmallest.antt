-- When two positions are equal, at its smallest: "equal is the same record and the same list in order" (document 01), and "equality of positions for
-- repetition ignores both" counters (document 02, order 12). Boards of one square do for this. And where a position's bytes have the counters.
-- Assumes nothing.
use Rattle.std.specs.Prelude.{◌≡◌, true, false, List, [], ◌∷◌, ◌++◌, ℕ, replicate}
use Rattle.board_builder.specs.BoardBuilder.{record_size}
use Rattle.position.specs.Layout.{Position, position_size, position_of}
use Rattle.position.specs.Repeats.{equal, times}

abbrev pub one_square : ℕ → ℕ → ℕ → List ℕ → Position
one_square man half full moves = record { board = man ∷ []; half = half; full = full; check = 0; moves = moves }

pub record EqualAtSmallest : Type 0 where
  pub itself : equal (one_square 1 0 1 []) (one_square 1 0 1 []) ≡ true
  pub other_clock : equal (one_square 1 0 1 []) (one_square 1 5 1 []) ≡ true
  pub other_number : equal (one_square 1 0 1 []) (one_square 1 0 10 []) ≡ true
  pub other_board : equal (one_square 1 0 1 []) (one_square 2 0 1 []) ≡ false
  pub other_order : equal (one_square 1 0 1 (1 ∷ 2 ∷ [])) (one_square 1 0 1 (2 ∷ 1 ∷ [])) ≡ false
  -- after four half-moves there and back, and four more
  pub repeated : times (one_square 1 8 5 []) (one_square 1 4 3 [] ∷ one_square 1 0 1 [] ∷ []) ≡ 2

-- 300 is 1 × 256 + 44, 513 is 2 × 256 + 1
pub record BytesHold : Type 0 where
  pub half : (position_of (replicate record_size 0 ++ (44 ∷ 1 ∷ 1 ∷ 2 ∷ []))).half ≡ 300
  pub full : (position_of (replicate record_size 0 ++ (44 ∷ 1 ∷ 1 ∷ 2 ∷ []))).full ≡ 513
  pub size : position_size ≡ 584
