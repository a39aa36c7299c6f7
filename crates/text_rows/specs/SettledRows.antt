-- The settled record, by the squares beside the pawn that moved: on rank 5 with white to move, on rank 4 with black, "file f - 1 or f + 1".
-- Assumes nothing.
use Rattle.std.specs.Prelude.{◌≡◌, true, false, replicate}
use Rattle.settled_rules.specs.Settled.{usable}
use Rattle.settled_rules.specs.Promises.{pawn_beside, home_rank}
use Rattle.number_rows.specs.Records.{a_man}

pub record PawnsBeside : Type 0 where
  -- white to move, the file is d: c5, e5, nothing, and a black pawn on c5 or e5
  pub c5 : pawn_beside (a_man 34 1) 0 4 ≡ true
  pub e5 : pawn_beside (a_man 36 1) 0 4 ≡ true
  pub nothing : pawn_beside (replicate 64 0) 0 4 ≡ false
  pub black_on_c5 : pawn_beside (a_man 34 7) 0 4 ≡ false
  pub black_on_e5 : pawn_beside (a_man 36 7) 0 4 ≡ false
  -- black to move, the file is e: d4, f4, and a white pawn on d4
  pub d4 : pawn_beside (a_man 27 7) 1 5 ≡ true
  pub f4 : pawn_beside (a_man 29 7) 1 5 ≡ true
  pub white_on_d4 : pawn_beside (a_man 27 1) 1 5 ≡ false
  -- files a and h have one neighbour: a5 is not beside a5, nor a6 beside h5
  pub file_a : pawn_beside (a_man 32 1) 0 1 ≡ false
  pub file_b : pawn_beside (a_man 32 1) 0 2 ≡ true
  pub file_g : pawn_beside (a_man 39 1) 0 7 ≡ true
  pub file_h : pawn_beside (a_man 40 1) 0 8 ≡ false
  -- no file can be used where there is none
  pub b5_beside_none : usable (a_man 33 1) 0 0 ≡ false
  pub white_home : home_rank 0 ≡ 1
  pub black_home : home_rank 1 ≡ 6
