-- Order 3 at its smallest inputs: the file before the rank, the first pair before the second, a missing pair at the text's length, the fifth byte.
-- Assumes nothing.
use Rattle.std.specs.Prelude.{ℕ, ◌≡◌}
use Prim.Native.String.{String}
use Rattle.answer.specs.Answer.{read_as, fault_at, invalid_square, invalid_uci_move}
use Rattle.answer.specs.Ascii.{ascii}
use Rattle.chess_move.specs.Coordinate.{read_move}

-- a coordinate text's answer
abbrev pub Moves : String → ℕ → Type 0
Moves text m = read_move (ascii text) ≡ read_as m

abbrev pub ReadsNoMove : String → ℕ → ℕ → Type 0
ReadsNoMove text number offset = read_move (ascii text) ≡ fault_at number offset

pub record MovesAtSmallest : Type 0 where
  pub nothing : ReadsNoMove "" invalid_uci_move 0
  pub one_byte : ReadsNoMove "z" invalid_uci_move 1
  pub both_bad : ReadsNoMove "zz" invalid_square 0
  pub bad_rank : ReadsNoMove "e9" invalid_square 1
  pub first_pair_first : ReadsNoMove "z2e" invalid_square 0
  pub no_second_pair : ReadsNoMove "e2" invalid_uci_move 2
  pub half_a_pair : ReadsNoMove "e2z" invalid_uci_move 3
  pub second_both_bad : ReadsNoMove "e2z9" invalid_square 2
  pub as_players_type : ReadsNoMove "e2e9" invalid_square 3
  pub fifth : ReadsNoMove "e2e4k" invalid_uci_move 4
  pub move : Moves "e2e4" 1804
