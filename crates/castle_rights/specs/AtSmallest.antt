-- The rights of squares, each kind of square once: files a, e and h of the colour's own back rank, another file of it, the other colour's back rank.
-- Assumes nothing.
use Rattle.std.specs.Prelude.{◌≡◌}
use Rattle.answer.specs.Answer.{accepted, refused}
use Rattle.castle_rights.specs.CastleRights.{add_rights, remove_rights, square_rights}

pub record RightsAtSmallest : Type 0 where
  pub white_a1 : square_rights 0 0 ≡ accepted 2
  pub white_b1 : square_rights 0 1 ≡ accepted 0
  pub white_c1 : square_rights 0 2 ≡ accepted 0
  pub white_d1 : square_rights 0 3 ≡ accepted 0
  pub white_f1 : square_rights 0 5 ≡ accepted 0
  pub white_g1 : square_rights 0 6 ≡ accepted 0
  pub white_a2 : square_rights 0 8 ≡ accepted 0
  pub white_e1 : square_rights 0 4 ≡ accepted 3
  pub white_h1 : square_rights 0 7 ≡ accepted 1
  pub white_a8 : square_rights 0 56 ≡ accepted 0
  pub black_a8 : square_rights 1 56 ≡ accepted 2
  pub black_e8 : square_rights 1 60 ≡ accepted 3
  pub black_h8 : square_rights 1 63 ≡ accepted 1
  pub black_h1 : square_rights 1 7 ≡ accepted 0
  -- colours are 0 and 1, squares 0 to 63
  pub no_colour : square_rights 2 0 ≡ refused 5
  pub no_square : square_rights 0 64 ≡ refused 5
  pub last_square : square_rights 0 63 ≡ accepted 0

-- both calls on rights: 1 is the king's side, 2 the queen's, 3 both; more is out of range, on either side
pub record SumsAtSmallest : Type 0 where
  pub adds_king : add_rights 0 1 ≡ accepted 1
  pub adds_queen : add_rights 2 0 ≡ accepted 2
  pub adds_both : add_rights 1 2 ≡ accepted 3
  pub adds_again : add_rights 3 3 ≡ accepted 3
  pub adds_to_none : add_rights 4 3 ≡ refused 5
  pub adds_none : add_rights 3 4 ≡ refused 5
  pub takes_king : remove_rights 3 1 ≡ accepted 2
  pub takes_queen : remove_rights 3 2 ≡ accepted 1
  pub takes_all : remove_rights 1 3 ≡ accepted 0
  pub takes_nothing : remove_rights 3 0 ≡ accepted 3
  pub takes_from_none : remove_rights 4 3 ≡ refused 5
  pub takes_none : remove_rights 3 4 ≡ refused 5
