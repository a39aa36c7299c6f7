-- The sentences of articles 3.1 to 3.9, each at its smallest: boards with few men, and a move as its number.
-- Assumes nothing.
use Rattle.std.specs.Prelude.{◌≡◌, true, false, List, [], ◌∷◌, ℕ, ◌+◌, ◌*◌, set, replicate}
use Rattle.board_builder.specs.declared.BoardBuilder.{BoardBuilder}
use Rattle.board_builder.specs.BoardBuilder.{board}
use Rattle.move_laws.specs.Attack.{attacked, in_check}
use Rattle.move_laws.specs.Legal.{is_legal}

-- men on squares: square, man, square, man ..
unfoldable pub men : List ℕ → List ℕ
men [] = replicate 64 0
men (s ∷ []) = replicate 64 0
men (s ∷ man ∷ rest) = set (men rest) s man

-- white to move, or black, with rights and en passant
abbrev pub white : List ℕ → ℕ → ℕ → BoardBuilder
white l rights file = board (men l) 0 rights 0 file

abbrev pub black : List ℕ → ℕ → ℕ → BoardBuilder
black l rights file = board (men l) 1 0 rights file

abbrev pub to : ℕ → ℕ → ℕ
to s t = s + 64 * t

pub record Rows : Type 0 where
  -- 3.1 no move to a square with a man of the same colour
  pub own_man : is_legal (white (2 ∷ 3 ∷ 20 ∷ 1 ∷ []) 0 0) (to 2 20) ≡ false
  -- 3.1.1 an opponent's man is captured
  pub captures : is_legal (white (2 ∷ 3 ∷ 20 ∷ 7 ∷ []) 0 0) (to 2 20) ≡ true
  -- 1.4.1 the king is not captured
  pub no_king_taken : is_legal (white (2 ∷ 3 ∷ 20 ∷ 12 ∷ []) 0 0) (to 2 20) ≡ false
  -- no man, no move; an opponent's man is not moved
  pub nothing_moves : is_legal (white ([]) 0 0) (to 2 20) ≡ false
  pub not_mine : is_legal (white (2 ∷ 9 ∷ []) 0 0) (to 2 20) ≡ false
  -- 3.2 along a diagonal, and no other way
  pub bishop : is_legal (white (2 ∷ 3 ∷ []) 0 0) (to 2 38) ≡ true
  pub bishop_down : is_legal (black (38 ∷ 9 ∷ []) 0 0) (to 38 2) ≡ true
  -- the other diagonals
  pub bishop_other : is_legal (white (6 ∷ 3 ∷ []) 0 0) (to 6 48) ≡ true
  pub bishop_file : is_legal (white (2 ∷ 3 ∷ []) 0 0) (to 2 34) ≡ false
  -- a diagonal does not go over the edge
  pub bishop_edge : is_legal (white (7 ∷ 3 ∷ []) 0 0) (to 7 16) ≡ false
  -- 3.3 along the file or the rank, and no other way
  pub rook : is_legal (white (0 ∷ 4 ∷ []) 0 0) (to 0 56) ≡ true
  pub rook_rank : is_legal (white (0 ∷ 4 ∷ []) 0 0) (to 0 7) ≡ true
  pub rook_diagonal : is_legal (white (0 ∷ 4 ∷ []) 0 0) (to 0 9) ≡ false
  -- 3.4 along the file, the rank or a diagonal
  pub queen_file : is_legal (white (3 ∷ 5 ∷ []) 0 0) (to 3 59) ≡ true
  pub queen_rank : is_legal (white (3 ∷ 5 ∷ []) 0 0) (to 3 0) ≡ true
  pub queen_diagonal : is_legal (white (3 ∷ 5 ∷ []) 0 0) (to 3 39) ≡ true
  pub queen_jump : is_legal (white (3 ∷ 5 ∷ []) 0 0) (to 3 20) ≡ false
  -- 3.5 not over any intervening men
  pub over_bishop : is_legal (white (2 ∷ 3 ∷ 20 ∷ 7 ∷ []) 0 0) (to 2 38) ≡ false
  pub over_rook : is_legal (white (0 ∷ 4 ∷ 8 ∷ 1 ∷ []) 0 0) (to 0 16) ≡ false
  pub over_queen : is_legal (white (3 ∷ 5 ∷ 51 ∷ 7 ∷ []) 0 0) (to 3 59) ≡ false
  -- the last square between counts
  pub over_far : is_legal (white (0 ∷ 4 ∷ 6 ∷ 7 ∷ []) 0 0) (to 0 7) ≡ false
  -- 3.6 the nearest squares not on the same rank, file or diagonal; over men
  pub knight : is_legal (white (1 ∷ 2 ∷ 9 ∷ 1 ∷ 10 ∷ 1 ∷ 8 ∷ 1 ∷ []) 0 0) (to 1 18) ≡ true
  pub knight_wide : is_legal (white (1 ∷ 2 ∷ []) 0 0) (to 1 11) ≡ true
  pub knight_straight : is_legal (white (1 ∷ 2 ∷ []) 0 0) (to 1 17) ≡ false
  pub knight_edge : is_legal (white (7 ∷ 2 ∷ []) 0 0) (to 7 16) ≡ false
  -- 3.7.1 one forward to an empty square
  pub pawn : is_legal (white (12 ∷ 1 ∷ []) 0 0) (to 12 20) ≡ true
  pub pawn_black : is_legal (black (52 ∷ 7 ∷ []) 0 0) (to 52 44) ≡ true
  pub pawn_back : is_legal (white (20 ∷ 1 ∷ []) 0 0) (to 20 12) ≡ false
  pub pawn_blocked : is_legal (white (12 ∷ 1 ∷ 20 ∷ 7 ∷ []) 0 0) (to 12 20) ≡ false
  pub pawn_aside : is_legal (white (12 ∷ 1 ∷ []) 0 0) (to 12 21) ≡ false
  -- 3.7.2 two forward from the second rank, both empty
  pub pawn_twice : is_legal (white (12 ∷ 1 ∷ []) 0 0) (to 12 28) ≡ true
  pub pawn_twice_black : is_legal (black (52 ∷ 7 ∷ []) 0 0) (to 52 36) ≡ true
  pub pawn_twice_third : is_legal (white (20 ∷ 1 ∷ []) 0 0) (to 20 36) ≡ false
  pub pawn_twice_over : is_legal (white (12 ∷ 1 ∷ 20 ∷ 2 ∷ []) 0 0) (to 12 28) ≡ false
  pub pawn_twice_onto : is_legal (white (12 ∷ 1 ∷ 28 ∷ 7 ∷ []) 0 0) (to 12 28) ≡ false
  -- a pawn on its own first rank steps once
  pub pawn_first : is_legal (white (4 ∷ 1 ∷ []) 0 0) (to 4 12) ≡ true
  pub pawn_first_twice : is_legal (white (4 ∷ 1 ∷ []) 0 0) (to 4 20) ≡ false
  -- 3.7.3 diagonally in front, capturing
  pub pawn_takes : is_legal (white (28 ∷ 1 ∷ 35 ∷ 7 ∷ []) 0 0) (to 28 35) ≡ true
  pub pawn_takes_black : is_legal (black (36 ∷ 7 ∷ 29 ∷ 1 ∷ []) 0 0) (to 36 29) ≡ true
  pub pawn_takes_behind : is_legal (white (28 ∷ 1 ∷ 19 ∷ 7 ∷ []) 0 0) (to 28 19) ≡ false
  pub pawn_takes_edge : is_legal (white (31 ∷ 1 ∷ 32 ∷ 7 ∷ []) 0 0) (to 31 32) ≡ false
  -- 3.7.4 in passing: the record's file, the opponent's pawn beside, an empty square behind it
  pub passing : is_legal (white (36 ∷ 1 ∷ 35 ∷ 7 ∷ []) 0 4) (to 36 43) ≡ true
  pub passing_black : is_legal (black (28 ∷ 7 ∷ 29 ∷ 1 ∷ []) 0 6) (to 28 21) ≡ true
  pub passing_unmarked : is_legal (white (36 ∷ 1 ∷ 35 ∷ 7 ∷ []) 0 0) (to 36 43) ≡ false
  pub passing_other_file : is_legal (white (36 ∷ 1 ∷ 35 ∷ 7 ∷ []) 0 6) (to 36 43) ≡ false
  pub passing_no_pawn : is_legal (white (36 ∷ 1 ∷ 35 ∷ 8 ∷ []) 0 4) (to 36 43) ≡ false
  pub passing_own_pawn : is_legal (white (36 ∷ 1 ∷ 35 ∷ 1 ∷ []) 0 4) (to 36 43) ≡ false
  pub passing_rank : is_legal (white (28 ∷ 1 ∷ 27 ∷ 7 ∷ []) 0 4) (to 28 35) ≡ false
  -- what stands behind is not passed; it is taken as any man
  pub passing_onto : is_legal (white (36 ∷ 1 ∷ 35 ∷ 7 ∷ 43 ∷ 2 ∷ []) 0 4) (to 36 43) ≡ false
  -- 3.7.5 on the last rank a queen, rook, bishop or knight must be chosen
  pub promotes : is_legal (white (48 ∷ 1 ∷ []) 0 0) (to 48 56 + 4096 * 5) ≡ true
  pub promotes_knight : is_legal (white (48 ∷ 1 ∷ []) 0 0) (to 48 56 + 4096 * 2) ≡ true
  pub promotes_black : is_legal (black (8 ∷ 7 ∷ []) 0 0) (to 8 0 + 4096 * 4) ≡ true
  pub promotes_must : is_legal (white (48 ∷ 1 ∷ []) 0 0) (to 48 56) ≡ false
  pub promotes_king : is_legal (white (48 ∷ 1 ∷ []) 0 0) (to 48 56 + 4096 * 6) ≡ false
  pub promotes_pawn : is_legal (white (48 ∷ 1 ∷ []) 0 0) (to 48 56 + 4096 * 1) ≡ false
  pub promotes_early : is_legal (white (40 ∷ 1 ∷ []) 0 0) (to 40 48 + 4096 * 5) ≡ false
  pub promotes_piece : is_legal (white (48 ∷ 4 ∷ []) 0 0) (to 48 56 + 4096 * 5) ≡ false
  -- 3.8.1 to an adjoining square
  pub king : is_legal (white (4 ∷ 6 ∷ []) 0 0) (to 4 13) ≡ true
  pub king_far : is_legal (white (4 ∷ 6 ∷ []) 0 0) (to 4 20) ≡ false
  -- 3.8.2 castling to either side
  pub castles_short : is_legal (white (4 ∷ 6 ∷ 7 ∷ 4 ∷ []) 1 0) (to 4 6) ≡ true
  pub castles_long : is_legal (white (4 ∷ 6 ∷ 0 ∷ 4 ∷ []) 2 0) (to 4 2) ≡ true
  pub castles_black : is_legal (black (60 ∷ 12 ∷ 63 ∷ 10 ∷ []) 3 0) (to 60 62) ≡ true
  pub castles_black_long : is_legal (black (60 ∷ 12 ∷ 56 ∷ 10 ∷ []) 3 0) (to 60 58) ≡ true
  -- 3.8.2.1 no right, or that of the other side only
  pub castles_lost : is_legal (white (4 ∷ 6 ∷ 7 ∷ 4 ∷ []) 2 0) (to 4 6) ≡ false
  -- no rook, or not one's own
  pub castles_no_rook : is_legal (white (4 ∷ 6 ∷ []) 3 0) (to 4 6) ≡ false
  pub castles_other_rook : is_legal (white (4 ∷ 6 ∷ 7 ∷ 10 ∷ []) 3 0) (to 4 6) ≡ false
  -- a king that is not at home
  pub castles_away : is_legal (white (3 ∷ 6 ∷ 7 ∷ 4 ∷ []) 3 0) (to 3 5) ≡ false
  -- 3.8.2.2 a man between king and rook, on any of the squares
  pub castles_blocked : is_legal (white (4 ∷ 6 ∷ 7 ∷ 4 ∷ 6 ∷ 2 ∷ []) 3 0) (to 4 6) ≡ false
  pub castles_blocked_b : is_legal (white (4 ∷ 6 ∷ 0 ∷ 4 ∷ 1 ∷ 8 ∷ []) 3 0) (to 4 2) ≡ false
  -- out of check, through check, into check
  pub castles_out : is_legal (white (4 ∷ 6 ∷ 7 ∷ 4 ∷ 60 ∷ 10 ∷ []) 3 0) (to 4 6) ≡ false
  pub castles_through : is_legal (white (4 ∷ 6 ∷ 7 ∷ 4 ∷ 61 ∷ 10 ∷ []) 3 0) (to 4 6) ≡ false
  pub castles_into : is_legal (white (4 ∷ 6 ∷ 7 ∷ 4 ∷ 62 ∷ 10 ∷ []) 3 0) (to 4 6) ≡ false
  -- an attacked rook, and the square b1, do not matter
  pub castles_rook_attacked : is_legal (white (4 ∷ 6 ∷ 7 ∷ 4 ∷ 63 ∷ 10 ∷ []) 3 0) (to 4 6) ≡ true
  pub castles_b : is_legal (white (4 ∷ 6 ∷ 0 ∷ 4 ∷ 57 ∷ 10 ∷ []) 3 0) (to 4 2) ≡ true
  -- a pawn attacks the square on the way
  pub castles_pawn : is_legal (white (4 ∷ 6 ∷ 7 ∷ 4 ∷ 12 ∷ 7 ∷ []) 3 0) (to 4 6) ≡ false
  -- 3.9.2 no move that exposes the own king: pins along the file, the rank and both diagonals
  pub pinned_file : is_legal (white (4 ∷ 6 ∷ 20 ∷ 2 ∷ 60 ∷ 10 ∷ []) 0 0) (to 20 26) ≡ false
  pub pinned_rank : is_legal (white (4 ∷ 6 ∷ 2 ∷ 2 ∷ 0 ∷ 10 ∷ []) 0 0) (to 2 17) ≡ false
  pub pinned_diagonal : is_legal (white (4 ∷ 6 ∷ 13 ∷ 2 ∷ 31 ∷ 9 ∷ []) 0 0) (to 13 19) ≡ false
  pub pinned_other : is_legal (white (4 ∷ 6 ∷ 11 ∷ 2 ∷ 32 ∷ 9 ∷ []) 0 0) (to 11 21) ≡ false
  -- along the pin, and taking who pins
  pub pinned_along : is_legal (white (4 ∷ 6 ∷ 12 ∷ 4 ∷ 60 ∷ 10 ∷ []) 0 0) (to 12 36) ≡ true
  pub pinned_takes : is_legal (white (4 ∷ 6 ∷ 12 ∷ 4 ∷ 60 ∷ 10 ∷ []) 0 0) (to 12 60) ≡ true
  -- a man between two is not pinned
  pub pinned_not : is_legal (white (4 ∷ 6 ∷ 20 ∷ 2 ∷ 28 ∷ 1 ∷ 60 ∷ 10 ∷ []) 0 0) (to 20 26) ≡ true
  -- a check must be met: by going, taking or standing between
  pub leaves : is_legal (white (4 ∷ 6 ∷ 1 ∷ 2 ∷ 60 ∷ 10 ∷ []) 0 0) (to 1 16) ≡ false
  pub meets_going : is_legal (white (4 ∷ 6 ∷ 60 ∷ 10 ∷ []) 0 0) (to 4 3) ≡ true
  pub meets_between : is_legal (white (4 ∷ 6 ∷ 18 ∷ 2 ∷ 60 ∷ 10 ∷ []) 0 0) (to 18 28) ≡ true
  pub meets_taking_knight : is_legal (white (4 ∷ 6 ∷ 45 ∷ 2 ∷ 60 ∷ 10 ∷ []) 0 0) (to 45 60) ≡ true
  -- not along the line of the check, behind the king
  pub along_ray : is_legal (white (12 ∷ 6 ∷ 60 ∷ 10 ∷ []) 0 0) (to 12 4) ≡ false
  -- 3.9 a double check: only the king moves
  pub double : is_legal (white (4 ∷ 6 ∷ 18 ∷ 2 ∷ 60 ∷ 10 ∷ 32 ∷ 9 ∷ []) 0 0) (to 18 28) ≡ false
  -- not beside the opponent's king
  pub next_to_king : is_legal (white (4 ∷ 6 ∷ 20 ∷ 12 ∷ []) 0 0) (to 4 12) ≡ false
  -- not taking a guarded man
  pub guarded : is_legal (white (4 ∷ 6 ∷ 12 ∷ 11 ∷ 60 ∷ 10 ∷ []) 0 0) (to 4 12) ≡ false
  pub unguarded : is_legal (white (4 ∷ 6 ∷ 12 ∷ 11 ∷ []) 0 0) (to 4 12) ≡ true
  -- not where a pawn attacks; in front of it one may
  pub into_pawn : is_legal (white (4 ∷ 6 ∷ 20 ∷ 7 ∷ []) 0 0) (to 4 11) ≡ false
  pub before_pawn : is_legal (white (4 ∷ 6 ∷ 20 ∷ 7 ∷ []) 0 0) (to 4 12) ≡ true
  -- in passing both pawns leave the rank
  pub passing_pinned : is_legal (white (32 ∷ 6 ∷ 36 ∷ 1 ∷ 35 ∷ 7 ∷ 39 ∷ 10 ∷ []) 0 4) (to 36 43) ≡ false
  -- in passing takes the pawn that gives check
  pub passing_meets : is_legal (white (28 ∷ 6 ∷ 36 ∷ 1 ∷ 35 ∷ 7 ∷ []) 0 4) (to 36 43) ≡ true
  -- a side without a king is never in check; with two, each must be safe
  pub no_king : is_legal (white (20 ∷ 2 ∷ 60 ∷ 10 ∷ []) 0 0) (to 20 26) ≡ true
  pub two_kings : is_legal (white (4 ∷ 6 ∷ 0 ∷ 6 ∷ 60 ∷ 10 ∷ []) 0 0) (to 0 8) ≡ false
  -- 3.9.1 attacked by one or more; not through a man, not by one's own
  pub in_check_fact : in_check (men (4 ∷ 6 ∷ 60 ∷ 10 ∷ [])) 0 ≡ true
  pub in_check_behind : in_check (men (4 ∷ 6 ∷ 12 ∷ 1 ∷ 60 ∷ 10 ∷ [])) 0 ≡ false
  pub in_check_own : in_check (men (4 ∷ 6 ∷ 60 ∷ 4 ∷ [])) 0 ≡ false
  pub in_check_black : in_check (men (60 ∷ 12 ∷ 43 ∷ 2 ∷ [])) 1 ≡ true
