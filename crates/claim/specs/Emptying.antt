-- What empties the reversible count and the run of positions (document 01, "Draws and endings"): a move with a pawn on its source, or onto an occupied
-- square, empties both; and so does a change of either side's rights. Two separate tests, since the Laws (9.3) know only the first for the count.
-- Assumes nothing.
use Rattle.std.specs.Prelude.{Bool, not, ◌||◌, ℕ, eqb, get_or}
use Rattle.square.specs.Piece.{kind_of, pawn, man_on}
use Rattle.board_builder.specs.BoardBuilder.{white_rights_at, black_rights_at}
use Rattle.chess_move.specs.Number.{source_of, dest_of}
use Rattle.position.specs.Layout.{Position}

-- move m, made in position p, has a pawn on its source or goes onto an occupied square
unfoldable pub irreversible : Position → ℕ → Bool
irreversible p m = eqb (kind_of (man_on p.board (source_of m))) pawn || not (eqb (man_on p.board (dest_of m)) 0)

-- either side's rights differ between two positions
unfoldable pub rights_differ : Position → Position → Bool
rights_differ p q =
    not (eqb (get_or p.board white_rights_at 0) (get_or q.board white_rights_at 0))
    || not (eqb (get_or p.board black_rights_at 0) (get_or q.board black_rights_at 0))

-- move m leads from position p to position q
abbrev pub empties_count : Position → ℕ → Position → Bool
empties_count p m q = irreversible p m || rights_differ p q

abbrev pub empties_run : Position → ℕ → Position → Bool
empties_run p m q = irreversible p m || rights_differ p q
