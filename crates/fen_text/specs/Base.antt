-- The FEN reader as it was before order 2, and as the crate is: 1 for every refused text, but not where. It stays so that the new answers can
-- be compared with it ("which texts are refused stays as in the crate").
-- Assumes nothing.
use Rattle.std.specs.Prelude.{ℕ, cond, ◌&&◌, List, [], ◌∷◌, ltb}
use Rattle.answer.specs.Answer.{invalid_fen}
use Rattle.board_builder.specs.BoardBuilder.{board}
use Rattle.fen_text.specs.declared.Fen.{Fen}
use Rattle.fen_text.specs.Token.{tokens}
use Rattle.fen_text.specs.Placement.{Placement, start, place_all}
use Rattle.fen_text.specs.Read.{side_of, rights_of, en_passant_of, refused_at, fen_of}

-- a refused text: 1 and an all-zero record
abbrev pub no_fen : Fen
no_fen = refused_at invalid_fen 0

-- the four tokens: the placement and the side may be refused, the others not
unfoldable pub base_assembled : Placement → ℕ → List ℕ → List ℕ → Fen
base_assembled p side castling ep =
    cond (p.good && ltb side 2) (fen_of (board p.pieces side (rights_of 75 81 castling) (rights_of 107 113 castling) (en_passant_of ep))) no_fen

unfoldable pub base_tokens : List (List ℕ) → Fen
base_tokens [] = no_fen
base_tokens (a ∷ []) = no_fen
base_tokens (a ∷ b ∷ []) = no_fen
base_tokens (a ∷ b ∷ c ∷ []) = no_fen
base_tokens (a ∷ b ∷ c ∷ d ∷ ts) = base_assembled (place_all start a) (side_of b) c d

unfoldable pub base_fen : List ℕ → Fen
base_fen s = base_tokens (tokens s)
