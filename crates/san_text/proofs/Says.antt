-- What a text can say: which kinds of man, which promotions, and so which texts. For any form.
-- Assumes nothing.
use Prim.Native.Nat.{ℕ}
use mathlib.Core.Bool.{Bool, true, false, cond}
use mathlib.Core.List.{List}
use lib.Dec.{eqb}
use Rattle.std.specs.Prelude.{Some, None}
use Rattle.san_text.specs.declared.San.{San}
use Rattle.san_text.specs.declared.SanText.TheVariants.{KingSide, QueenSide, Move}
use Rattle.san_text.specs.Text.{Said, Dest, promotion_kind, piece_kind, first_byte, piece_or, read_takes, read_rank, read_file, read_piece}

-- 0, or 2 to 5: nothing, N B R Q
pub data Promotes : ℕ → Type 0 where
  nothing : Promotes 0
  knight : Promotes 2
  bishop : Promotes 3
  rook : Promotes 4
  queen : Promotes 5

-- 1 to 6
pub data Moves : ℕ → Type 0 where
  pawn : Moves 1
  knight : Moves 2
  bishop : Moves 3
  rook : Moves 4
  queen : Moves 5
  king : Moves 6

pub promotes : (b : ℕ) → Promotes (promotion_kind b)
unfolding promotion_kind
promotes b = go (eqb b 78) (eqb b 66) (eqb b 82) (eqb b 81)
  where
    go : (n k r q : Bool) → Promotes (cond n 2 (cond k 3 (cond r 4 (cond q 5 0))))
    go true k r q = knight
    go false true r q = bishop
    go false false true q = rook
    go false false false true = queen
    go false false false false = nothing

moves_or : {p : ℕ} → Promotes p → Moves (piece_or p)
unfolding piece_or
moves_or nothing = pawn
moves_or knight = knight
moves_or bishop = bishop
moves_or rook = rook
moves_or queen = queen

pub moves : (b : ℕ) → Moves (piece_or (piece_kind b))
unfolding piece_kind piece_or
moves b = go (eqb b 75)
  where
    go : (k : Bool) → Moves (piece_or (cond k 6 (promotion_kind b)))
    go true = king
    go false = moves_or (promotes b)

-- a move with a kind and a promotion that a text can say, castling, or nothing
pub data Says : Said → Type 0 where
  king_side : Says (Some KingSide)
  queen_side : Says (Some QueenSide)
  move : {u : San} → Moves u.piece → Promotes u.promotion → Says (Some (Move u))
  nothing_said : Says None

pub says_cond : (b : Bool) {x y : Said} → Says x → Says y → Says (cond b x y)
says_cond true p q = p
says_cond false p q = q

-- a form that reads on from the destination says what it says there
pub says_piece : (dest : Dest) → ((k f r : ℕ) (x : Bool) (s : List ℕ) → Moves (piece_or k) → Says (dest k f r x s)) → (s : List ℕ) → Says (read_piece dest s)
unfolding read_piece read_file read_rank read_takes
says_piece dest h s = h (piece_kind (first_byte s)) _ _ _ _ (moves (first_byte s))
