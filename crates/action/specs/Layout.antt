-- An action in the log (document 01, "Numbers of the record, the move and the log"): 4 bytes, kind 1 to 5 in the order of `Action`, colour, move low
-- byte, move high byte, unused fields 0.
-- Assumes nothing.
use Rattle.std.specs.Prelude.{ℕ, cond, ◌&&◌, List, [], ◌∷◌, eqb, leb, length, get_or, Option, Some, None}
use Rattle.answer.specs.Answer.{out_of_range}
use Rattle.chess_move.specs.Number.{last_move, low_byte, high_byte, of_bytes, move_of, number_answer}
use Rattle.action.specs.declared.Action.{Action}
use Rattle.action.specs.declared.Action.TheVariants.{MakeMove, OfferDraw, AcceptDraw, DeclareDraw, Resign}

abbrev pub action_size : ℕ
action_size = 4

-- kind, colour, move low byte, move high byte
abbrev pub fields : ℕ → ℕ → ℕ → List ℕ
fields kind colour move = kind ∷ colour ∷ low_byte move ∷ high_byte move ∷ []

unfoldable pub action_bytes : Action → List ℕ
action_bytes (MakeMove m) = fields 1 0 (number_answer m).value
action_bytes (OfferDraw c) = fields 2 c 0
action_bytes AcceptDraw = fields 3 0 0
action_bytes DeclareDraw = fields 4 0 0
action_bytes (Resign c) = fields 5 c 0

-- 5 for a colour that is neither 0 nor 1, and for a move with a part out of range
abbrev pub colour_check : ℕ → ℕ
colour_check c = cond (leb c 1) 0 out_of_range

unfoldable pub action_check : Action → ℕ
action_check (MakeMove m) = (number_answer m).number
action_check (OfferDraw c) = colour_check c
action_check AcceptDraw = 0
action_check DeclareDraw = 0
action_check (Resign c) = colour_check c

-- a move's action has no colour, and a move in range
abbrev pub moves_here : ℕ → ℕ → Option Action
moves_here colour move = cond (eqb colour 0 && leb move last_move) (Some (MakeMove (move_of move))) None

-- any other has no move, and a colour that is at most 1 where it is used and 0 where it is not
abbrev pub stands_alone : ℕ → ℕ → ℕ → Action → Option Action
stands_alone most colour move a = cond (leb colour most && eqb move 0) (Some a) None

abbrev pub action_of_fields : ℕ → ℕ → ℕ → Option Action
action_of_fields kind colour move =
    cond (eqb kind 1) (moves_here colour move)
    (cond (eqb kind 2) (stands_alone 1 colour move (OfferDraw colour))
    (cond (eqb kind 3) (stands_alone 0 colour move AcceptDraw)
    (cond (eqb kind 4) (stands_alone 0 colour move DeclareDraw)
    (cond (eqb kind 5) (stands_alone 1 colour move (Resign colour)) None))))

-- the action that some bytes hold
unfoldable pub action_of : List ℕ → Option Action
action_of s =
    cond (eqb (length s) action_size) (action_of_fields (get_or s 0 0) (get_or s 1 0) (of_bytes (get_or s 2 0) (get_or s 3 0))) None
