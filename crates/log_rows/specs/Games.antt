-- Games at their smallest, as players write them: positions as FENs with their lists, moves as coordinate texts. Results, offers, counts and what a call
-- leaves, each by its numbers (document 01, "Draws and endings", "Answer numbers"; document 02, order 5).
-- Assumes nothing.
use Rattle.std.specs.Prelude.{ℕ, ◌≡◌, Bool, true, false, List, [], ◌∷◌, ◌++◌, length, replicate}
use Prim.Native.String.{String}
use Rattle.answer.specs.Ascii.{ascii}
use Rattle.board_builder.specs.BoardBuilder.{numbers}
use Rattle.fen_text.specs.Read.{read_fen}
use Rattle.chess_move.specs.Coordinate.{read_move}
use Rattle.position.specs.Layout.{Position}
use Rattle.stored_position.specs.Bytes.{position_bytes}
use Rattle.game_rules.specs.Rules.{Call, make_move, offer_draw, accept_draw, declare_draw, resign, History, begun, after, result, offer_stands, ruling}
use Rattle.game_rules.specs.Calls.{counts_after, actions_after, positions_after, positions_begun}
use Rattle.game_rules.specs.Limits.{limits, actions_length, positions_length}
use Rattle.laws.specs.Laws.{laws_count}

-- the moves of a list
unfoldable pub moves_written : List String → List ℕ
moves_written [] = []
moves_written (t ∷ ts) = (read_move (ascii t)).value ∷ moves_written ts

-- a position with the counters 0 and 1: its FEN, 1 if the side to move is in check, its list; and with others
abbrev pub stands : String → ℕ → List String → Position
stands fen check list = record { board = numbers (read_fen (ascii fen)).board; half = 0; full = 1; check = check; moves = moves_written list }

abbrev pub counted_at : ℕ → ℕ → Position → Position
counted_at half full p = record { board = p.board; half = half; full = full; check = p.check; moves = p.moves }

-- a move to a position
abbrev pub plays : String → Position → Call
plays move p = make_move (read_move (ascii move)).value p

-- kings on e1 and e8, by the side to move
abbrev pub white_to_move : Position
white_to_move = stands "4k3/8/8/8/8/8/8/4K3 w - -" 0 ("e1d1" ∷ [])

abbrev pub black_to_move : Position
black_to_move = stands "4k3/8/8/8/8/8/8/3K4 b - -" 0 ("e8d8" ∷ [])

abbrev pub two_kings : History
two_kings = begun white_to_move

abbrev pub moved : Call
moved = plays "e1d1" black_to_move

-- "Results are 1 to 7 in the order of `GameResult`": WhiteCheckmates, WhiteResigns, BlackCheckmates, BlackResigns, Stalemate, DrawAccepted, DrawDeclared
pub record ResultsByNumber : Type 0 where
  pub goes_on : result two_kings ≡ 0
  pub white_checkmates : result (begun (stands "r1bqkb1r/pppp1Qpp/2n2n2/4p3/2B1P3/8/PPPP1PPP/RNB1K1NR b KQkq -" 1 [])) ≡ 1
  pub white_resigns : result (after two_kings (resign 0)) ≡ 2
  pub black_checkmates : result (begun (stands "rnb1kbnr/pppp1ppp/8/4p3/6Pq/5P2/PPPPP2P/RNBQKBNR w KQkq -" 1 [])) ≡ 3
  pub black_resigns : result (after two_kings (resign 1)) ≡ 4
  pub stalemates : result (begun (stands "7k/5Q2/6K1/8/8/8/8/8 b - -" 0 [])) ≡ 5
  pub white_stalemates_too : result (begun (stands "8/8/8/8/8/6k1/5q2/7K w - -" 0 [])) ≡ 5
  pub draw_accepted : result (after (after two_kings (offer_draw 0)) accept_draw) ≡ 6
  pub draw_declared : result (after two_kings declare_draw) ≡ 7
  -- an offer and a move end nothing; a last move that leaves no move does, whatever it was
  pub offer_goes_on : result (after two_kings (offer_draw 1)) ≡ 0
  pub move_goes_on : result (after two_kings moved) ≡ 0

-- "one stands if it is the last action, by either colour, or the last but one by the side not to move"
pub record OffersAtSmallest : Type 0 where
  pub none : offer_stands two_kings ≡ false
  pub by_white : offer_stands (after two_kings (offer_draw 0)) ≡ true
  pub by_black : offer_stands (after two_kings (offer_draw 1)) ≡ true
  -- white offers and moves; black offers, and white moves; black, to move, offers, and something else follows
  pub offered_and_moved : offer_stands (after (after two_kings (offer_draw 0)) moved) ≡ true
  pub not_answered : offer_stands (after (after two_kings (offer_draw 1)) moved) ≡ false
  pub only_offers : offer_stands (after (after two_kings moved) moved) ≡ false
  pub moved_last : offer_stands (after two_kings moved) ≡ false
  -- what ends a game is no offer, last or last but one
  pub accepted_last : offer_stands (after two_kings accept_draw) ≡ false
  pub declared_last : offer_stands (after two_kings declare_draw) ≡ false
  pub resigned_last : offer_stands (after two_kings (resign 1)) ≡ false
  pub accepted_before : offer_stands (after (after two_kings accept_draw) moved) ≡ false
  pub declared_before : offer_stands (after (after two_kings declare_draw) moved) ≡ false
  pub resigned_before : offer_stands (after (after two_kings (resign 0)) moved) ≡ false
  -- two moves ago it has lapsed
  pub lapsed : offer_stands (after (after (after two_kings (offer_draw 0)) moved) (plays "e8d8" white_to_move)) ≡ false

-- both counts and the run after one move: the crate's count, the Laws' count, how many positions the run has
pub record Counted (from to : String) (move : String) (count laws run : ℕ) : Type 0 where
  pub count_is : (ruling (after (begun (stands from 0 [])) (plays move (stands to 0 [])))).count ≡ count
  pub laws_is : laws_count (after (begun (stands from 0 [])) (plays move (stands to 0 []))) ≡ laws
  pub run_is : length (ruling (after (begun (stands from 0 [])) (plays move (stands to 0 [])))).run ≡ run

-- "a move with a pawn on its source, or onto an occupied square, empties both; and so does a change of either side's rights"; the Laws know no rights
pub record CountedByOne : Type 0 where
  pub knight : Counted "8/8/8/8/8/8/8/1N6 w - -" "8/8/8/8/8/2N5/8/8 b - -" "b1c3" 1 1 2
  pub white_pawn : Counted "8/8/8/8/8/8/P7/8 w - -" "8/8/8/8/8/P7/8/8 b - -" "a2a3" 0 0 1
  pub black_pawn : Counted "8/p7/8/8/8/8/8/8 b - -" "8/8/p7/8/8/8/8/8 w - -" "a7a6" 0 0 1
  pub takes_pawn : Counted "8/8/8/8/8/2p5/8/1N6 w - -" "8/8/8/8/8/2N5/8/8 b - -" "b1c3" 0 0 1
  pub takes_king : Counted "8/8/8/8/8/2k5/8/1N6 w - -" "8/8/8/8/8/2N5/8/8 b - -" "b1c3" 0 0 1
  pub white_right : Counted "8/8/8/8/8/8/8/4K2R w K -" "8/8/8/8/8/8/8/3K3R b - -" "e1d1" 0 1 1
  pub black_right : Counted "r3k3/8/8/8/8/8/8/8 b q -" "r2k4/8/8/8/8/8/8/8 w - -" "e8d8" 0 1 1

-- what an accepted call gives back and leaves, and that a refused one leaves all as it was
pub record LeftByCalls : Type 0 where
  pub move_counts : counts_after 0 3 2 moved ≡ record { number = 0; actions = 4; moves = 3 }
  pub other_counts : counts_after 0 3 2 declare_draw ≡ record { number = 0; actions = 4; moves = 2 }
  pub offer_counts : counts_after 0 3 2 (offer_draw 0) ≡ record { number = 0; actions = 4; moves = 2 }
  pub accept_counts : counts_after 0 3 2 accept_draw ≡ record { number = 0; actions = 4; moves = 2 }
  pub resign_counts : counts_after 0 3 2 (resign 0) ≡ record { number = 0; actions = 4; moves = 2 }
  pub refused_counts : counts_after 9 3 2 moved ≡ record { number = 9; actions = 3; moves = 2 }
  -- e1d1 is 4 + 64 × 3
  pub move_bytes : actions_after 0 (replicate 12 9) 1 moved ≡ 9 ∷ 9 ∷ 9 ∷ 9 ∷ 1 ∷ 0 ∷ 196 ∷ 0 ∷ 9 ∷ 9 ∷ 9 ∷ 9 ∷ []
  pub offer_bytes : actions_after 0 (replicate 8 9) 0 (offer_draw 1) ≡ 2 ∷ 1 ∷ 0 ∷ 0 ∷ 9 ∷ 9 ∷ 9 ∷ 9 ∷ []
  pub accept_bytes : actions_after 0 (replicate 4 9) 0 accept_draw ≡ 3 ∷ 0 ∷ 0 ∷ 0 ∷ []
  pub declare_bytes : actions_after 0 (replicate 4 9) 0 declare_draw ≡ 4 ∷ 0 ∷ 0 ∷ 0 ∷ []
  pub resign_bytes : actions_after 0 (replicate 4 9) 0 (resign 1) ≡ 5 ∷ 1 ∷ 0 ∷ 0 ∷ []
  pub refused_bytes : actions_after 9 (replicate 4 9) 0 (resign 1) ≡ replicate 4 9
  pub move_position : positions_after 0 (replicate 1753 9) 1 moved ≡ replicate 1168 9 ++ (position_bytes black_to_move ++ (9 ∷ []))
  pub refused_position : positions_after 9 (replicate 4 9) 0 moved ≡ replicate 4 9
  pub begun_position : positions_begun 0 (replicate 585 9) black_to_move ≡ position_bytes black_to_move ++ (9 ∷ [])
  pub refused_start : positions_begun 5 (replicate 4 9) black_to_move ≡ replicate 4 9
  -- 8,192 actions of 4 bytes; the start and 4,096 positions of 584
  pub actions_part : actions_length limits ≡ 32768
  pub positions_part : positions_length limits ≡ 2392648
