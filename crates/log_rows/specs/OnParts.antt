-- What is read off a log's two parts, by numbers: the result, a standing offer, where the run begins, the claim (document 01, "Draws and endings"); and what
-- calls leave in parts that held nines. A game of knights with two offers, a pawn's move and a lost right; and parts that no game has.
-- Assumes nothing.
use Rattle.std.specs.Prelude.{ℕ, ◌≡◌, true, false, List, [], ◌∷◌, ◌++◌, replicate, take}
use Prim.Native.String.{String}
use Rattle.answer.specs.Answer.{refused}
use Rattle.answer.specs.Ascii.{ascii}
use Rattle.chess_move.specs.Coordinate.{read_move}
use Rattle.position.specs.Layout.{Position}
use Rattle.stored_position.specs.Bytes.{position_bytes}
use Rattle.ending.specs.Ending.{result_at, offer_at}
use Rattle.claim.specs.declared.Run.{Run}
use Rattle.claim.specs.Claim.{run_after, run_at, moves_since, claim_in, claim_at}
use Rattle.game_rules.specs.Limits.{Limits}
use Rattle.game_rules.specs.Rules.{Call, make_move, offer_draw, accept_draw, resign, History, begun, after}
use Rattle.game_rules.specs.Good.{position_part}
use Rattle.game_rules.specs.Calls.{result_answer}
use Rattle.game_rules.specs.Promises.{Left, started, played, counts_on, first_only}
use Rattle.laws.specs.Laws.{moves_made, rights_kept}
use Rattle.laws.specs.Clock.{stopped_at, clock_from, full_from}
use Rattle.laws.specs.Ruling.{ruling_answer}
use Rattle.log_rows.specs.Games.{stands, counted_at, plays}
use Rattle.log_rows.specs.Bytes.{ten, kings_on_e, kings_offered, kings_once, kings_twice, kings_resigned, acts_of, positions_laid}
use Rattle.log_rows.specs.NotGood.{king_moves}

-- white offers, b1c3, b8c6, black offers; a2a3, c6b8, h1g1 with which a right goes
abbrev pub knights_offered : History
knights_offered =
    after (after (after (after (begun (stands "rn2k3/8/8/8/8/8/P7/1N2K2R w Kq -" 0 ("b1c3" ∷ []))) (offer_draw 0))
    (plays "b1c3" (counted_at 1 1 (stands "rn2k3/8/8/8/8/2N5/P7/4K2R b Kq -" 0 ("b8c6" ∷ [])))))
    (plays "b8c6" (counted_at 2 2 (stands "r3k3/8/2n5/8/8/2N5/P7/4K2R w Kq -" 0 ("a2a3" ∷ []))))) (offer_draw 1)

abbrev pub knights_out : History
knights_out =
    after (after (after knights_offered (plays "a2a3" (counted_at 0 2 (stands "r3k3/8/2n5/8/8/P1N5/8/4K2R b Kq -" 0 ("c6b8" ∷ [])))))
    (plays "c6b8" (counted_at 1 3 (stands "rn2k3/8/8/8/8/P1N5/8/4K2R w Kq -" 0 ("h1g1" ∷ [])))))
    (plays "h1g1" (counted_at 2 3 (stands "rn2k3/8/8/8/8/P1N5/8/4K1R1 b q -" 0 ("b8c6" ∷ []))))

-- white offers and moves
abbrev pub offered_moved : History
offered_moved = after (after (begun kings_on_e) (offer_draw 0)) king_moves

-- the two parts of a history as it goes on
abbrev pub result_read : History → ℕ → ℕ → ℕ
result_read h n m = result_at (acts_of h) (positions_laid h) n m

pub record ReadOffParts : Type 0 where
  pub goes_on : result_read kings_twice 9 8 ≡ 0
  pub resigned : result_read kings_resigned 10 8 ≡ 4
  pub stalemated : result_at [] (position_bytes (stands "7k/5Q2/6K1/8/8/8/8/8 b - -" 0 [])) 0 0 ≡ 5
  pub mated : result_at [] (position_bytes (stands "rnb1kbnr/pppp1ppp/8/4p3/6Pq/5P2/PPPPP2P/RNBQKBNR w KQkq -" 1 [])) 0 0 ≡ 3
  -- the last action is an offer, or the last but one by the side not to move
  pub offered : offer_at (acts_of kings_offered) (positions_laid kings_offered) 1 0 ≡ true
  pub offered_before : offer_at (acts_of offered_moved) (positions_laid offered_moved) 2 1 ≡ true
  pub offered_by_white : offer_at (acts_of (after (begun kings_on_e) (offer_draw 0))) (positions_laid kings_offered) 1 0 ≡ true
  pub offered_by_other : offer_at (acts_of (after kings_offered king_moves)) (positions_laid offered_moved) 2 1 ≡ false
  pub none_offered : offer_at (acts_of kings_twice) (positions_laid kings_twice) 9 8 ≡ false
  pub lapsed : offer_at (acts_of knights_out) (positions_laid knights_out) 3 2 ≡ false
  -- one move counted that was not made, and one action that is none: with either count for both the log would be good
  pub one_move_more : result_answer ten (acts_of kings_once) (positions_laid kings_once) 5 5 ≡ refused 9
  pub other_count : ruling_answer ten (take 4 (acts_of (after (begun kings_on_e) king_moves)) ++ replicate 36 0) (positions_laid offered_moved) 2 1
      ≡ record { number = 9; count = 0; laws_count = 0; equals = 0; first = 0; second = 0; claim = 0; laws_claim = 0 }
  pub other_move_count : ruling_answer ten (acts_of (after (begun kings_on_e) king_moves)) (positions_laid offered_moved) 1 0
      ≡ record { number = 9; count = 0; laws_count = 0; equals = 0; first = 0; second = 0; claim = 0; laws_claim = 0 }

-- where the run of positions begins, and the count: by position 0, by 3 after the pawn's move, by 5 after the right is lost
abbrev pub run_read : ℕ → Run
run_read n = run_at (acts_of knights_out) (positions_laid knights_out) n

-- a move with number 9, from a run that began at 4 and a count that began at 5
abbrev pub run_on : String → String → String → Run
run_on from move to = run_after (stands from 0 []) (read_move (ascii move)).value (stands to 0 []) 9 (record { first = 4; since = 5 })

-- h7h6 as the third of three moves between positions that are all equal, behind an offer: no game has these parts
abbrev pub pawn_third : List ℕ
pawn_third = 2 ∷ 0 ∷ 0 ∷ 0 ∷ 1 ∷ 0 ∷ 129 ∷ 4 ∷ 1 ∷ 0 ∷ 129 ∷ 4 ∷ 1 ∷ 0 ∷ 247 ∷ 11 ∷ []

abbrev pub four_equal : List ℕ
four_equal =
    let p = position_bytes (stands "8/7p/8/8/8/8/8/1N6 w - -" 0 []) in
    p ++ (p ++ (p ++ p))

-- two equal positions with rooks on a1 and h8
abbrev pub rooks_twice : List ℕ
rooks_twice =
    let p = position_bytes (stands "7r/8/8/8/8/8/8/R7 w - -" 0 []) in
    p ++ p

pub record RunsRead : Type 0 where
  pub from_start : run_read 3 ≡ record { first = 0; since = 0 }
  pub offer_leaves_it : run_read 4 ≡ record { first = 0; since = 0 }
  pub by_a_pawn : run_read 5 ≡ record { first = 3; since = 3 }
  pub goes_on : run_read 6 ≡ record { first = 3; since = 3 }
  pub by_a_right : run_read 7 ≡ record { first = 5; since = 5 }
  -- an offer is no move, whatever stands on a1; the move with the last number, 28,671, onto the occupied h8; and an offer behind it
  pub only_an_offer : run_at (2 ∷ 0 ∷ 0 ∷ 0 ∷ []) rooks_twice 1 ≡ record { first = 0; since = 0 }
  pub last_number : run_at (1 ∷ 0 ∷ 255 ∷ 111 ∷ []) rooks_twice 1 ≡ record { first = 1; since = 1 }
  pub offer_behind : run_at (1 ∷ 0 ∷ 255 ∷ 111 ∷ 2 ∷ 0 ∷ 0 ∷ 0 ∷ []) rooks_twice 2 ≡ record { first = 1; since = 1 }
  -- one move: a quiet one, one from an empty square, a pawn's, a capture, and changes of each side's rights, lost or gained
  pub quiet : run_on "8/8/8/8/8/8/8/1N6 w Kq -" "b1c3" "8/8/8/8/8/2N5/8/8 b Kq -" ≡ record { first = 4; since = 5 }
  pub from_nothing : run_on "8/8/8/8/8/8/8/1N6 w - -" "a1a2" "8/8/8/8/8/8/8/1N6 b - -" ≡ record { first = 4; since = 5 }
  pub pawn : run_on "8/8/8/8/8/8/P7/8 w - -" "a2a3" "8/8/8/8/8/P7/8/8 b - -" ≡ record { first = 9; since = 9 }
  pub capture : run_on "8/8/8/8/8/2n5/8/1N6 w - -" "b1c3" "8/8/8/8/8/2N5/8/8 b - -" ≡ record { first = 9; since = 9 }
  pub white_lost : run_on "8/8/8/8/8/8/8/1N6 w Kq -" "b1c3" "8/8/8/8/8/2N5/8/8 b q -" ≡ record { first = 9; since = 9 }
  pub black_lost : run_on "8/8/8/8/8/8/8/1N6 w Kq -" "b1c3" "8/8/8/8/8/2N5/8/8 b K -" ≡ record { first = 9; since = 9 }
  pub white_gained : run_on "8/8/8/8/8/8/8/1N6 w q -" "b1c3" "8/8/8/8/8/2N5/8/8 b Kq -" ≡ record { first = 9; since = 9 }
  pub black_gained : run_on "8/8/8/8/8/8/8/1N6 w K -" "b1c3" "8/8/8/8/8/2N5/8/8 b Kq -" ≡ record { first = 9; since = 9 }

pub record ClaimsRead : Type 0 where
  pub since_5 : moves_since 5 12 ≡ 7
  pub since_later : moves_since 12 5 ≡ 0
  pub third_time : claim_at (acts_of kings_twice) (positions_laid kings_twice) 9 8 ≡ true
  pub second_time : claim_at (acts_of kings_once) (positions_laid kings_once) 5 4 ≡ false
  -- nine actions have 36 bytes
  pub just_long_enough : claim_at (take 36 (acts_of kings_twice)) (positions_laid kings_twice) 9 8 ≡ true
  pub one_byte_short : claim_at (take 35 (acts_of kings_twice)) (positions_laid kings_twice) 9 8 ≡ false
  -- equal positions before the run count for nothing
  pub equal_before : claim_at pawn_third four_equal 4 3 ≡ false
  pub equal_in_it : claim_in four_equal 3 (record { first = 0; since = 3 }) ≡ true
  pub one_in_it : claim_in four_equal 3 (record { first = 2; since = 0 }) ≡ false
  pub count_100 : claim_in [] 107 (record { first = 100; since = 7 }) ≡ true
  pub count_99 : claim_in [] 106 (record { first = 1; since = 7 }) ≡ false

-- the counters run on from a start's, and whether the Laws' count has seen a right change
pub record ClocksRead : Type 0 where
  pub below : stopped_at 9 5 ≡ 5
  pub at_it : stopped_at 9 9 ≡ 9
  pub above : stopped_at 9 12 ≡ 9
  pub all_counted : clock_from 7 3 3 ≡ 10
  pub begun_again : clock_from 7 3 5 ≡ 3
  pub more_than_made : clock_from 7 5 3 ≡ 5
  pub clock_stops : clock_from 9997 3 3 ≡ 9999
  pub white_began : full_from 40 0 3 ≡ 41
  pub black_began : full_from 40 1 3 ≡ 42
  pub black_began_even : full_from 40 1 4 ≡ 42
  pub number_stops : full_from 9998 1 3 ≡ 9999
  pub kept : rights_kept (moves_made knights_offered) ≡ true
  pub lost : rights_kept (moves_made knights_out) ≡ false
  pub lost_earlier : rights_kept (moves_made (after knights_out (plays "b8c6" (stands "r3k3/8/2n5/8/8/P1N5/8/4K1R1 w q -" 0 [])))) ≡ false
  pub lost_before : rights_kept (moves_made (after knights_out (plays "a3a4" (stands "rn2k3/8/8/8/P7/2N5/8/4K1R1 w q -" 0 [])))) ≡ true

-- three actions and one move: parts of 12 and of 1,168 bytes, each lent with one byte more
abbrev pub three_one : Limits
three_one = record { most_actions = 3; most_moves = 1 }

-- two actions and two moves; both kings go to the next file
abbrev pub two_two : Limits
two_two = record { most_actions = 2; most_moves = 2 }

abbrev pub kings_moved : History
kings_moved = after (after (begun kings_on_e) king_moves) (plays "e8d8" (counted_at 2 2 (stands "3k4/8/8/8/8/8/8/3K4 w - -" 0 ("d1e1" ∷ []))))

abbrev pub left_played : History → List ℕ → List ℕ → Left
left_played h acts ps = played three_one h acts ps

pub record LeftOnParts : Type 0 where
  pub begun_left : started three_one (replicate 13 9) (replicate 1169 9) kings_on_e
      ≡ record {
        counts = record { number = 0; actions = 0; moves = 0 };
        acts = replicate 13 9;
        ps = position_bytes kings_on_e ++ replicate 585 9;
      }
  pub short_actions : started three_one (replicate 11 9) (replicate 1169 9) kings_on_e
      ≡ record { counts = record { number = 16; actions = 0; moves = 0 }; acts = replicate 11 9; ps = replicate 1169 9 }
  pub short_positions : started three_one (replicate 1169 9) (replicate 13 9) kings_on_e
      ≡ record { counts = record { number = 16; actions = 0; moves = 0 }; acts = replicate 1169 9; ps = replicate 13 9 }
  -- an offer, a move and a resignation
  pub all_played : left_played (after offered_moved (resign 1)) (replicate 13 9) (replicate 1169 8)
      ≡ record {
        counts = record { number = 0; actions = 3; moves = 1 };
        acts = 2 ∷ 0 ∷ 0 ∷ 0 ∷ 1 ∷ 0 ∷ 196 ∷ 0 ∷ 5 ∷ 1 ∷ 0 ∷ 0 ∷ 9 ∷ [];
        ps = position_bytes kings_on_e ++ (position_bytes (counted_at 1 1 (stands "4k3/8/8/8/8/8/8/3K4 b - -" 0 ("e8d8" ∷ []))) ++ (8 ∷ []));
      }
  -- parts that are too short from the start on: nothing is counted
  pub none_played : left_played offered_moved (replicate 11 9) (replicate 1169 8)
      ≡ record { counts = record { number = 16; actions = 0; moves = 0 }; acts = replicate 11 9; ps = replicate 1169 8 }
  pub none_laid : left_played offered_moved (replicate 1169 9) (replicate 13 8)
      ≡ record { counts = record { number = 16; actions = 0; moves = 0 }; acts = replicate 1169 9; ps = replicate 13 8 }
  -- a resignation behind the move is no more counted than the move
  pub none_played_on : left_played (after offered_moved (resign 1)) (replicate 11 9) (replicate 1169 8)
      ≡ record { counts = record { number = 16; actions = 0; moves = 0 }; acts = replicate 11 9; ps = replicate 1169 8 }
  pub none_laid_on : left_played (after offered_moved (resign 1)) (replicate 1169 9) (replicate 13 8)
      ≡ record { counts = record { number = 16; actions = 0; moves = 0 }; acts = replicate 1169 9; ps = replicate 13 8 }
  -- a second move: its position is the third
  pub two_moves : played two_two kings_moved (replicate 8 9) (replicate 1752 8)
      ≡ record {
        counts = record { number = 0; actions = 2; moves = 2 };
        acts = 1 ∷ 0 ∷ 196 ∷ 0 ∷ 1 ∷ 0 ∷ 252 ∷ 14 ∷ [];
        ps = position_part kings_moved;
      }
  -- the log that merely says yes: its first call is stored, a later one only counted
  pub counted_move : counts_on 5 3 king_moves ≡ (6, 4)
  pub counted_other : counts_on 5 3 accept_draw ≡ (6, 3)
  pub yes_first : (first_only counts_on three_one (replicate 13 9) (positions_laid (begun kings_on_e)) 0 0 (resign 1)).acts
      ≡ 5 ∷ 1 ∷ 0 ∷ 0 ∷ replicate 9 9
  pub yes_later : first_only counts_on three_one (replicate 13 9) (replicate 1169 8) 2 1 king_moves
      ≡ record { counts = record { number = 0; actions = 3; moves = 2 }; acts = replicate 13 9; ps = replicate 1169 8 }
  -- a count of moves with no action: refused, and given back as it was
  pub yes_refused : (first_only counts_on three_one (replicate 13 9) (positions_laid (begun kings_on_e)) 0 1 (resign 1)).counts
      ≡ record { number = 9; actions = 0; moves = 1 }
