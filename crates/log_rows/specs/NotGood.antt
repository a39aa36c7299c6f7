-- Logs that no accepted calls make (9), each one byte or one count away from a good one, on the bytes of the game of both kings; and the room for a move (13).
-- Assumes nothing.
use Rattle.std.specs.Prelude.{ℕ, ◌≡◌, List, [], ◌∷◌, ◌++◌, set, replicate}
use Rattle.answer.specs.Answer.{accepted, refused}
use Rattle.game_rules.specs.Limits.{Limits}
use Rattle.game_rules.specs.Rules.{Call, offer_draw, accept_draw, declare_draw, begun, after}
use Rattle.game_rules.specs.Calls.{result_answer, call_answer}
use Rattle.log_rows.specs.Games.{stands, counted_at, plays}
use Rattle.log_rows.specs.Bytes.{ten, kings_on_e, kings_offered, kings_once, kings_twice, acts_of, positions_laid}

-- no move may come, and two actions
abbrev pub no_move_more : Limits
no_move_more = record { most_actions = 2; most_moves = 0 }

-- e1d1, and the position after it
abbrev pub king_moves : Call
king_moves = plays "e1d1" (counted_at 1 1 (stands "4k3/8/8/8/8/8/8/3K4 b - -" 0 ("e8d8" ∷ [])))

pub record LogsNotGood : Type 0 where
  pub good : result_answer ten (acts_of kings_once) (positions_laid kings_once) 5 4 ≡ accepted 0
  -- a byte of the offer that an offer leaves 0; a byte behind the list of position 1
  pub rest_of_action : result_answer ten (set (acts_of kings_once) 2 7) (positions_laid kings_once) 5 4 ≡ refused 9
  pub rest_of_position : result_answer ten (acts_of kings_once) (set (positions_laid kings_once) 704 1) 5 4 ≡ refused 9
  -- position 1 without its half-move counted, low byte at 584 + 68; and in move 2
  pub half_not_counted : result_answer ten (acts_of kings_once) (set (positions_laid kings_once) 652 0) 5 4 ≡ refused 9
  pub full_counted : result_answer ten (acts_of kings_once) (set (positions_laid kings_once) 654 2) 5 4 ≡ refused 9
  -- the first action is one that would have been refused, 14: nothing was offered; 15: nothing to claim; or is no action
  pub accepts_nothing : result_answer ten (3 ∷ replicate 39 0) (positions_laid kings_offered) 1 0 ≡ refused 9
  pub claims_nothing : result_answer ten (4 ∷ replicate 39 0) (positions_laid kings_offered) 1 0 ≡ refused 9
  pub no_action : result_answer ten (replicate 40 0) (positions_laid kings_offered) 1 0 ≡ refused 9
  -- an accepted draw, and a declared one
  pub accepted_draw : result_answer ten (acts_of (after kings_offered accept_draw)) (positions_laid kings_offered) 2 0 ≡ accepted 6
  pub declared_draw : result_answer ten (acts_of (after kings_twice declare_draw)) (positions_laid kings_twice) 10 8 ≡ accepted 7
  -- 16 before 9 for a count over its limit
  pub short_first : result_answer ten [] [] 11 9 ≡ refused 16
  -- 13: a move where no move may come, while an offer may
  pub no_room : call_answer no_move_more (replicate 8 0) (positions_laid (begun kings_on_e)) 0 0 king_moves ≡ 13
  pub room : call_answer no_move_more (replicate 8 0) (positions_laid (begun kings_on_e)) 0 0 (offer_draw 0) ≡ 0
  -- 13: any call behind the last action that may come, the one before it still had room
  pub no_action_more : call_answer no_move_more (2 ∷ 0 ∷ 0 ∷ 0 ∷ 2 ∷ 1 ∷ 0 ∷ 0 ∷ []) (positions_laid (begun kings_on_e)) 2 0 (offer_draw 0) ≡ 13
  pub last_action : call_answer no_move_more (2 ∷ 0 ∷ 0 ∷ 0 ∷ 2 ∷ 1 ∷ 0 ∷ 0 ∷ []) (positions_laid (begun kings_on_e)) 1 0 (offer_draw 1) ≡ 0
