-- A game on its bytes: both kings go to the next file and back, twice, after an offer; then black resigns. What the queries answer to the log's two parts, at
-- limits of ten actions and eight moves (document 01, "Answer numbers", "Draws and endings"; document 02, order 5).
-- Assumes nothing.
use Rattle.std.specs.Prelude.{ℕ, ◌+◌, ◌≡◌, List, [], ◌∷◌, ◌++◌, replicate, take}
use Rattle.answer.specs.Answer.{accepted, refused}
use Rattle.position.specs.Layout.{Position}
use Rattle.game_rules.specs.Limits.{Limits}
use Rattle.game_rules.specs.Rules.{offer_draw, accept_draw, declare_draw, resign, History, begun, after}
use Rattle.game_rules.specs.Good.{action_part, position_part}
use Rattle.game_rules.specs.Calls.{result_answer, claim_answer, call_answer}
use Rattle.laws.specs.Ruling.{ruling_answer, laws_answer}
use Rattle.log_rows.specs.Games.{stands, counted_at, plays}

abbrev pub ten : Limits
ten = record { most_actions = 10; most_moves = 8 }

abbrev pub kings_on_e : Position
kings_on_e = stands "4k3/8/8/8/8/8/8/4K3 w - -" 0 ("e1d1" ∷ [])

-- once there and back, from these counters
abbrev pub there_and_back : ℕ → ℕ → History → History
there_and_back half full h =
    after (after (after (after h (plays "e1d1" (counted_at (half + 1) full (stands "4k3/8/8/8/8/8/8/3K4 b - -" 0 ("e8d8" ∷ [])))))
    (plays "e8d8" (counted_at (half + 2) (full + 1) (stands "3k4/8/8/8/8/8/8/3K4 w - -" 0 ("d1e1" ∷ [])))))
    (plays "d1e1" (counted_at (half + 3) (full + 1) (stands "3k4/8/8/8/8/8/8/4K3 b - -" 0 ("d8e8" ∷ [])))))
    (plays "d8e8" (counted_at (half + 4) (full + 2) kings_on_e))

abbrev pub kings_offered : History
kings_offered = after (begun kings_on_e) (offer_draw 1)

abbrev pub kings_once : History
kings_once = there_and_back 0 1 kings_offered

abbrev pub kings_twice : History
kings_twice = there_and_back 4 3 kings_once

abbrev pub kings_resigned : History
kings_resigned = after kings_twice (resign 1)

-- the two parts, at their full length
abbrev pub acts_of : History → List ℕ
acts_of h = take 40 (action_part h ++ replicate 40 0)

abbrev pub positions_laid : History → List ℕ
positions_laid h = take 5256 (position_part h ++ replicate 5256 0)

pub record RulingsOnBytes : Type 0 where
  -- the start stands once, twice, three times: both counts, how many earlier ones are equal and which are the first two, and the claims by reason
  pub at_start_lem : ruling_answer ten (acts_of kings_offered) (positions_laid kings_offered) 1 0
      ≡ record { number = 0; count = 0; laws_count = 0; equals = 0; first = 0; second = 0; claim = 0; laws_claim = 0 }
  pub after_one : ruling_answer ten (acts_of kings_once) (positions_laid kings_once) 5 4
      ≡ record { number = 0; count = 4; laws_count = 4; equals = 1; first = 0; second = 0; claim = 0; laws_claim = 0 }
  pub after_two : ruling_answer ten (acts_of kings_twice) (positions_laid kings_twice) 9 8
      ≡ record { number = 0; count = 8; laws_count = 8; equals = 2; first = 0; second = 4; claim = 2; laws_claim = 2 }
  pub when_over : ruling_answer ten (acts_of kings_resigned) (positions_laid kings_resigned) 10 8
      ≡ record { number = 0; count = 8; laws_count = 8; equals = 2; first = 0; second = 4; claim = 0; laws_claim = 0 }
  pub too_short_fact : ruling_answer ten [] (positions_laid kings_twice) 9 8
      ≡ record { number = 16; count = 0; laws_count = 0; equals = 0; first = 0; second = 0; claim = 0; laws_claim = 0 }
  pub not_good_lem : ruling_answer ten (acts_of kings_twice) (positions_laid kings_twice) 9 7
      ≡ record { number = 9; count = 0; laws_count = 0; equals = 0; first = 0; second = 0; claim = 0; laws_claim = 0 }
  -- with its two counts exchanged the log would be good
  pub exchanged : ruling_answer ten (acts_of kings_twice) (positions_laid kings_twice) 8 9
      ≡ record { number = 9; count = 0; laws_count = 0; equals = 0; first = 0; second = 0; claim = 0; laws_claim = 0 }

pub record QueriesOnBytes : Type 0 where
  pub no_claim : claim_answer ten (acts_of kings_once) (positions_laid kings_once) 5 4 ≡ accepted 0
  pub claim : claim_answer ten (acts_of kings_twice) (positions_laid kings_twice) 9 8 ≡ accepted 1
  pub claim_over : claim_answer ten (acts_of kings_resigned) (positions_laid kings_resigned) 10 8 ≡ accepted 0
  pub claim_refused : claim_answer ten [] (positions_laid kings_twice) 9 8 ≡ refused 16
  pub no_laws_claim : laws_answer ten (acts_of kings_once) (positions_laid kings_once) 5 4 ≡ accepted 0
  pub laws_claim : laws_answer ten (acts_of kings_twice) (positions_laid kings_twice) 9 8 ≡ accepted 1
  pub laws_over : laws_answer ten (acts_of kings_resigned) (positions_laid kings_resigned) 10 8 ≡ accepted 0
  pub laws_refused : laws_answer ten (acts_of kings_twice) (positions_laid kings_twice) 9 7 ≡ refused 9
  pub goes_on : result_answer ten (acts_of kings_twice) (positions_laid kings_twice) 9 8 ≡ accepted 0
  pub resigned : result_answer ten (acts_of kings_resigned) (positions_laid kings_resigned) 10 8 ≡ accepted 4
  pub result_refused : result_answer ten (acts_of kings_resigned) (positions_laid kings_resigned) 10 7 ≡ refused 9
  -- a draw may be declared at the third time and not at the second; an offer may be accepted right behind it
  pub declared : call_answer ten (acts_of kings_twice) (positions_laid kings_twice) 9 8 declare_draw ≡ 0
  pub not_declared : call_answer ten (acts_of kings_once) (positions_laid kings_once) 5 4 declare_draw ≡ 15
  pub accepts : call_answer ten (acts_of kings_offered) (positions_laid kings_offered) 1 0 accept_draw ≡ 0
  pub too_late : call_answer ten (acts_of kings_once) (positions_laid kings_once) 5 4 accept_draw ≡ 14
  pub ended : call_answer ten (acts_of kings_resigned) (positions_laid kings_resigned) 10 8 accept_draw ≡ 10
