-- The lines at their smallest (document 02, orders 10 and 12): rolls of the empty record with something changed, under limits of two actions and two moves.
-- Assumes nothing.
use Rattle.std.specs.Prelude.{ℕ, ◌≡◌, List, [], ◌∷◌, ◌++◌, replicate, set}
use Rattle.answer.specs.Ascii.{ascii}
use Rattle.answer.specs.Answer.{out_of_range, bad_roll, accepted, refused, too_short}
use Rattle.board_builder.specs.BoardBuilder.{record_size}
use Rattle.game_rules.specs.Limits.{Limits}
use Rattle.differences_text.specs.Calls.{differences_text, differences_answer}

abbrev pub two_of_each : Limits
two_of_each = record { most_actions = 2; most_moves = 2 }

abbrev pub tells : List ℕ → List ℕ → List ℕ
tells s t = differences_text two_of_each s t

-- a line and its newline
abbrev pub with_newline : List ℕ → List ℕ
with_newline line = line ++ (10 ∷ [])

-- the roll of the empty record with number i of the 68 changed to x and no action, that with these bytes for its counters and no action, and that of the
-- empty record with some actions
abbrev pub with : ℕ → ℕ → List ℕ
with i x = set (replicate record_size 0) i x ++ (0 ∷ 1 ∷ 0 ∷ [])

abbrev pub starts_with : List ℕ → List ℕ
starts_with counters = replicate record_size 0 ++ (counters ++ (0 ∷ []))

abbrev pub doing : List ℕ → List ℕ
doing acts = replicate record_size 0 ++ (0 ∷ 1 ∷ acts)

abbrev pub plain : List ℕ
plain = doing (0 ∷ [])

pub record LinesAtSmallest : Type 0 where
  -- "squares that differ on e4 print `28 1 0`"
  pub on_e4 : tells (with 28 1) plain ≡ with_newline (ascii "28 1 0")
  pub side : tells plain (with 64 1) ≡ with_newline (ascii "side 0 1")
  pub white : tells (with 65 3) plain ≡ with_newline (ascii "white 3 0")
  pub black : tells (with 66 2) plain ≡ with_newline (ascii "black 2 0")
  pub file : tells plain (with 67 8) ≡ with_newline (ascii "ep 0 8")
  -- 9,999 is 78 × 128 + 15
  pub half : tells plain (starts_with (143 ∷ 78 ∷ 1 ∷ [])) ≡ with_newline (ascii "half 0 9999")
  pub full : tells plain (starts_with (0 ∷ 2 ∷ [])) ≡ with_newline (ascii "full 1 2")
  pub in_order : tells (with 0 12) (with 67 1) ≡ with_newline (ascii "0 12 0") ++ with_newline (ascii "ep 0 1")
  -- "`half` and `full` after `ep`", before the action
  pub counters_in_order : tells (with 67 3) (replicate record_size 0 ++ (5 ∷ 2 ∷ 1 ∷ 4 ∷ []))
      ≡ with_newline (ascii "ep 3 0") ++ (with_newline (ascii "half 0 5") ++ (with_newline (ascii "full 1 2") ++ with_newline (ascii "action 0 0 4")))
  -- the start's lines, then the action's
  pub action_last : tells (set (replicate record_size 0) 28 1 ++ (0 ∷ 1 ∷ 1 ∷ 4 ∷ [])) plain ≡ with_newline (ascii "28 1 0") ++ with_newline
      (ascii "action 0 4 0")
  pub equal : tells (doing (1 ∷ 4 ∷ [])) (doing (1 ∷ 4 ∷ [])) ≡ []
  -- an offer by white, 4, and then move 300, 2 + 16 × 300; where both actions differ the first is told
  pub an_action : tells (doing (2 ∷ 4 ∷ 2 ∷ 172 ∷ 2 ∷ [])) (doing (2 ∷ 4 ∷ 6 ∷ [])) ≡ with_newline (ascii "action 1 4802 6")
  pub the_first : tells (doing (2 ∷ 4 ∷ 5 ∷ [])) (doing (2 ∷ 5 ∷ 4 ∷ [])) ≡ with_newline (ascii "action 0 4 5")
  -- one game's actions are the front of the other's: "0 if there is none"
  pub none_in_second : tells (doing (2 ∷ 4 ∷ 5 ∷ [])) (doing (1 ∷ 4 ∷ [])) ≡ with_newline (ascii "action 1 5 0")
  pub none_in_first : tells plain (doing (1 ∷ 2 ∷ 0 ∷ [])) ≡ with_newline (ascii "action 0 0 2")

-- the first roll is cut short, 17, and the second has a number over its bound, 5
pub record RefusalsAtSmallest : Type 0 where
  pub first_roll_first : differences_answer two_of_each [] (13 ∷ []) 0 ≡ refused bad_roll
  pub then_the_second : differences_answer two_of_each plain (13 ∷ []) 0 ≡ refused out_of_range
  pub then_7 : differences_answer two_of_each (with 28 1) plain 6 ≡ too_short 7
  pub accepted : differences_answer two_of_each (with 28 1) plain 7 ≡ accepted 7
