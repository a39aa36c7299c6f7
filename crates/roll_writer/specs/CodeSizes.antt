-- How many bytes an action takes in a roll, by one look at its four bytes: none where they hold no action in range.
-- Assumes nothing.
use Rattle.std.specs.Prelude.{ℕ, ◌+◌, ◌≤◌, ◌<◌, ◌≡◌, cond, List, [], ◌∷◌, ◌++◌, eqb, length, take, Option, Some, None, Result, Ok, Err}
use Rattle.std.specs.Simd.{first_chunks}
use Rattle.board_builder.specs.declared.BoardBuilder.{BoardBuilder}
use Rattle.board_builder.specs.BoardBuilder.{record_size, numbers}
use Rattle.action.specs.Layout.{action_size, moves_here, action_of}
use Rattle.actions.specs.Part.{is_held, actions_held}
use Rattle.roll_text.specs.Number.{number_text}
use Rattle.roll_text.specs.Roll.{kind_at, colour_at, move_number_at, action_text, actions_text}

-- the text of a start in range: 68 bytes, and the counters
unfoldable pub start_text : BoardBuilder → List ℕ
start_text b = numbers b ++ (number_text b.half_moves ++ number_text b.full_moves)

-- it has no more bytes than that
abbrev pub start_most : ℕ
start_most = record_size + 10

abbrev pub move_size : ℕ → ℕ → Option ℕ
move_size colour move = cond (is_held (moves_here colour move)) (Some (1 + length (number_text move))) None

abbrev pub plain_size : List ℕ → Option ℕ
plain_size bytes = cond (is_held (action_of bytes)) (Some 1) None

-- for the action at the front of some bytes
unfoldable pub size_at : List ℕ → Option ℕ
size_at bs = cond (is_held (action_of (take action_size bs))) (Some (length (action_text (kind_at bs) (colour_at bs) (move_number_at bs)))) None

-- the text of some actions, one after the other
unfoldable pub text_of : List (List ℕ) → List ℕ
text_of [] = []
text_of (a ∷ more) = action_text (kind_at a) (colour_at a) (move_number_at a) ++ text_of more

-- they are the first of a part
abbrev pub are_first : List (List ℕ) → List ℕ → Type 0
are_first actions part = actions ≡ first_chunks action_size (length actions) part

-- the length of the text of the first n, or none if one of them is not an action in range
unfoldable pub actions_size : ℕ → List ℕ → Option ℕ
actions_size n acts = cond (actions_held acts n) (Some (length (actions_text n acts))) None

-- the length of a text, or the refusal of its check
abbrev pub measured : ℕ → List ℕ → Result ℕ ℕ
measured check text = cond (eqb check 0) (Ok (length text)) (Err check)

-- the fields of a move whose number has two groups
pub record Short (kind colour move : ℕ) : Type 0 where
  pub moves : kind ≡ 1
  pub none : colour ≡ 0
  pub least : 128 ≤ move
  pub most : move < 16384
