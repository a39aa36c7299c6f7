-- Order 3 in sentences: where a coordinate text is at fault; and that number and move are as before.
-- Assumes nothing.
use Rattle.std.specs.Prelude.{ℕ, ◌+◌, ◌*◌, ◌/◌, ◌%◌, ◌<◌, ◌≤◌, ◌≡◌, Bool, true, false, cond, List, ◌⊎◌, eqb, length, get_or}
use Rattle.answer.specs.Answer.{fault_at, invalid_square, invalid_uci_move}
use Rattle.answer.specs.Ascii.{ascii}
use Rattle.answer.specs.Numbers.{among}
use Rattle.answer.specs.Numbers.{between}
use Rattle.chess_move.specs.Coordinate.{read_move}
use Rattle.chess_move.specs.Base.{base_move}

-- what the byte at a place must be: a to h at 0 and 2, 1 to 8 at 1 and 3
abbrev pub in_place : List ℕ → ℕ → Bool
in_place s k = cond (eqb (k % 2) 0) (between 97 104 (get_or s k 0)) (between 49 56 (get_or s k 0))

abbrev pub GoodUpTo : List ℕ → ℕ → Type 0
GoodUpTo s n = (k : ℕ) → k < n → in_place s k ≡ true

-- "the faulty byte's": the first bad one of the four, in a pair of which both bytes are there
pub record BadByte (s : List ℕ) (at : ℕ) : Type 0 where
  pub of_four : at < 4
  pub pair : at / 2 * 2 + 2 ≤ length s
  pub bad : in_place s at ≡ false
  pub none_before : GoodUpTo s at

-- "a pair is not there", and the one before it, if it is there, is good
pub record NoPair (s : List ℕ) : Type 0 where
  pub short : length s < 4
  pub none_before : GoodUpTo s (length s / 2 * 2)

-- two good pairs and a fifth and last byte that is not q, r, n or b
pub record BadLetter (s : List ℕ) : Type 0 where
  pub five : length s ≡ 5
  pub none_before : GoodUpTo s 4
  pub bad : among (get_or s 4 0) (ascii "qrnb") ≡ false

-- what is said about a text
pub record SaysWhere (s : List ℕ) : Type 0 where
  -- number and move are as before
  pub number : (read_move s).number ≡ (base_move s).number
  pub value : (read_move s).value ≡ (base_move s).value
  -- 2, exactly at the first bad byte
  pub byte : (at : ℕ) → BadByte s at → read_move s ≡ fault_at invalid_square at
  pub byte_only : (read_move s).number ≡ invalid_square → BadByte s (read_move s).offset
  -- 3, exactly where a pair is not there, with the text's length, or at the fifth byte
  pub no_pair : NoPair s → read_move s ≡ fault_at invalid_uci_move (length s)
  pub letter : BadLetter s → read_move s ≡ fault_at invalid_uci_move 4
  pub three_only : (read_move s).number ≡ invalid_uci_move → NoPair s ⊎ BadLetter s
  -- 0 to 4, and 0 if the text is accepted
  pub most : (read_move s).offset ≤ 4
  pub none : (read_move s).number ≡ 0 → (read_move s).offset ≡ 0

abbrev pub EveryTextIsToldWhere : Type 0
EveryTextIsToldWhere = (s : List ℕ) → SaysWhere s
