-- Order 2 in sentences: when each of its three numbers is given, and with which offset; and that the same texts are refused as before.
-- Assumes nothing.
use Rattle.std.specs.Prelude.{ℕ, ◌+◌, ◌<◌, ◌≤◌, ◌≡◌, true, false, List, [], length, get_or}
use Rattle.answer.specs.Answer.{too_few_tokens, bad_placement, bad_side}
use Rattle.answer.specs.Ascii.{ascii}
use Rattle.answer.specs.Numbers.{among}
use Rattle.fen_text.specs.Token.{tokens, place_of}
use Rattle.fen_text.specs.Placement.{signs}
use Rattle.fen_text.specs.Read.{read_fen, refused_at, fen_of}
use Rattle.fen_text.specs.Base.{base_fen}

-- the first token is the placement, the second the side
abbrev pub nth_token : ℕ → List ℕ → List ℕ
nth_token k s = get_or (tokens s) k []

-- each byte before a place may stand in a placement
abbrev pub GoodUpTo : List ℕ → ℕ → Type 0
GoodUpTo token n = (k : ℕ) → k < n → among (get_or token k 0) signs ≡ true

-- "too few tokens"
abbrev pub TooFew : List ℕ → Type 0
TooFew s = length (tokens s) < 4

-- "a bad placement byte (its place)": enough tokens, and a byte that may not stand in a placement, with no such byte before it
pub record BadPlacement (s : List ℕ) (at : ℕ) : Type 0 where
  pub enough : 4 ≤ length (tokens s)
  pub within : at < length (nth_token 0 s)
  pub bad : among (get_or (nth_token 0 s) at 0) signs ≡ false
  pub none_before : GoodUpTo (nth_token 0 s) at

-- a token that is none of the four
pub record NoSide (token : List ℕ) : Type 0 where
  pub w : token ≡ ascii "w" → ⊥
  pub W : token ≡ ascii "W" → ⊥
  pub b : token ≡ ascii "b" → ⊥
  pub B : token ≡ ascii "B" → ⊥

-- "a bad side token (its start)": enough tokens, a good placement, and a side token other than the four, which starts behind the first space
pub record BadSide (s : List ℕ) (at : ℕ) : Type 0 where
  pub enough : 4 ≤ length (tokens s)
  pub good : GoodUpTo (nth_token 0 s) (length (nth_token 0 s))
  pub side : NoSide (nth_token 1 s)
  pub start : at ≡ place_of 32 s + 1

-- what is said about a text
pub record SaysWhere (s : List ℕ) : Type 0 where
  -- accepted exactly if it was before, with the same record, and the offset 0
  pub as_before : (base_fen s).number ≡ 0 → read_fen s ≡ fen_of (base_fen s).board
  pub not_more : (read_fen s).number ≡ 0 → (base_fen s).number ≡ 0
  -- 18, exactly if there are too few tokens
  pub few : TooFew s → read_fen s ≡ refused_at too_few_tokens (length s)
  pub few_only : (read_fen s).number ≡ too_few_tokens → TooFew s
  -- 19, exactly if a byte is bad, at the first of them
  pub placement : (at : ℕ) → BadPlacement s at → read_fen s ≡ refused_at bad_placement at
  pub placement_only : (read_fen s).number ≡ bad_placement → BadPlacement s (read_fen s).offset
  -- 20, exactly if the side alone is bad
  pub side : (at : ℕ) → BadSide s at → read_fen s ≡ refused_at bad_side at
  pub side_only : (read_fen s).number ≡ bad_side → BadSide s (read_fen s).offset

abbrev pub EveryTextIsToldWhere : Type 0
EveryTextIsToldWhere = (s : List ℕ) → SaysWhere s

-- no number but these, and an all-zero record with each: 1 is no longer answered
pub data Numbers (s : List ℕ) : Type 0 where
  accepted : read_fen s ≡ fen_of (read_fen s).board → Numbers s
  few : read_fen s ≡ refused_at too_few_tokens (read_fen s).offset → Numbers s
  placement : read_fen s ≡ refused_at bad_placement (read_fen s).offset → Numbers s
  side : read_fen s ≡ refused_at bad_side (read_fen s).offset → Numbers s

abbrev pub OneIsNotGiven : Type 0
OneIsNotGiven = (s : List ℕ) → Numbers s
