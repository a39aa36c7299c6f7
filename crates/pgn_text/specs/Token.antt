-- What stands at a place of move text (document 02, order 8): decided by the byte there and what follows it.
-- Assumes nothing.
use Rattle.std.specs.Prelude.{ℕ, ◌+◌, Bool, true, false, cond, ◌||◌, List, eqb, ltb, length, drop, get_or}
use Rattle.answer.specs.Ascii.{ascii}
use Rattle.pgn_text.specs.declared.Run.TheVariants.{Digits, Periods, MoveBytes, InBraces, InLine}
use Rattle.pgn_text.specs.declared.Token.{Token}
use Rattle.pgn_text.specs.declared.Token.TheVariants.{Passed, Move, Opening, Closing, Result, LeftOpen, Unknown}
use Rattle.pgn_text.specs.Bytes.{is_white, is_digit, starts_move, run_length, begins_with}

-- a move number: digits, then any periods
unfoldable pub number : List ℕ → Token
number bs = Passed (run_length Digits bs + run_length Periods (drop (run_length Digits bs) bs))

-- a brace comment, to its brace
unfoldable pub brace_comment : List ℕ → Token
brace_comment bs = cond (ltb (run_length InBraces bs) (length bs)) (Passed (run_length InBraces bs + 1)) LeftOpen

-- a semicolon comment, to LF or the end
unfoldable pub line_comment : List ℕ → Token
line_comment bs = cond (ltb (run_length InLine bs) (length bs)) (Passed (run_length InLine bs + 1)) (Passed (run_length InLine bs))

-- `$` and digits
unfoldable pub glyph : List ℕ → Token
glyph bs = cond (eqb (run_length Digits bs) 0) Unknown (Passed (run_length Digits bs))

-- `*`, `0-1`, `1-0`, `1/2-1/2`, whatever follows
unfoldable pub is_result : ℕ → List ℕ → Bool
is_result b bs =
    cond (eqb b 42) true
    (cond (eqb b 48) (begins_with bs (ascii "-1"))
    (cond (eqb b 49) (begins_with bs (ascii "-0") || begins_with bs (ascii "/2-1/2"))
    false))

-- results are tried before numbers
unfoldable pub token : ℕ → List ℕ → Token
token b bs =
    cond (is_white b) (Passed 0)
    (cond (starts_move b) (Move (run_length MoveBytes bs))
    (cond (eqb b 123) (brace_comment bs)
    (cond (eqb b 59) (line_comment bs)
    (cond (eqb b 36) (glyph bs)
    (cond (eqb b 40) Opening
    (cond (eqb b 41) Closing
    (cond (is_result b bs) Result
    (cond (is_digit b) (number bs)
    Unknown))))))))

-- what stands at an offset of a text
abbrev pub token_at : List ℕ → ℕ → Token
token_at s at = token (get_or s at 0) (drop (at + 1) s)
