-- The bytes of move text (document 02, order 8), how far a token runs on, and whether a text begins with another.
-- Assumes nothing.
use Rattle.std.specs.Prelude.{ℕ, ◌+◌, Bool, true, false, not, ◌&&◌, ◌||◌, List, [], ◌∷◌, eqb}
use Rattle.pgn_text.specs.declared.Run.{Run}
use Rattle.pgn_text.specs.declared.Run.TheVariants.{Digits, Periods, MoveBytes, InBraces, InLine}
use Rattle.answer.specs.Numbers.{between}

-- space, tab, CR and LF
unfoldable pub is_white : ℕ → Bool
is_white b = (eqb b 32 || eqb b 9) || (eqb b 13 || eqb b 10)

-- 0 to 9
unfoldable pub is_digit : ℕ → Bool
is_digit b = between 48 57 b

-- A to Z and a to z
unfoldable pub is_letter : ℕ → Bool
is_letter b = between 65 90 b || between 97 122 b

-- a move starts with a to h, N, B, R, Q, K or O
unfoldable pub starts_move : ℕ → Bool
starts_move b = between 97 104 b || ((eqb b 78 || eqb b 66) || ((eqb b 82 || eqb b 81) || (eqb b 75 || eqb b 79)))

-- one of `+#=-!?`
unfoldable pub is_sign : ℕ → Bool
is_sign b = (eqb b 43 || eqb b 35) || ((eqb b 61 || eqb b 45) || (eqb b 33 || eqb b 63))

-- .. and runs on over letters, digits and `+#=-!?`
unfoldable pub in_move : ℕ → Bool
in_move b = is_letter b || (is_digit b || is_sign b)

-- whether a run goes on over a byte; a brace comment to its brace, a semicolon comment to LF
unfoldable pub in_run : Run → ℕ → Bool
in_run Digits b = is_digit b
in_run Periods b = eqb b 46
in_run MoveBytes b = in_move b
in_run InBraces b = not (eqb b 125)
in_run InLine b = not (eqb b 10)

unfoldable pub onward : Bool → ℕ → ℕ
onward true n = n + 1
onward false n = 0

-- how many bytes at the front of a text the run covers
unfoldable pub run_length : Run → List ℕ → ℕ
run_length run [] = 0
run_length run (b ∷ bs) = onward (in_run run b) (run_length run bs)

-- the text has the other one at its front
unfoldable pub begins_with : List ℕ → List ℕ → Bool
begins_with s [] = true
begins_with [] (x ∷ xs) = false
begins_with (b ∷ bs) (x ∷ xs) = eqb b x && begins_with bs xs
