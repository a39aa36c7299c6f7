-- A number in decimal: its digits in ASCII, highest first, without a needless zero in front.
-- Assumes nothing.
use Rattle.std.specs.Prelude.{ℕ, zero, suc, ◌+◌, ◌/◌, ◌%◌, cond, List, [], ◌∷◌, ◌++◌, ltb}

-- a number in at most k digits, the fewest that hold it; where k do not, the lowest k
unfoldable pub digits : ℕ → ℕ → List ℕ
digits zero n = []
digits (suc k) n = cond (ltb n 10) ((48 + n) ∷ []) (digits k (n / 10) ++ ((48 + n % 10) ∷ []))

-- n + 1 digits are always enough
unfoldable pub decimal : ℕ → List ℕ
decimal n = digits (suc n) n
