-- The full reader (document 02, order 12), beside the crate's: it reads the counters too. "25 after 20, full reader only, for a fifth, then a sixth token
-- that is missing (offset: the text's length), not one to four digits, or a move number of 0, with its start." Tokens after the sixth are ignored.
-- Assumes nothing.
use Rattle.std.specs.Prelude.{ℕ, zero, suc, ◌+◌, ◌*◌, ◌-◌, cond, List, [], ◌∷◌, eqb, leb, length, drop}
use Rattle.answer.specs.Answer.{bad_counter}
use Rattle.answer.specs.Numbers.{between}
use Rattle.board_builder.specs.declared.BoardBuilder.{BoardBuilder}
use Rattle.board_builder.specs.BoardBuilder.{with_counters, last_count}
use Rattle.fen_text.specs.declared.Fen.{Fen}
use Rattle.fen_text.specs.Token.{tokens}
use Rattle.fen_text.specs.Read.{refused_at, fen_of, read_fen}

-- what is said for a token that is no counter
abbrev pub no_count : ℕ
no_count = 10000

-- the number that digits say, read from the left behind digits that said v; a byte that is no digit ends it
unfoldable pub digits_from : ℕ → List ℕ → ℕ
digits_from v [] = v
digits_from v (b ∷ bs) = cond (between 48 57 b) (digits_from (v * 10 + (b - 48)) bs) no_count

-- one to four digits
unfoldable pub counter_of : List ℕ → ℕ
counter_of t = cond (between 1 4 (length t)) (digits_from 0 t) no_count

-- the tokens from the sixth on, which starts at `at`, of a text of that length
unfoldable pub numbered : BoardBuilder → ℕ → ℕ → ℕ → List (List ℕ) → Fen
numbered b half long at [] = refused_at bad_counter long
numbered b half long at (t ∷ ts) = cond (between 1 last_count (counter_of t)) (fen_of (with_counters b half (counter_of t))) (refused_at bad_counter at)

-- those from the fifth on
unfoldable pub clocked : BoardBuilder → ℕ → ℕ → List (List ℕ) → Fen
clocked b long at [] = refused_at bad_counter long
clocked b long at (t ∷ ts) = cond (leb (counter_of t) last_count) (numbered b (counter_of t) long (at + length t + 1) ts) (refused_at bad_counter at)

-- where the token behind the first k starts
unfoldable pub start_behind : ℕ → List (List ℕ) → ℕ
start_behind zero ts = 0
start_behind (suc k) [] = 0
start_behind (suc k) (t ∷ ts) = length t + 1 + start_behind k ts

-- the crate's reader first
unfoldable pub counters_read : Fen → ℕ → List (List ℕ) → Fen
counters_read f long ts = cond (eqb f.number 0) (clocked f.board long (start_behind 4 ts) (drop 4 ts)) f

unfoldable pub read_full : List ℕ → Fen
read_full s = counters_read (read_fen s) (length s) (tokens s)
