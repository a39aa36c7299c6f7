-- A start that was read, or what is wrong with it: the rest of a roll is read behind it.
-- Assumes nothing.
use Rattle.std.specs.Prelude.{ℕ, ◌≡◌, Bool, true, List, leb, length, take, drop, Ok, Err}
use Rattle.board_builder.specs.BoardBuilder.{record_size}
use Rattle.game_rules.specs.Limits.{Limits}
use Rattle.roll_text.specs.Roll.{Counters, with_counts, read_by}

-- a start has 68 bytes before its counters
unfoldable pub start_long : List ℕ → Counters → Bool
start_long s (Ok (half, full, size)) = leb record_size (length s)
start_long s (Err k) = true

pub record Started (counted : Bool) (s : List ℕ) (x : Counters) : Type 0 where
  pub reads : (L : Limits) → read_by counted L s ≡ with_counts L (take record_size s) x (drop record_size s)
  pub long : start_long s x ≡ true
