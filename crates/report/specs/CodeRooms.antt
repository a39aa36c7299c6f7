-- The two rooms of a page, and the figures of its first lines counted over them. For the inner functions; the public contract does not speak of this.
-- Assumes nothing.
use Rattle.std.specs.Prelude.{ℕ, zero, suc, ◌+◌, ◌*◌, ◌≤◌, ◌<◌, ◌≡◌, Bool, true, cond, List, [], eqb, length, take, get_or}
use Rattle.answer.specs.Numbers.{all_at_most, same}
use Rattle.answer.specs.Parts.{item}
use Rattle.board_builder.specs.BoardBuilder.{squares, record_size}
use Rattle.fen_text.specs.Read.{read_fen}
use Rattle.fen_text.specs.Page.{record_of, told_size}
use Rattle.report_text.specs.Report.{most_lines, one, squares_with}
use Rattle.report.specs.CodeSets.{bucket_of}

-- line k counts if its number is 0
abbrev pub counts_at : List ℕ → ℕ → Bool
counts_at told k = eqb (get_or told (told_size * k) 0) 0

abbrev pub record_at : List ℕ → ℕ → List ℕ
record_at records k = item record_size records k

abbrev pub squares_at : List ℕ → ℕ → List ℕ
squares_at records k = take squares (record_at records k)

abbrev pub alike_in : List ℕ → ℕ → ℕ → Bool
alike_in records j k = same (record_at records j) (record_at records k)

-- of the first k lines
unfoldable pub counted_below : List ℕ → ℕ → ℕ
counted_below told zero = 0
counted_below told (suc k) = counted_below told k + one (counts_at told k)

unfoldable pub men_below : ℕ → List ℕ → List ℕ → ℕ → ℕ
men_below code records told zero = 0
men_below code records told (suc k) = men_below code records told k + cond (counts_at told k) (squares_with code (squares_at records k)) 0

-- rooms that hold n lines
pub record Rooms (records told : List ℕ) (n : ℕ) : Type 0 where
  pub few : n ≤ most_lines
  pub records_long : record_size * n ≤ length records
  pub told_long : told_size * n ≤ length told
  pub codes : (k : ℕ) → k < n → all_at_most 12 (squares_at records k) ≡ true

-- they hold the single reader's answers to these lines
pub record Filled (ls : List (List ℕ)) (records told : List ℕ) (n : ℕ) : Type 0 where
  pub count : n ≡ length ls
  pub answers : (k : ℕ) → k < n → get_or told (told_size * k) 0 ≡ (read_fen (get_or ls k [])).number
  pub boards : (k : ℕ) → k < n → record_at records k ≡ record_of (get_or ls k [])

-- the men of some squares added to twelve sums, if the squares count
pub record AddedIf (counts : Bool) (xs before after : List ℕ) : Type 0 where
  pub long : length after ≡ 12
  pub each : (k : ℕ) → k < 12 → get_or after k 0 ≡ get_or before k 0 + cond counts (squares_with (k + 1) xs) 0

-- twelve sums over the first n lines
pub record MenSums (records told men : List ℕ) (n : ℕ) : Type 0 where
  pub long : length men ≡ 12
  pub each : (k : ℕ) → k < 12 → get_or men k 0 ≡ men_below (k + 1) records told n

-- the buckets of those of the first n lines that count
pub record Bucketed (records told buckets : List ℕ) (n : ℕ) : Type 0 where
  pub long : length buckets ≡ most_lines
  pub each : (k : ℕ) → k < n → counts_at told k ≡ true → get_or buckets k 0 ≡ bucket_of (record_at records k)
