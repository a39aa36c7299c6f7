-- Repeats by the numbers of the lines: line i repeats an earlier one if one of the lines before it counts and is like it. For any test of which lines
-- count, and any of which two are alike.
-- Assumes nothing.
use Rattle.std.specs.Prelude.{ℕ, zero, suc, ◌+◌, Bool, false, ◌&&◌, ◌||◌, List, [], get_or}
use Rattle.answer.specs.Numbers.{same}
use Rattle.fen_text.specs.Page.{record_of}
use Rattle.report_text.specs.Report.{one, is_taken}

-- one of the first k lines counts and is like line i
unfoldable pub found_below : (ℕ → Bool) → (ℕ → ℕ → Bool) → ℕ → ℕ → Bool
found_below counts alike i zero = false
found_below counts alike i (suc k) = (counts k && alike k i) || found_below counts alike i k

-- how many of the first k lines count and are like one before them that counts
unfoldable pub repeats_below : (ℕ → Bool) → (ℕ → ℕ → Bool) → ℕ → ℕ
repeats_below counts alike zero = 0
repeats_below counts alike (suc k) = repeats_below counts alike k + one (counts k && found_below counts alike k k)

-- the lines of a text: which the single reader accepts, and which have one record
abbrev pub taken_at : List (List ℕ) → ℕ → Bool
taken_at ls k = is_taken (get_or ls k [])

abbrev pub alike_at : List (List ℕ) → ℕ → ℕ → Bool
alike_at ls j k = same (record_of (get_or ls j [])) (record_of (get_or ls k []))
