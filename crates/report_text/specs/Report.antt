-- The evening report (document 02, order 14): "Over a page of FENs .. how many were accepted and refused, the sum of each of the twelve kinds of men, and how
-- many accepted FENs repeat the record of an earlier accepted one, counters ignored." "At most 4,096 lines. Refusals: 13 for more lines, then 7."
-- Assumes nothing.
use Rattle.std.specs.Prelude.{ℕ, ◌+◌, Bool, false, cond, ◌||◌, List, [], ◌∷◌, eqb, ltb, length, take, replicate}
use Rattle.answer.specs.Answer.{log_full, output_too_short}
use Rattle.answer.specs.Numbers.{same}
use Rattle.board_builder.specs.BoardBuilder.{squares, numbers}
use Rattle.fen_text.specs.declared.Fen.{Fen}
use Rattle.fen_text.specs.Read.{read_fen}
use Rattle.fen_text.specs.Lines.{lines}
use Rattle.fen_text.specs.Page.{line_count, page_fits, records_left, told_left}
use Rattle.report_text.specs.declared.Report.{Report}

-- "At most 4,096 lines"
abbrev pub most_lines : ℕ
most_lines = 4096

-- 1 if a test holds
abbrev pub one : Bool → ℕ
one holds = cond holds 1 0

-- the single reader accepts a line
abbrev pub is_taken : List ℕ → Bool
is_taken line = eqb (read_fen line).number 0

-- the records of the accepted lines, in their order: 68 numbers each, "counters ignored"
unfoldable pub with_taken : Bool → Fen → List (List ℕ) → List (List ℕ)
with_taken holds f rs = cond holds (numbers f.board ∷ rs) rs

unfoldable pub taken_records : List (List ℕ) → List (List ℕ)
unfolding with_taken
taken_records [] = []
taken_records (l ∷ ls) = with_taken (is_taken l) (read_fen l) (taken_records ls)

-- how many lines are refused
unfoldable pub refused_lines : List (List ℕ) → ℕ
refused_lines [] = 0
refused_lines (l ∷ ls) = cond (is_taken l) 0 1 + refused_lines ls

-- how many squares have a code; and how many of all records' squares
unfoldable pub squares_with : ℕ → List ℕ → ℕ
squares_with code [] = 0
squares_with code (x ∷ xs) = one (eqb x code) + squares_with code xs

unfoldable pub men_with : ℕ → List (List ℕ) → ℕ
men_with code [] = 0
men_with code (r ∷ rs) = squares_with code (take squares r) + men_with code rs

-- of "each of the twelve kinds", white pawn to king, then black's
abbrev pub twelve : (ℕ → ℕ) → List ℕ
twelve f = f 1 ∷ f 2 ∷ f 3 ∷ f 4 ∷ f 5 ∷ f 6 ∷ f 7 ∷ f 8 ∷ f 9 ∷ f 10 ∷ f 11 ∷ f 12 ∷ []

abbrev pub kind_sums : List (List ℕ) → List ℕ
kind_sums rs = twelve (λ (code : ℕ). men_with code rs)

-- one of some records is this one
unfoldable pub has_record : List ℕ → List (List ℕ) → Bool
has_record r [] = false
has_record r (x ∷ xs) = same x r || has_record r xs

-- how many records "repeat the record of an earlier" one, where some came before
unfoldable pub repeated_behind : List (List ℕ) → List (List ℕ) → ℕ
repeated_behind seen [] = 0
repeated_behind seen (r ∷ rs) = one (has_record r seen) + repeated_behind (r ∷ seen) rs

abbrev pub repeated_of : List (List ℕ) → ℕ
repeated_of rs = repeated_behind [] rs

-- ---- the call

abbrev pub refused_report : ℕ → ℕ → Report
refused_report number counted = record { number = number; lines = counted; accepted = 0; refused = 0; men = replicate 12 0; repeated = 0 }

abbrev pub figures : List (List ℕ) → Report
figures ls = record {
  number = 0;
  lines = length ls;
  accepted = length (taken_records ls);
  refused = refused_lines ls;
  men = kind_sums (taken_records ls);
  repeated = repeated_of (taken_records ls);
}

-- 13 for more than `most` lines; then 7, with the number of lines, for a room that the page call finds too short
unfoldable pub report_answer : ℕ → List ℕ → ℕ → ℕ → Report
report_answer most s records told =
    cond (ltb most (line_count s)) (refused_report log_full 0)
    (cond (page_fits s records told) (figures (lines s)) (refused_report output_too_short (line_count s)))

-- what is left in the two rooms: what the page call leaves, and what was there where there are too many lines
unfoldable pub report_records : ℕ → List ℕ → List ℕ → ℕ → List ℕ
report_records most s records told = cond (ltb most (line_count s)) records (records_left s records told)

unfoldable pub report_told : ℕ → List ℕ → ℕ → List ℕ → List ℕ
report_told most s records told = cond (ltb most (line_count s)) told (told_left s records told)
