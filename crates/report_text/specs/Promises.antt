-- What order 14 promises, each as a statement that can be read by itself, about the definitions that the report call's contract cites.
-- Assumes nothing.
use Rattle.std.specs.Prelude.{ℕ, ◌+◌, ◌*◌, ◌-◌, ◌≤◌, ◌<◌, ◌≡◌, true, false, cond, List, [], ◌∷◌, length, get_or}
use Rattle.answer.specs.Answer.{log_full, output_too_short}
use Rattle.answer.specs.Numbers.{same}
use Rattle.board_builder.specs.BoardBuilder.{squares}
use Rattle.fen_text.specs.Read.{read_fen}
use Rattle.fen_text.specs.Lines.{lines}
use Rattle.fen_text.specs.Page.{line_count, page_fits, page_answer, records_left, told_left}
use Rattle.report_text.specs.declared.Report.{Report}
use Rattle.report_text.specs.Report.{one, is_taken, taken_records, squares_with, men_with, has_record, refused_report, report_answer, report_records}
use Rattle.report_text.specs.Report.{report_told}
use Rattle.report_text.specs.Repeats.{repeats_below, taken_at, alike_at}

-- ---- "Every figure equals its count over the single reader's answers."

unfoldable pub sum_over : (List ℕ → ℕ) → List (List ℕ) → ℕ
sum_over f [] = 0
sum_over f (l ∷ ls) = f l + sum_over f ls

-- a line's men of a kind are those on the single reader's board: a refused line's is empty
pub record CountedOver (ls : List (List ℕ)) (r : Report) : Type 0 where
  pub lines : r.lines ≡ sum_over (λ (l : List ℕ). 1) ls
  pub accepted : r.accepted ≡ sum_over (λ (l : List ℕ). cond (is_taken l) 1 0) ls
  pub refused : r.refused ≡ sum_over (λ (l : List ℕ). cond (is_taken l) 0 1) ls
  pub men : (code : ℕ) → 1 ≤ code → code ≤ 12 → get_or r.men (code - 1) 0 ≡ sum_over (λ (l : List ℕ). squares_with code (read_fen l).board.pieces) ls
  pub kinds : length r.men ≡ 12
  pub repeated : r.repeated ≡ repeats_below (taken_at ls) (alike_at ls) (length ls)

abbrev pub EveryFigureIsItsCount : Type 0
EveryFigureIsItsCount =
    (most : ℕ) (s : List ℕ) (records told : ℕ) → (report_answer most s records told).number ≡ 0
    → CountedOver (lines s) (report_answer most s records told)

-- ---- what makes up what

unfoldable pub sum_all : List ℕ → ℕ
sum_all [] = 0
sum_all (x ∷ xs) = x + sum_all xs

-- each record once
unfoldable pub different : List (List ℕ) → List (List ℕ)
different [] = []
different (r ∷ rs) = cond (has_record r rs) (different rs) (r ∷ different rs)

-- how often a line, or a record, stands among some
abbrev pub times_among : List ℕ → List (List ℕ) → ℕ
times_among l ls = sum_over (λ (x : List ℕ). one (same x l)) ls

-- each of the records stands there once, and no other does
abbrev pub DifferentAreTheRecords : Type 0
DifferentAreTheRecords = (rs : List (List ℕ)) (r : List ℕ) → times_among r (different rs) ≡ one (has_record r rs)

-- the lines are the accepted and the refused; 64 squares per accepted line have a man of the twelve kinds or none; the accepted lines are the repeats and
-- the different records
pub record MadeUp (rs : List (List ℕ)) (r : Report) : Type 0 where
  pub of_lines : r.accepted + r.refused ≡ r.lines
  pub of_squares : sum_all r.men + men_with 0 rs ≡ squares * r.accepted
  pub of_records : r.repeated + length (different rs) ≡ r.accepted

abbrev pub FiguresAddUp : Type 0
FiguresAddUp =
    (most : ℕ) (s : List ℕ) (records told : ℕ) → (report_answer most s records told).number ≡ 0
    → MadeUp (taken_records (lines s)) (report_answer most s records told)

-- ---- the order of the lines does not matter

-- the same lines, each as often
abbrev pub SameLines : List (List ℕ) → List (List ℕ) → Type 0
SameLines ls ks = (l : List ℕ) → times_among l ls ≡ times_among l ks

abbrev pub AnyOrder : Type 0
AnyOrder =
    (most : ℕ) (s t : List ℕ) (records told : ℕ) → SameLines (lines s) (lines t)
    → report_answer most s records told ≡ report_answer most t records told

-- ---- refusals

pub record ReportJudged (most : ℕ) (s records told : List ℕ) : Type 0 where
  pub too_many : most < line_count s → report_answer most s (length records) (length told) ≡ refused_report log_full 0
  pub short : line_count s ≤ most → page_fits s (length records) (length told) ≡ false
      → report_answer most s (length records) (length told) ≡ refused_report output_too_short (line_count s)
  pub enough : line_count s ≤ most → page_fits s (length records) (length told) ≡ true → (report_answer most s (length records) (length told)).number ≡ 0
  -- accepted, the rooms are as the page call leaves them
  pub page_taken : (report_answer most s (length records) (length told)).number ≡ 0 → (page_answer s (length records) (length told)).number ≡ 0
  pub page_records : (report_answer most s (length records) (length told)).number ≡ 0
      → report_records most s records (length told) ≡ records_left s records (length told)
  pub page_told : (report_answer most s (length records) (length told)).number ≡ 0
      → report_told most s (length records) told ≡ told_left s (length records) told
  -- refused, they are as they were
  pub same_records : ((report_answer most s (length records) (length told)).number ≡ 0 → ⊥) → report_records most s records (length told) ≡ records
  pub same_told : ((report_answer most s (length records) (length told)).number ≡ 0 → ⊥) → report_told most s (length records) told ≡ told

abbrev pub ReportsAreJudgedSo : Type 0
ReportsAreJudgedSo = (most : ℕ) (s records told : List ℕ) → ReportJudged most s records told
