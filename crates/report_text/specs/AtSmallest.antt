-- Order 14 at its smallest pages.
-- Assumes nothing.
use Rattle.std.specs.Prelude.{ℕ, ◌≡◌, List, [], ◌∷◌, ◌++◌, replicate}
use Prim.Native.String.{String}
use Rattle.answer.specs.Answer.{log_full, output_too_short}
use Rattle.answer.specs.Ascii.{ascii}
use Rattle.fen_text.specs.Lines.{line_feed}
use Rattle.fen_text.specs.PagesAtSmallest.{nines}
use Rattle.report_text.specs.declared.Report.{Report}
use Rattle.report_text.specs.Report.{most_lines, refused_report, report_answer, report_records, report_told}
use Rattle.report_text.specs.Sets.{set_of}

-- a text, in rooms for four lines
abbrev pub reported : String → Report
reported text = report_answer most_lines (ascii text) 272 8

-- no man of any kind
abbrev pub no_men : List ℕ
no_men = replicate 12 0

abbrev pub figures_of : ℕ → ℕ → ℕ → List ℕ → ℕ → Report
figures_of counted accepted refused men repeated =
    record { number = 0; lines = counted; accepted = accepted; refused = refused; men = men; repeated = repeated }

pub record ReportsAtSmallest : Type 0 where
  pub no_line : report_answer most_lines [] 0 0 ≡ figures_of 0 0 0 no_men 0
  pub empty_line : reported "\n" ≡ figures_of 1 0 1 no_men 0
  -- one man of each kind, from a8 on; two ranks of pawns
  pub each_kind : reported "PNBRQK/pnbrqk w - -" ≡ figures_of 1 1 0 (replicate 12 1) 0
  pub white_pawns : reported "PP/P w - -" ≡ figures_of 1 1 0 (3 ∷ replicate 11 0) 0
  pub black_kings : reported "kk w - -" ≡ figures_of 1 1 0 (replicate 11 0 ++ (2 ∷ [])) 0
  pub summed : reported "PN w - -\nP b - -" ≡ figures_of 2 2 0 (2 ∷ 1 ∷ replicate 10 0) 0
  -- a refused line has no men, whatever stands in it
  pub refused_men : reported "PN x - -\nP b - -" ≡ figures_of 2 1 1 (1 ∷ replicate 11 0) 0
  -- three equal ones are two repeats; spelt otherwise, with other counters; one in between
  pub three : reported "K w - -\nK w - -\nK w - -\n" ≡ figures_of 3 3 0 (replicate 5 0 ++ (3 ∷ replicate 6 0)) 2
  pub spelt : reported "K w - - 0 1\nK W - e9 5 9\n" ≡ figures_of 2 2 0 (replicate 5 0 ++ (2 ∷ replicate 6 0)) 1
  pub in_between : reported " w - -\n b - -\n w - -\n" ≡ figures_of 3 3 0 no_men 1
  -- each other number of a record tells two apart
  pub other_side : reported " w - -\n b - -\n" ≡ figures_of 2 2 0 no_men 0
  pub other_rights : reported " w K -\n w k -\n w - -\n" ≡ figures_of 3 3 0 no_men 0
  pub other_file : reported " w - a6\n w - h6\n w - -\n" ≡ figures_of 3 3 0 no_men 0
  -- a refused line's zeros are no record: ` w - -`, whose numbers are zeros too, repeats none, nor does a refused line repeat it
  pub behind_refused : reported "x\n w - -\n" ≡ figures_of 2 1 1 no_men 0
  pub refused_behind : reported " w - -\nx\n" ≡ figures_of 2 1 1 no_men 0
  pub refused_twice : reported "x\nx\n" ≡ figures_of 2 0 2 no_men 0

pub record RefusalsAtSmallest : Type 0 where
  -- 13 before 7, and then nothing is told; 7 with the lines
  pub too_many : report_answer 1 (ascii "\n\n") 0 0 ≡ refused_report log_full 0
  pub as_many : report_answer 2 (ascii "\n\n") 136 4 ≡ figures_of 2 0 2 no_men 0
  pub unended : report_answer 2 (ascii "\n\nx") 204 6 ≡ refused_report log_full 0
  pub records_short : report_answer 2 (ascii "\n\n") 135 4 ≡ refused_report output_too_short 2
  pub told_short : report_answer 2 (ascii "\n\n") 136 3 ≡ refused_report output_too_short 2
  -- at the limit itself
  pub most : (report_answer most_lines (replicate 4096 line_feed) 278528 8192).number ≡ 0
  pub one_more_lem : report_answer most_lines (replicate 4097 line_feed) 278596 8194 ≡ refused_report log_full 0
  pub one_byte_more : report_answer most_lines (replicate 4096 line_feed ++ (120 ∷ [])) 278596 8194 ≡ refused_report log_full 0
  -- the rooms: as the page call leaves them, and as they were
  pub bytes : report_records 1 (ascii "x") (nines 69) 2 ≡ replicate 68 0 ++ (9 ∷ [])
  pub said : report_told 1 (ascii "x") 68 (nines 3) ≡ 18 ∷ 1 ∷ 9 ∷ []
  pub too_many_bytes : report_records 1 (ascii "\n\n") (nines 136) 4 ≡ nines 136
  pub too_many_said : report_told 1 (ascii "\n\n") 136 (nines 4) ≡ nines 4
  pub short_bytes : report_records 1 (ascii "x") (nines 67) 2 ≡ nines 67
  pub short_said : report_told 1 (ascii "x") 68 (nines 1) ≡ nines 1

-- the first square's bit is the lowest
pub record SetsAtSmallest : Type 0 where
  pub first : set_of 1 (1 ∷ 0 ∷ 0 ∷ []) ≡ 1
  pub third : set_of 1 (0 ∷ 2 ∷ 1 ∷ []) ≡ 4
  pub two : set_of 7 (7 ∷ 1 ∷ 7 ∷ []) ≡ 5
