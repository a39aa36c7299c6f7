-- Order 7 at its smallest texts: where lines end, the two rooms filled, and a room one line short.
-- Assumes nothing.
use Rattle.std.specs.Prelude.{ℕ, ◌≡◌, List, [], ◌∷◌, ◌++◌, replicate}
use Rattle.answer.specs.Answer.{accepted, too_short}
use Rattle.answer.specs.Ascii.{ascii}
use Rattle.fen_text.specs.Lines.{lines, ended_lines}
use Rattle.fen_text.specs.Page.{page_answer, records_left, told_left}

-- a room of n numbers, each 9
abbrev pub nines : ℕ → List ℕ
nines n = replicate n 9

-- two lines, the first refused at its length, the second accepted, and ended or not
abbrev pub two_lines : List ℕ
two_lines = ascii "8/8 w -\nK b - e3"

pub record LinesAtSmallest : Type 0 where
  pub none : lines [] ≡ []
  pub one_byte : lines (ascii "8") ≡ ascii "8" ∷ []
  pub ended_line : lines (ascii "8\n") ≡ ascii "8" ∷ []
  pub newline_alone : lines (ascii "\n") ≡ [] ∷ []
  pub empty_between : lines (ascii "8\n\n8") ≡ ascii "8" ∷ [] ∷ ascii "8" ∷ []
  pub unended_left_out : ended_lines (ascii "8\n\n8") ≡ ascii "8" ∷ [] ∷ []

pub record PagesAtSmallest : Type 0 where
  pub two : page_answer two_lines 136 4 ≡ accepted 2
  pub records_short : page_answer two_lines 135 4 ≡ too_short 2
  pub told_short : page_answer two_lines 136 3 ≡ too_short 2
  pub empty_page : page_answer [] 0 0 ≡ accepted 0
  -- offsets from the line's start, 0 if accepted; what lies past the last line's stays
  pub offsets : told_left two_lines 136 (nines 5) ≡ 18 ∷ 7 ∷ 0 ∷ 0 ∷ 9 ∷ []
  pub second_offset : told_left (ascii "8/8 w -\n8/9 w - -\n") 136 (nines 4) ≡ 18 ∷ 7 ∷ 19 ∷ 2 ∷ []
  pub record_bytes : records_left two_lines (nines 137) 4
      ≡ replicate 68 0 ++ (replicate 56 0 ++ ((6 ∷ replicate 7 0) ++ (1 ∷ 0 ∷ 0 ∷ 5 ∷ 9 ∷ [])))
  pub nothing_written : records_left two_lines (nines 135) 4 ≡ nines 135
  pub nothing_said : told_left two_lines 136 (nines 3) ≡ nines 3
