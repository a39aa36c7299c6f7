-- The evening report (document 02, order 14): each kind in its place, what a refusal says, the rooms, and repeats.
-- Assumes nothing.
use Rattle.std.specs.Prelude.{ℕ, ◌+◌, ◌≡◌, Bool, true, false, List, [], ◌∷◌, ◌++◌, eqb, length, replicate}
use Rattle.answer.specs.Ascii.{ascii}
use Rattle.answer.specs.Numbers.{between}
use Rattle.report_text.specs.declared.Report.{Report}
use Rattle.report_text.specs.Report.{most_lines, twelve, report_answer, report_records, report_told}
use Rattle.report_text.specs.Repeats.{found_below, repeats_below, taken_at, alike_at}
use Rattle.report_text.specs.Promises.{sum_over, sum_all, different, times_among}

-- a refusal, with the number of lines
abbrev pub report_says : ℕ → ℕ → Report
report_says number counted = record { number = number; lines = counted; accepted = 0; refused = 0; men = replicate 12 0; repeated = 0 }

pub record ReportsRefused : Type 0 where
  pub most : most_lines ≡ 4096
  pub too_many : report_answer 1 (ascii "\n\n") 0 0 ≡ report_says 13 0
  pub too_short_fact : report_answer 2 (ascii "\n\n") 135 4 ≡ report_says 7 2
  -- a king on a8, in a room of 69 bytes and of three numbers
  pub bytes : report_records 1 (ascii "K w - -") (replicate 69 9) 2 ≡ replicate 56 0 ++ (6 ∷ (replicate 11 0 ++ (9 ∷ [])))
  pub said : report_told 1 (ascii "K w - -") 68 (replicate 3 9) ≡ 0 ∷ 0 ∷ 9 ∷ []
  pub kinds : twelve (λ (code : ℕ). code) ≡ 1 ∷ 2 ∷ 3 ∷ 4 ∷ 5 ∷ 6 ∷ 7 ∷ 8 ∷ 9 ∷ 10 ∷ 11 ∷ 12 ∷ []

-- of five lines those from 1 to 3 count, and each is like the one two before it
abbrev pub two_before : ℕ → ℕ → Bool
two_before j k = eqb (j + 2) k

pub record RepeatsCounted : Type 0 where
  pub one_before_three : found_below (between 1 3) two_before 3 2 ≡ true
  pub still_there : found_below (between 1 3) two_before 3 3 ≡ true
  pub zero_counts_not : found_below (between 1 3) two_before 2 2 ≡ false
  pub none_below_one : found_below (between 1 3) two_before 3 1 ≡ false
  pub no_line : found_below (between 1 3) two_before 3 0 ≡ false
  pub of_four : repeats_below (between 1 3) two_before 4 ≡ 1
  pub of_five : repeats_below (between 1 3) two_before 5 ≡ 1
  pub taken : taken_at (ascii " w - -" ∷ ascii "x" ∷ []) 0 ≡ true
  pub not_taken : taken_at (ascii " w - -" ∷ ascii "x" ∷ []) 1 ≡ false
  pub alike : alike_at (ascii " w - -" ∷ ascii " W - -" ∷ []) 0 1 ≡ true
  pub not_alike : alike_at (ascii " w - -" ∷ ascii " b - -" ∷ []) 0 1 ≡ false

pub record RecordsCounted : Type 0 where
  pub lengths : sum_over (λ (l : List ℕ). length l) (ascii "abc" ∷ ascii "de" ∷ []) ≡ 5
  pub summed : sum_all (5 ∷ 3 ∷ []) ≡ 8
  pub each_once : different (ascii "a" ∷ ascii "b" ∷ ascii "a" ∷ []) ≡ ascii "b" ∷ ascii "a" ∷ []
  pub twice : times_among (ascii "a") (ascii "a" ∷ ascii "b" ∷ ascii "a" ∷ []) ≡ 2
