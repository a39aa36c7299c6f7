-- What differs between two games (document 02, orders 10 and 12): the lines that the call writes, and what it answers, in numbers. The rolls are those of
-- crates/differences_text/specs/AtRows.antt.
-- Assumes nothing.
use Rattle.std.specs.Prelude.{ℕ, ◌≡◌, true, false, List, [], ◌∷◌, ◌++◌, map, replicate, get_or}
use Rattle.answer.specs.Ascii.{ascii}
use Rattle.differences_text.specs.Differences.{Difference, difference, start_size, start_key, if_differs, line_text}
use Rattle.differences_text.specs.AtRows.{two_of_each, with, plain}
use Rattle.differences_text.specs.Promises.{teller, lines_written, reader_number, rising, start_line, Lines, lines_of, swapped, longest}
use Rattle.number_rows.specs.Answers.{says}

-- a line: its key, the first and the second game's number
abbrev pub line_is : List ℕ → ℕ → ℕ → Difference
line_is key x y = record { key = key; first = x; second = y }

pub record LinesInNumbers : Type 0 where
  pub line : difference (ascii "28") 1 7 ≡ line_is (ascii "28") 1 7
  pub other_way : swapped (line_is (ascii "28") 1 7) ≡ line_is (ascii "28") 7 1
  pub text : line_text (line_is (ascii "side") 1 7) ≡ ascii "side 1 7\n"
  pub larger : if_differs (ascii "0") 9 3 ≡ line_is (ascii "0") 9 3 ∷ []
  pub smaller : if_differs (ascii "0") 3 9 ≡ line_is (ascii "0") 3 9 ∷ []
  pub equal : if_differs (ascii "0") 3 3 ≡ []
  pub so_many : start_size ≡ 70
  pub keys : start_key 63 ++ (start_key 64 ++ (start_key 65 ++ (start_key 66 ++ (start_key 67 ++ (start_key 68 ++ start_key 69)))))
      ≡ ascii "63sidewhiteblackephalffull"
  pub of_start : start_line (7 ∷ 8 ∷ []) (5 ∷ 6 ∷ []) 1 ≡ line_is (ascii "1") 8 6
  pub not_there : start_line [] [] 1 ≡ line_is (ascii "1") 0 0
  pub in_order : rising 1 (1 ∷ 2 ∷ 4 ∷ []) ≡ true
  pub twice : rising 1 (2 ∷ 2 ∷ []) ≡ false
  pub under : rising 3 (2 ∷ []) ≡ false
  pub most : longest ≡ 658
  -- the lines of the start first, each with the first game's number first, and then the action's
  pub together : (l : Lines (7 ∷ []) (1 ∷ []) (5 ∷ []) (2 ∷ []))
      → lines_of l ≡ map (λ i. line_is (start_key i) (get_or (7 ∷ []) i 0) (get_or (5 ∷ []) i 0)) l.start ++ l.action

pub record CallsThatTell : Type 0 where
  pub written : lines_written (teller two_of_each) (with 28 1) plain (replicate 9 9) ≡ ascii "28 1 0\n"
  pub room : (teller two_of_each).room (with 28 1) plain (replicate 9 9) ≡ ascii "28 1 0\n" ++ (9 ∷ 9 ∷ [])
  pub into_two : lines_written (teller two_of_each) (with 28 1) plain (replicate 2 9) ≡ 9 ∷ 9 ∷ []
  pub answer : (teller two_of_each).answer (with 28 1) plain 7 ≡ says 0 7
  pub too_short_fact : (teller two_of_each).answer (with 28 1) plain 6 ≡ says 7 7
  pub first_roll_first : (teller two_of_each).answer [] (13 ∷ []) 0 ≡ says 17 0
  pub second_roll : (teller two_of_each).answer plain (13 ∷ []) 0 ≡ says 5 0
  pub read : reader_number two_of_each plain ≡ 0
  pub cut_short : reader_number two_of_each [] ≡ 17
