-- The loop over two starts' 68 numbers: what has been put, with the lines of the numbers that are left, is the whole. And the lines of their counters.
-- Assumes nothing.
use mathlib.Core.Path.{◌≡◌, sym, ap, ◌∙◌}
use mathlib.Core.List.{List, [], ◌++◌, append_assoc, append-nil}
use Prim.Native.Nat.{ℕ, suc, ◌+◌, ◌≤◌, ◌<◌}
use native.Mathlib.Numerals.{add-one}
use native.Mathlib.Omega.{arith}
use lib.ListN.{length, drop, get_or, length-append}
use lib.Seq.{length-take-le, get_or-take}
use Rattle.board_builder.specs.BoardBuilder.{record_size}
use Rattle.differences_text.specs.Differences.{Difference, start_key, if_differs, start_differences, lines_text}
use Rattle.differences.specs.CodeTexts.{start_of, start_lines, count_lines}
use Rattle.differences_text.proofs.Lines.{lines_both, start_turn, start_end}

abbrev pub left_text : List ℕ → List ℕ → ℕ → List ℕ
left_text s t i = lines_text (start_differences i (drop i (start_of s)) (drop i (start_of t)))

-- number i has come
abbrev pub Started : List ℕ → List ℕ → List ℕ → List ℕ → ℕ → Type 0
Started s t old text i = text ++ left_text s t i ≡ old ++ start_lines s t

module _ (s t old text : List ℕ) (i : ℕ) (first : record_size ≤ length s) (second : record_size ≤ length t) (inv : Started s t old text i) where
  abbrev line : List ℕ
  line = lines_text (if_differs (start_key i) (get_or s i 0) (get_or t i 0))

  turn : i < record_size → left_text s t i ≡ line ++ left_text s t (i + 1)
  turn h =
      let a : length (start_of s) ≡ record_size = length-take-le record_size s first in
      let b : length (start_of t) ≡ record_size = length-take-le record_size t second in
      ap lines_text (start_turn (start_of s) (start_of t) i (omega arith) (omega arith))
      ∙ lines_both (if_differs (start_key i) (get_or (start_of s) i 0) (get_or (start_of t) i 0))
      (start_differences (suc i) (drop (suc i) (start_of s)) (drop (suc i) (start_of t)))
      ∙ rw (get_or-take record_size s i 0 h, get_or-take record_size t i 0 h, add-one i)

  pub line_fits : (most : ℕ) → length old + length (start_lines s t) ≤ most → i < record_size → length text + length line ≤ most
  line_fits most fits h =
      omega (
        arith,
        ap length inv,
        ap length (turn h),
        length-append text (left_text s t i),
        length-append line (left_text s t (i + 1)),
        length-append old (start_lines s t),
      )

  pub start_more : i < record_size → (new : List ℕ) → new ≡ text ++ line → Started s t old new (i + 1)
  start_more h new e =
      ap (λ (l : List ℕ). l ++ left_text s t (i + 1)) e
      ∙ append_assoc text line (left_text s t (i + 1))
      ∙ ap (λ (l : List ℕ). text ++ l) (sym (turn h))
      ∙ inv

  pub start_all : record_size ≤ i → text ≡ old ++ start_lines s t
  unfolding lines_text
  start_all h =
      let a : length (start_of s) ≡ record_size = length-take-le record_size s first in
      let none : left_text s t i ≡ [] = ap lines_text (start_end (start_of s) (start_of t) i (omega arith)) in
      sym (append-nil text) ∙ ap (λ (l : List ℕ). text ++ l) (sym none) ∙ inv

-- ---- the counters

abbrev pub half_line : ℕ → ℕ → List ℕ
half_line half clock = lines_text (if_differs (start_key record_size) half clock)

abbrev pub full_line : ℕ → ℕ → List ℕ
full_line full number = lines_text (if_differs (start_key (record_size + 1)) full number)

pub both_lines : (half full clock number : ℕ) → count_lines half full clock number ≡ half_line half clock ++ full_line full number
unfolding start_differences
both_lines half full clock number =
    lines_both (if_differs (start_key record_size) half clock) (if_differs (start_key (record_size + 1)) full number ++ [])
    ∙ ap (λ (ds : List Difference). half_line half clock ++ lines_text ds) (append-nil (if_differs (start_key (record_size + 1)) full number))
