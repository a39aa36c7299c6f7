-- Two rolls whose text is the longest: men of two digits on all squares, each other number of the start differs, the counters in four digits each, and after
-- a thousand offers the last move against the one before it.
-- Assumes nothing.
use mathlib.Core.Path.{◌≡◌, refl, ap, ◌∙◌}
use mathlib.Core.List.{List, [], ◌∷◌, ◌++◌}
use Prim.Native.Nat.{ℕ}
use native.Mathlib.Omega.{arith}
use lib.ListN.{length, replicate, length-append}
use Rattle.answer.specs.Ascii.{ascii}
use Rattle.answer.specs.Numbers.{all_at_most}
use Rattle.decimal.specs.Decimal.{digits, decimal}
use Rattle.decimal.proofs.Digits.{decimal_in}
use Rattle.board_builder.specs.BoardBuilder.{squares}
use Rattle.game_rules.specs.Limits.{limits}
use Rattle.roll_text.specs.Number.{behind, read_groups}
use Rattle.roll_text.specs.Roll.{largest_numbers, is_code, put_number, one_number, read_numbers, full_by, half_by, read_counters, moved_by, coded}
use Rattle.roll_text.specs.Roll.{put_action, next_action, read_actions, with_actions, with_count, with_counts, with_front, read_by}
use Rattle.roll_text.specs.Calls.{roll_answer, judged_by}
use Rattle.differences_text.specs.Differences.{Difference, difference, start_numbers, start_key, if_differs, start_differences, action_numbers}
use Rattle.differences_text.specs.Differences.{action_key, action_difference, line_text, lines_text}
use Rattle.differences_text.specs.Calls.{differences, differences_text, roll_differences}
use Rattle.differences_text.specs.Promises.{BothRead, LongestIsReached}
use Rattle.differences_text.proofs.Lines.{lines_both}
use Rattle.differences_text.proofs.Longest.{key_long, one_line, largest_long}
use Rattle.differences_text.proofs.Refusals.{games, value_told}

-- a start, 1,001 actions of which the first thousand are offers by white, and then a move
unfoldable roll : ℕ → List ℕ → ℕ → List ℕ
roll man rest low = replicate squares man ++ (rest ++ ((233 ∷ 7 ∷ []) ++ (replicate 1000 4 ++ (2 ∷ low ∷ 223 ∷ 1 ∷ []))))

one : List ℕ
one = roll 10 (0 ∷ 0 ∷ 0 ∷ 0 ∷ 143 ∷ 78 ∷ 142 ∷ 78 ∷ []) 255

other : List ℕ
other = roll 11 (1 ∷ 3 ∷ 3 ∷ 8 ∷ 142 ∷ 78 ∷ 143 ∷ 78 ∷ []) 254

both : BothRead limits one other
unfolding roll one other all_at_most behind read_groups largest_numbers is_code put_number one_number read_numbers full_by half_by read_counters moved_by
    coded put_action next_action read_actions with_actions with_count with_counts with_front read_by roll_answer judged_by
both = record { first_bytes = refl; second_bytes = refl; first = refl; second = refl }

-- the lines, the action's last
starts : List Difference
starts = start_differences 0 (replicate squares 10 ++ (0 ∷ 0 ∷ 0 ∷ 0 ∷ 9999 ∷ 9998 ∷ [])) (replicate squares 11 ++ (1 ∷ 3 ∷ 3 ∷ 8 ∷ 9998 ∷ 9999 ∷ []))

lines : roll_differences limits one other ≡ starts ++ (difference (action_key 1000) 458738 458722 ∷ [])
unfolding roll one other behind read_groups largest_numbers is_code put_number one_number read_numbers full_by half_by read_counters moved_by coded put_action
    next_action read_actions with_actions with_count with_counts with_front read_by start_numbers start_key if_differs start_differences action_numbers
    action_difference differences starts
lines = refl

starts_long : length (lines_text starts) ≡ 632
unfolding starts ascii digits decimal start_key if_differs start_differences line_text lines_text
starts_long = refl

six_digits : length (decimal 458722) ≡ 6
unfolding digits
six_digits = ap length (decimal_in 5 458722 (omega arith))

four_digits : length (decimal 1000) ≡ 4
unfolding digits
four_digits = ap length (decimal_in 3 1000 (omega arith))

text_long : length (differences_text limits one other) ≡ 658
unfolding differences_text
text_long =
    let last = difference (action_key 1000) 458738 458722 ∷ [] in
    ap (λ (ds : List Difference). length (lines_text ds)) lines
    ∙ ap length (lines_both starts last)
    ∙ omega (
      arith,
      length-append (lines_text starts) (lines_text last),
      starts_long,
      one_line (action_key 1000) 458738 458722,
      key_long 1000,
      four_digits,
      largest_long,
      six_digits,
    )

pub longest_is_reached : LongestIsReached
longest_is_reached room =
    record {
      first = one;
      second = other;
      both = both;
      long = value_told limits one other room (games limits one other both).passes ∙ text_long;
    }
