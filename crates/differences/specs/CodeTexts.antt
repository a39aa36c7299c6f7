-- A text that is put together, and its three parts: the lines of two starts' 68 numbers, which rolls have in front, one byte per number; those of their
-- counters; and the line of the first action that differs between two texts of actions.
-- Assumes nothing.
use Rattle.std.specs.Prelude.{ℕ, ◌+◌, List, [], ◌∷◌, length, take}
use Rattle.board_builder.specs.BoardBuilder.{record_size}
use Rattle.roll_text.specs.Number.{number_text}
use Rattle.differences_text.specs.Differences.{start_differences, action_difference, lines_text}
use Rattle.roll_reader.specs.declared.Checked.{Checked}
use Rattle.differences.specs.CodeEntries.{text_numbers}

-- the 68 numbers that a roll has in front
abbrev pub start_of : List ℕ → List ℕ
start_of s = take record_size s

abbrev pub start_lines : List ℕ → List ℕ → List ℕ
start_lines s t = lines_text (start_differences 0 (start_of s) (start_of t))

-- for one start's half-move clock and move number, and the other's
abbrev pub count_lines : ℕ → ℕ → ℕ → ℕ → List ℕ
count_lines half full clock number = lines_text (start_differences record_size (half ∷ full ∷ []) (clock ∷ number ∷ []))

abbrev pub counted_lines : Checked → Checked → List ℕ
counted_lines g h = count_lines g.half_moves g.full_moves h.half_moves h.full_moves

-- where a roll's actions begin: behind the 68 numbers, the counters and the count
abbrev pub actions_at : ℕ → ℕ → ℕ → ℕ
actions_at half full count = record_size + (length (number_text half) + length (number_text full)) + length (number_text count)

-- for the first n actions of one text and the first m of another
abbrev pub action_line : ℕ → List ℕ → ℕ → List ℕ → List ℕ
action_line n l m k = lines_text (action_difference 0 (text_numbers n l) (text_numbers m k))
