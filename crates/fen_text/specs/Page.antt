-- A page of FENs (document 02, order 7): one call takes lines and two lent rooms, 68 bytes and two numbers per line, and puts there the record, answer
-- number and offset that the single reader gives. Either room too short refuses the whole call, with 7 and the number of lines.
-- Assumes nothing.
use Rattle.std.specs.Prelude.{ℕ, ◌*◌, Bool, cond, ◌&&◌, List, [], ◌∷◌, leb, length}
use Rattle.answer.specs.declared.Answer.{Answer}
use Rattle.answer.specs.Answer.{accepted, too_short, overwrite}
use Rattle.board_builder.specs.BoardBuilder.{numbers, record_size}
use Rattle.fen_text.specs.Read.{read_fen}
use Rattle.fen_text.specs.Lines.{lines, over_lines}

-- the single reader's record of a line, as its 68 numbers
abbrev pub record_of : List ℕ → List ℕ
record_of line = numbers (read_fen line).board

-- its answer number, and its offset, from the line's start, 0 if the line is accepted
abbrev pub told_of : List ℕ → List ℕ
told_of line = (read_fen line).number ∷ (read_fen line).offset ∷ []

-- how many numbers that is
abbrev pub told_size : ℕ
told_size = 2

abbrev pub line_count : List ℕ → ℕ
line_count s = length (lines s)

abbrev pub page_records : List ℕ → List ℕ
page_records s = over_lines record_of (lines s)

abbrev pub page_told : List ℕ → List ℕ
page_told s = over_lines told_of (lines s)

-- the records of the text's lines fit a room of the first length and their numbers a room of the second
unfoldable pub page_fits : List ℕ → ℕ → ℕ → Bool
page_fits s records told = leb (record_size * line_count s) records && leb (told_size * line_count s) told

unfoldable pub page_answer : List ℕ → ℕ → ℕ → Answer
page_answer s records told = cond (page_fits s records told) (accepted (line_count s)) (too_short (line_count s))

-- what the call leaves in the room of records, beside a room of that many numbers, and in the room of numbers, beside a room of that many bytes
unfoldable pub records_left : List ℕ → List ℕ → ℕ → List ℕ
records_left s records told = cond (page_fits s (length records) told) (overwrite (page_records s) records) records

unfoldable pub told_left : List ℕ → ℕ → List ℕ → List ℕ
told_left s records told = cond (page_fits s records (length told)) (overwrite (page_told s) told) told
