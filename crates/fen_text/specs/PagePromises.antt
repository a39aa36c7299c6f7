-- What order 7 promises, each as a statement that can be read by itself, about the definitions that the page call's contract cites.
-- Assumes nothing.
use Rattle.std.specs.Prelude.{ℕ, ◌+◌, ◌*◌, ◌≤◌, ◌<◌, ◌≡◌, true, false, List, [], ◌∷◌, ◌++◌, length, take, drop, get_or}
use Rattle.answer.specs.Answer.{accepted, output_too_short, overwrite}
use Rattle.answer.specs.Numbers.{among}
use Rattle.answer.specs.Parts.{item}
use Rattle.board_builder.specs.BoardBuilder.{numbers, record_size}
use Rattle.fen_text.specs.Read.{read_fen}
use Rattle.fen_text.specs.Lines.{line_feed, lines}
use Rattle.fen_text.specs.Page.{told_size, line_count, page_fits, page_answer, records_left, told_left}

-- line k of a text
abbrev pub line_at : List ℕ → ℕ → List ℕ
line_at s k = get_or (lines s) k []

-- an accepted page: each line has the single reader's record, number and offset, and what lies past the last line's stays
pub record AsTheSingleReader (s records told : List ℕ) : Type 0 where
  pub record_of : (k : ℕ) → k < line_count s → item record_size (records_left s records (length told)) k ≡ numbers (read_fen (line_at s k)).board
  pub number_of : (k : ℕ) → k < line_count s → get_or (told_left s (length records) told) (told_size * k) 0 ≡ (read_fen (line_at s k)).number
  pub offset_of : (k : ℕ) → k < line_count s → get_or (told_left s (length records) told) (told_size * k + 1) 0 ≡ (read_fen (line_at s k)).offset
  pub records_past : drop (record_size * line_count s) (records_left s records (length told)) ≡ drop (record_size * line_count s) records
  pub told_past : drop (told_size * line_count s) (told_left s (length records) told) ≡ drop (told_size * line_count s) told

abbrev pub EachLineAsTheSingleReader : Type 0
EachLineAsTheSingleReader =
    (s records told : List ℕ) → (page_answer s (length records) (length told)).number ≡ 0 → AsTheSingleReader s records told

-- the answer: the number of lines, and 0 exactly if both rooms are long enough, otherwise 7
pub record Judged (s : List ℕ) (records told : ℕ) : Type 0 where
  pub lines_told : (page_answer s records told).value ≡ line_count s
  pub enough : record_size * line_count s ≤ records → told_size * line_count s ≤ told → (page_answer s records told).number ≡ 0
  pub records_short : records < record_size * line_count s → (page_answer s records told).number ≡ output_too_short
  pub told_short : told < told_size * line_count s → (page_answer s records told).number ≡ output_too_short

abbrev pub PagesAreJudgedSo : Type 0
PagesAreJudgedSo = (s : List ℕ) (records told : ℕ) → Judged s records told

-- a refused page changes nothing in either room
abbrev pub RefusedPagesChangeNothing : Type 0
RefusedPagesChangeNothing =
    (s records told : List ℕ) → ((page_answer s (length records) (length told)).number ≡ 0 → ⊥)
    → (records_left s records (length told) ≡ records) × (told_left s (length records) told ≡ told)

-- a page of one line without a newline is the single call
pub record OneLine (s records told : List ℕ) : Type 0 where
  pub answer : page_answer s (length records) (length told) ≡ accepted 1
  pub bytes : records_left s records (length told) ≡ overwrite (numbers (read_fen s).board) records
  pub said : told_left s (length records) told ≡ overwrite ((read_fen s).number ∷ (read_fen s).offset ∷ []) told

abbrev pub OneLineIsTheSingleCall : Type 0
OneLineIsTheSingleCall =
    (s records told : List ℕ) → 0 < length s → among line_feed s ≡ false → record_size ≤ length records → told_size ≤ length told → OneLine s records told

-- the first page ends with a newline
abbrev pub Ended : List ℕ → Type 0
Ended s = (front : List ℕ) × (s ≡ front ++ (line_feed ∷ []))

-- two pages, the second into the rooms behind what the first filled, leave what the page of both joined does
pub record Joined (a b records told : List ℕ) : Type 0 where
  pub count : line_count (a ++ b) ≡ line_count a + line_count b
  pub bytes : records_left (a ++ b) records (length told)
      ≡ take (record_size * line_count a) (records_left a records (length told))
      ++ records_left b (drop (record_size * line_count a) (records_left a records (length told))) (length (drop (told_size * line_count a) told))
  pub said : told_left (a ++ b) (length records) told
      ≡ take (told_size * line_count a) (told_left a (length records) told)
      ++ told_left b (length (drop (record_size * line_count a) records)) (drop (told_size * line_count a) (told_left a (length records) told))

abbrev pub PagesJoin : Type 0
PagesJoin = (a b records told : List ℕ) → Ended a → page_fits (a ++ b) (length records) (length told) ≡ true → Joined a b records told
