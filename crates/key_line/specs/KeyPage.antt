-- What the program keys writes for its input: the answers to its lines, joined. And what becomes of one room of bytes: the lines in it that are ended are
-- answered, from the front, as long as a line of the longest kind fits in the room for the answers.
-- Assumes nothing.
use Rattle.std.specs.Prelude.{ℕ, ◌+◌, ◌-◌, Bool, cond, List, [], ◌∷◌, eqb, leb, length}
use Rattle.answer.specs.Answer.{overwrite}
use Rattle.fen_text.specs.Read.{read_fen}
use Rattle.fen_text.specs.Lines.{lines, ended_lines, over_lines}
use Rattle.key_line.specs.declared.Lined.{Lined}
use Rattle.key_line.specs.declared.page.Paged.{Paged}
use Rattle.key_line.specs.KeyLine.{key_line}

-- for a whole input
unfoldable pub keys_text : List ℕ → List ℕ
keys_text s = over_lines key_line (lines s)

-- the longest line that is written: a key of 85 bytes and a newline
abbrev pub longest_line : ℕ
longest_line = 86

-- a line has a key, or is refused
abbrev pub is_key : List ℕ → Bool
is_key line = eqb (read_fen line).number 0

-- one line, put behind the first `at` bytes of a room
abbrev pub lined_at : ℕ → List ℕ → Lined
lined_at at line = record { ready = at + length (key_line line); accepted = is_key line }

-- those of some lines that go out into a room
unfoldable pub going : ℕ → List (List ℕ) → List (List ℕ)
going room [] = []
going room (l ∷ ls) = cond (leb longest_line room) (l ∷ going (room - length (key_line l)) ls) []

-- the bytes that lines take with the newlines that end them
unfoldable pub bytes_of : List (List ℕ) → ℕ
bytes_of [] = 0
bytes_of (l ∷ ls) = length l + 1 + bytes_of ls

unfoldable pub keys_among : List (List ℕ) → ℕ
keys_among [] = 0
keys_among (l ∷ ls) = cond (is_key l) 1 0 + keys_among ls

-- the bytes taken from the front of the text, those put into the room, and how many of the lines were accepted and refused
abbrev pub paged_of : List (List ℕ) → Paged
paged_of ls = record {
  taken = bytes_of ls;
  ready = length (over_lines key_line ls);
  accepted = keys_among ls;
  refused = length ls - keys_among ls;
}

abbrev pub key_page : List ℕ → ℕ → Paged
key_page s room = paged_of (going room (ended_lines s))

abbrev pub key_room : List ℕ → List ℕ → List ℕ
key_room s out = overwrite (over_lines key_line (going (length out) (ended_lines s))) out
