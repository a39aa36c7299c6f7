-- The program's run as its reads and writes make it, and what it amounts to, whatever the reads bring and however long the room for the answers is.
-- Assumes nothing.
use Rattle.std.specs.Prelude.{ℕ, ◌≤◌, ◌<◌, ◌+◌, ◌≡◌, List, [], ◌++◌, length, drop}
use Rattle.fen_text.specs.Lines.{ended_lines, over_lines}
use Rattle.key_line.specs.KeyLine.{key_line}
use Rattle.key_line.specs.KeyPage.{keys_text, longest_line, going, key_page}

-- what a page call puts into a room of some length
abbrev pub put_out : List ℕ → ℕ → List ℕ
put_out s room = over_lines key_line (going room (ended_lines s))

-- what has come in, what has gone out, and what is held: a read brings some bytes, which are held behind those that are; a page call takes lines from the
-- front of what is held
pub data Run : List ℕ → List ℕ → List ℕ → Type 0 where
  begins : Run [] [] []
  comes : (some input output held : List ℕ) → Run input output held → Run (input ++ some) output (held ++ some)
  goes : (room : ℕ) (input output held : List ℕ) → Run input output held → Run input (output ++ put_out held room) (drop (key_page held room).taken held)

-- at any time what has gone out, followed by the answer to what is held, is the answer to the whole input
abbrev pub EveryRunIsTheWhole : Type 0
EveryRunIsTheWhole = (input output held : List ℕ) → Run input output held → output ++ keys_text held ≡ keys_text input

-- a page call that leaves space for one more line has taken every line that is ended
abbrev pub TakesAllThatHavePlace : Type 0
TakesAllThatHavePlace =
    (s : List ℕ) (room : ℕ) → length (put_out s room) + longest_line ≤ room → ended_lines (drop (key_page s room).taken s) ≡ []

-- where no line is ended, a last line is left if there is a byte of it
pub record LastLine (held : List ℕ) : Type 0 where
  pub none : length held ≡ 0 → keys_text held ≡ []
  pub one : 0 < length held → keys_text held ≡ key_line held

abbrev pub WhatIsLeftIsOneLine : Type 0
WhatIsLeftIsOneLine = (held : List ℕ) → ended_lines held ≡ [] → LastLine held
