-- The program keys, line by line and page by page: a key, `! N OFFSET` for a refused line, and how far a room of bytes goes. A line that is answered wants 86
-- bytes of room.
-- Assumes nothing.
use Rattle.std.specs.Prelude.{ℕ, ◌≡◌, List, ◌++◌, replicate}
use Rattle.answer.specs.Ascii.{ascii}
use Rattle.key_line.specs.declared.page.Paged.{Paged}
use Rattle.key_line.specs.KeyLine.{key_line}
use Rattle.key_line.specs.KeyPage.{keys_text, longest_line, key_page, key_room}
use Rattle.key_line.specs.Runs.{put_out}

-- an accepted line, a refused one, an accepted one, and one that is not ended
abbrev pub three_ended : List ℕ
three_ended = ascii " w - -\n8/8 w -\n w - -\n8/8"

abbrev pub page_is : ℕ → ℕ → ℕ → ℕ → Paged
page_is taken ready accepted refused = record { taken = taken; ready = ready; accepted = accepted; refused = refused }

pub record KeysLineByLine : Type 0 where
  pub key : key_line (ascii " w - -") ≡ ascii "8/8/8/8/8/8/8/8 w - - 0 1\n"
  pub refused : key_line (ascii "8/8 w -") ≡ ascii "! 18 7\n"
  pub refused_at_0 : key_line (ascii "x w - -") ≡ ascii "! 19 0\n"
  pub whole : keys_text three_ended ≡ ascii "8/8/8/8/8/8/8/8 w - - 0 1\n! 18 7\n8/8/8/8/8/8/8/8 w - - 0 1\n! 18 3\n"
  pub longest : longest_line ≡ 86

-- 26 bytes for a key of the empty board, 7 for the refusal: behind both, 86 of 119 are left
pub record KeysPageByPage : Type 0 where
  pub three : key_page three_ended 119 ≡ page_is 22 59 2 1
  pub two : key_page three_ended 118 ≡ page_is 15 33 1 1
  pub none : key_page three_ended 85 ≡ page_is 0 0 0 0
  pub refused_at_0 : key_page (ascii "x w - -\n") 86 ≡ page_is 8 7 0 1
  pub bytes : key_room three_ended (replicate 119 9)
      ≡ ascii "8/8/8/8/8/8/8/8 w - - 0 1\n! 18 7\n8/8/8/8/8/8/8/8 w - - 0 1\n" ++ replicate 60 9
  pub put_out_fact : put_out three_ended 118 ≡ ascii "8/8/8/8/8/8/8/8 w - - 0 1\n! 18 7\n"
