-- FENs: the initial position; the reader as it was before order 2, which gives 1 for every refused text; lines and where they end.
-- Assumes nothing.
use Rattle.std.specs.Prelude.{ℕ, ◌≡◌, [], ◌∷◌, replicate}
use Rattle.answer.specs.Ascii.{ascii}
use Rattle.board_builder.specs.declared.BoardBuilder.{BoardBuilder}
use Rattle.board_builder.specs.BoardBuilder.{initial_board}
use Rattle.fen_text.specs.declared.Fen.{Fen}
use Rattle.fen_text.specs.Base.{base_fen}
use Rattle.fen_text.specs.Lines.{lines, line_end, ended_lines}
use Rattle.fen_text.specs.Promises.{crate_pair, full_pair}
use Rattle.fen_text.specs.Read.{read_fen}
use Rattle.fen_text.specs.Token.{tokens, place_of}
use Rattle.fen_text.specs.Write.{full_text}
use Rattle.number_rows.specs.Records.{seventy, a_man}

abbrev pub fen_says : ℕ → ℕ → BoardBuilder → Fen
fen_says number offset b = record { number = number; offset = offset; board = b }

abbrev pub zeros : BoardBuilder
zeros = seventy (replicate 64 0) 0 0 0 0 0 0

pub record FensBefore : Type 0 where
  pub initial : full_text initial_board ≡ ascii "rnbqkbnr/pppppppp/8/8/8/8/PPPPPPPP/RNBQKBNR w KQkq - 0 1"
  -- a king on a8
  pub white : base_fen (ascii "K w Qk d6") ≡ fen_says 0 0 (seventy (a_man 56 6) 0 2 1 4 0 1)
  pub black : base_fen (ascii "K b Kq c3 9 9") ≡ fen_says 0 0 (seventy (a_man 56 6) 1 1 2 3 0 1)
  pub three_tokens : base_fen (ascii "K w Qk") ≡ fen_says 1 0 zeros
  pub two_tokens : base_fen (ascii "K w") ≡ fen_says 1 0 zeros
  pub one_token : base_fen (ascii "K") ≡ fen_says 1 0 zeros
  pub bad_placement_lem : base_fen (ascii "9 w - -") ≡ fen_says 1 0 zeros
  pub bad_side : base_fen (ascii "8 x - -") ≡ fen_says 1 0 zeros

-- the side is `w`, `W`, `b` or `B`: no byte between them, before or behind
pub record FensRefused : Type 0 where
  pub side_a : read_fen (ascii "8/8 a - -") ≡ fen_says 20 4 zeros
  pub side_c : read_fen (ascii "8/8 c - -") ≡ fen_says 20 4 zeros
  pub side_x : read_fen (ascii "8/8 x - -") ≡ fen_says 20 4 zeros
  pub side_A : read_fen (ascii "8/8 A - -") ≡ fen_says 20 4 zeros
  pub side_V : read_fen (ascii "8/8 V - -") ≡ fen_says 20 4 zeros
  pub dash : read_fen (ascii "8/8- w - -") ≡ fen_says 19 3 zeros
  pub nine : read_fen (ascii "8/9 w - -") ≡ fen_says 19 2 zeros
  -- one token, two: 18 at the end of the text; the fourth may be empty
  pub only_one : read_fen (ascii "8/8") ≡ fen_says 18 3 zeros
  pub only_two : read_fen (ascii "8/8 w") ≡ fen_says 18 5 zeros
  pub empty_fourth : read_fen (ascii "K b Kq ") ≡ fen_says 0 0 (seventy (a_man 56 6) 1 1 2 0 0 1)
  pub tab_is_no_space : tokens (56 ∷ 9 ∷ 32 ∷ 119 ∷ []) ≡ (56 ∷ 9 ∷ []) ∷ (119 ∷ []) ∷ []
  pub behind_a_smaller : place_of 98 (ascii "ab") ≡ 1
  pub behind_a_larger : place_of 98 (ascii "cab") ≡ 2

-- the longest texts of the two writers
pub record LongestTexts : Type 0 where
  pub of_the_crate : crate_pair.most ≡ 85
  pub full : full_pair.most ≡ 91

-- a tab, 9, ends no line
pub record LinesEnd : Type 0 where
  pub tab : lines (56 ∷ 9 ∷ 56 ∷ []) ≡ (56 ∷ 9 ∷ 56 ∷ []) ∷ []
  pub tab_ended : ended_lines (56 ∷ 9 ∷ 10 ∷ 56 ∷ []) ≡ (56 ∷ 9 ∷ []) ∷ []
  pub second : line_end (ascii "ab\ncd\ne") 3 ≡ 5
  pub with_the_text : line_end (ascii "ab\ncd\ne") 6 ≡ 7
