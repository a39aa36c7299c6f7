-- The contract of each public function determines its answer, and what the short way says about a text is what the text says.
-- Assumes nothing.
use Rattle.std.specs.Prelude.{ℕ, List, ◌≡◌}
use Rattle.board_builder.specs.declared.BoardBuilder.{BoardBuilder}
use Rattle.san_text.specs.Text.{read_text}
use Rattle.san_text.specs.Paper.{from_san}
use Rattle.san_text.specs.Standard.{read_standard, from_san_standard}
use Rattle.san_reader.specs.CodeShort.{short_text, Told}

abbrev pub ShortTells : Type 0
ShortTells = (text : List ℕ) → Told text (short_text text)

-- between the forms: a short text says the same in both, and with a man other than a pawn both readers answer the same
pub record FormsAgree : Type 0 where
  pub says : (text : List ℕ) → ((short_text text).square ≡ 0 → ⊥) → read_text text ≡ read_standard text
  pub answers : (b : BoardBuilder) (moves text : List ℕ) → ((short_text text).square ≡ 0 → ⊥) → ((short_text text).piece ≡ 1 → ⊥)
      → from_san b moves text ≡ from_san_standard b moves text
