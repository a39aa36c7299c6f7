-- The reader and the namer of a form of SAN as a host calls them, with their whole answers: for any form, and for the two that there are, by the
-- definitions that the contracts of the public functions cite.
-- Assumes nothing.
use Rattle.std.specs.Prelude.{ℕ, List}
use Rattle.answer.specs.Answer.{write_answer, write_bytes}
use Rattle.board_builder.specs.declared.BoardBuilder.{BoardBuilder}
use Rattle.san_text.specs.Form.{Form, read_answer}
use Rattle.san_text.specs.Name.{name_text, name_check}
use Rattle.san_text.specs.Paper.{from_san}
use Rattle.san_text.specs.Standard.{from_san_standard}
use Rattle.san_text.specs.Promises.{Reader, Namer, namer, standard_namer}

pub record Calls : Type 0 where
  pub read : Reader
  pub name : Namer

-- for any form
abbrev pub calls_of : Form → Calls
calls_of F = record {
  read = λ (b : BoardBuilder) (moves text : List ℕ). read_answer F b moves text;
  name = record {
    answer = λ (b : BoardBuilder) (moves : List ℕ) (m room : ℕ). write_answer (name_check F b moves m) (name_text F b moves m) room;
    room = λ (b : BoardBuilder) (moves : List ℕ) (m : ℕ) (out : List ℕ). write_bytes (name_check F b moves m) (name_text F b moves m) out;
  };
}

-- for document 01's form and the standard's
abbrev pub paper_calls : Calls
paper_calls = record { read = from_san; name = namer }

abbrev pub standard_calls : Calls
standard_calls = record { read = from_san_standard; name = standard_namer }
