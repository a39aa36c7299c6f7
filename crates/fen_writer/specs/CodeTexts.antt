-- What the writer's inner functions put together. The public contracts do not speak of this.
-- Assumes nothing.
use Rattle.std.specs.Prelude.{ℕ, List, ◌++◌}
use Rattle.board_builder.specs.declared.BoardBuilder.{BoardBuilder}
use Rattle.fen_text.specs.Write.{ranks_text, tail_with, counters_text}

-- a record's text with two counters
abbrev pub text_with : BoardBuilder → ℕ → ℕ → List ℕ
text_with b half full = ranks_text 8 b.pieces ++ tail_with b (counters_text half full)
