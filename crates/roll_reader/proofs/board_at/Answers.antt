-- `board_at` of lib.rt meets its contract: r ≡ with_counters (board_of (now s.entry)) half full.
use mathlib.Core.Path.{◌≡◌, ap, ◌∙◌}
use lib.ListN.{take}
use Rattle.std.proofs.Common.{rules}
use Rattle.board_builder.specs.declared.BoardBuilder.{BoardBuilder}
use Rattle.board_builder.specs.BoardBuilder.{record_size, board_of, with_counters}
use Rattle.board_builder.proofs.Numbers.{board_of_front}
use Rattle.roll_reader.proofs.board_at.Goals as goal

pub returns : goal.returns
returns c =
    let s = c.args.s.now in
    let same : c.unwrap.result.now ≡ take record_size s = search rules in
    ap (λ (b : BoardBuilder). with_counters b c.args.half c.args.full) (c.from_numbers.ensures ∙ ap board_of same ∙ board_of_front s)
