-- `judge_record` of lib.rt meets its contract.
use mathlib.Core.Path.{sym, ◌∙◌}
use Rattle.roll_text.specs.Roll.{largest_numbers, read_numbers}
use Rattle.roll_reader.proofs.Fronts.{front_told, record_there}
use Rattle.roll_reader.proofs.judge_record.Goals as goal

pub returns-then-numbers_in_range : goal.returns-then-numbers_in_range
returns-then-numbers_in_range c =
    let t = front_told _ (read_numbers largest_numbers c.args.s.now)
    (record_there c.args.s.now _ c.front.ensures (sym c.numbers_in_range.ensures ∙ c.if-numbers_in_range.true)) in
    record { check = t.0; number = t.1 }
