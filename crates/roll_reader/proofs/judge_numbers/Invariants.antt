-- The numbers that are left are judged as all are.
use mathlib.Core.Path.{◌≡◌}
use lib.ListN.{drop}
use Rattle.roll_text.specs.Roll.{largest_numbers, read_numbers}
use Rattle.roll_reader.specs.CodeWalk.{front_check}
use Rattle.roll_reader.proofs.judge_numbers.Given as goal

abbrev pub invariant-loop-i : goal.invariant-loop-i
invariant-loop-i l = front_check (read_numbers largest_numbers l.s) ≡ front_check (read_numbers (drop l.i largest_numbers) (drop l.i l.s))
