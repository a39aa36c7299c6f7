-- What is left of the text is judged as the whole is.
use mathlib.Core.Path.{◌≡◌}
use Prim.Native.Nat.{◌-◌, ◌≤◌}
use lib.ListN.{length, drop}
use Rattle.roll_text.specs.Roll.{read_actions}
use Rattle.roll_reader.specs.CodeWalk.{acts_check}
use Rattle.roll_reader.proofs.judge_actions.Given as goal

abbrev pub invariant-loop : goal.invariant-loop
invariant-loop l = (l.at ≤ length l.s) × (acts_check (read_actions l.n l.most l.s) ≡ acts_check (read_actions (l.n - l.counter) l.left (drop l.at l.s)))
