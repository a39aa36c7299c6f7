-- `checked` of lib.rt meets its contract: r ≡ in_check (now squares.entry) side.
use mathlib.Core.Path.{◌≡◌}
use Rattle.move_laws.specs.Attack.{in_check_below, in_check}
use Rattle.legal.proofs.checked.Given as goal

abbrev pub invariant-loop-s : goal.invariant-loop-s
invariant-loop-s l = in_check l.squares l.side.number ≡ in_check_below l.squares l.side.number l.s
