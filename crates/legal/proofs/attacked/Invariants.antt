-- `attacked` of lib.rt meets its contract: r ≡ attacked (now squares.entry) side t.
use mathlib.Core.Path.{◌≡◌}
use Rattle.move_laws.specs.Attack.{attacked_below, attacked}
use Rattle.legal.proofs.attacked.Given as goal

abbrev pub invariant-loop-s : goal.invariant-loop-s
invariant-loop-s l = attacked l.squares l.side.number l.t ≡ attacked_below l.squares l.side.number l.t l.s
