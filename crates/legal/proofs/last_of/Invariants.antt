-- `last_of` of lib.rt meets its contract: what is found, or else 64, is last_of (now squares.entry) man from.
use mathlib.Core.Path.{◌≡◌}
use Rattle.legal.specs.CodeList.{last_of}
use Rattle.legal.proofs.last_of.Given as goal

abbrev pub invariant-loop-n : goal.invariant-loop-n
invariant-loop-n l = last_of l.squares l.man l.from ≡ last_of l.squares l.man l.n
