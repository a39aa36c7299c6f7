-- `empty_up_to` of lib.rt meets its contract: r ≡ empty_up_to (now squares.entry) stop step 6 from.
use mathlib.Core.Path.{◌≡◌}
use Prim.Native.Nat.{◌-◌, ◌<◌}
use Rattle.move_laws.specs.Apart.{empty_up_to}
use Rattle.legal.proofs.empty_up_to.Given as goal

abbrev pub invariant-loop : goal.invariant-loop
invariant-loop l =
    record { under : l.at < 128; left : empty_up_to l.squares l.stop l.step 6 l.from ≡ empty_up_to l.squares l.stop l.step (6 - l.counter) l.at }
