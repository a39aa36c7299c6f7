-- `write_moves` of lib.rt meets its contract: now out.exit ≡ written (now out.entry) at (move_bytes (now list.entry)).
use mathlib.Core.Path.{◌≡◌}
use lib.ListN.{take}
use Rattle.answer.specs.Parts.{written}
use Rattle.stored_position.specs.Bytes.{move_bytes}
use Rattle.stored_position.proofs.write_moves.Given as goal

abbrev pub invariant-loop-i : goal.invariant-loop-i
invariant-loop-i l = l.out ≡ written l.initial.out l.at (move_bytes (take l.i l.list))
