-- `codes_in_range` of lib.rt meets its contract: r ≡ all_at_most 12 pieces.
use mathlib.Core.Path.{◌≡◌}
use Prim.Native.Nat.{◌*◌, max}
use lib.ListN.{drop}
use Rattle.answer.specs.Numbers.{largest}
use Rattle.board_builder.proofs.codes_in_range.Given as goal

abbrev pub invariant-loop-rank : goal.invariant-loop-rank
invariant-loop-rank l = max l.most (largest (drop (l.rank * 8) l.pieces)) ≡ largest l.pieces
