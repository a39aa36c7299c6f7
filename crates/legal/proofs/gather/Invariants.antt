-- `gather` of lib.rt meets its contract: r ≡ count_from 0 (legal_moves b); now room.exit ≡ filled_from (now room.entry) 0 (legal_moves b).
use mathlib.Core.Path.{◌≡◌}
use Prim.Native.Nat.{◌-◌, ◌<◌}
use Rattle.move_laws.specs.Legal.{legal_from, legal_moves}
use Rattle.legal.specs.CodeList.{SkipsFrom, count_from, filled_from}
use Rattle.legal.proofs.gather.Given as goal

abbrev pub invariant-loop-m : goal.invariant-loop-m
invariant-loop-m l = record {
  skips : SkipsFrom l.p.board.pieces l.p.board.side_to_move 0 l.steps;
  under : l.count < 257;
  counted : count_from 0 (legal_moves l.p.board) ≡ count_from l.count (legal_from l.p.board (l.asked - l.m) l.m);
  filled : filled_from l.initial.room 0 (legal_moves l.p.board) ≡ filled_from l.room l.count (legal_from l.p.board (l.asked - l.m) l.m);
}

abbrev pub decreases-loop-m : goal.decreases-loop-m
decreases-loop-m l = l.asked - l.m
